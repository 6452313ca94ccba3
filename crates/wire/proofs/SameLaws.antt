-- The test of `same_list` is equality. Assumes nothing.
use mathlib.Core.Path.{◌≡◌, refl, ap₂}
use mathlib.Core.List.{List, [], ◌∷◌}
use mathlib.Core.Bool.{Bool, true, false}
use Prim.Native.Nat.{ℕ}
use lib.Dec.{eqb}
use borrow.Author.Tests.{eqb-true, eq-eqb}
use Rattle.wire.specs.Same.{same_list}
use Rattle.wire.proofs.Laws.{never, both}

pub same_true : (a b : List ℕ) → same_list a b ≡ true → a ≡ b
unfolding same_list
same_true [] [] e = refl
same_true [] (y ∷ b) e = never (cc)
same_true (x ∷ a) [] e = never (cc)
same_true (x ∷ a) (y ∷ b) e = let h = both (eqb x y) (same_list a b) e in ap₂ ◌∷◌ (eqb-true x y h.0) (same_true a b h.1)

pub same_refl : (a : List ℕ) → same_list a a ≡ true
unfolding same_list
same_refl [] = refl
same_refl (x ∷ a) = rw (eq-eqb x x refl) (same_refl a)

pub same-other : (a b : List ℕ) → (a ≡ b → ⊥) → same_list a b ≡ false
same-other a b h = go (same_list a b) refl
  where
    go : (t : Bool) → same_list a b ≡ t → t ≡ false
    go true e = absurd (h (same_true a b e))
    go false e = refl

pub other_differ : (a b : List ℕ) → same_list a b ≡ false → a ≡ b → ⊥
other_differ a b e q = let y : same_list a b ≡ true = rw q (same_refl b) in never (cc)
