-- The order of keys is one: no key stands before itself, of two keys that differ exactly one stands before the other, and it goes on. Assumes nothing.
use mathlib.Core.Path.{◌≡◌, refl, sym, ap₂, ◌∙◌}
use mathlib.Core.List.{List, [], ◌∷◌}
use mathlib.Core.Bool.{Bool, true, false, cond, not}
use Prim.Native.Nat.{ℕ}
use native.Mathlib.Omega.{arith}
use lib.Dec.{eqb, ltb}
use borrow.Author.Tests.{eqb-true, eqb-false, eq-eqb, ne_eqb, ltb-true, ltb-false, lt-ltb, le-ltb}
use Rattle.wire.proofs.Laws.{never}
use Rattle.wire.specs.Before.{before}

pub before_self : (a : List ℕ) → before a a ≡ false
unfolding before
before_self [] = refl
before_self (x ∷ a) = rw (eq-eqb x x refl) (before_self a)

-- keys of which one stands before the other differ
pub before-differ : (a b : List ℕ) → before a b ≡ true → a ≡ b → ⊥
before-differ a b h e = let z : before b b ≡ true = rw e at h in let f = before_self b in let y : ◌≡◌ {A = ℕ} 0 1 = cc in omega arith

turned_ltb : (x y : ℕ) → (x ≡ y → ⊥) → ltb y x ≡ not (ltb x y)
turned_ltb x y d = go (ltb x y) refl
  where
    go : (u : Bool) → ltb x y ≡ u → ltb y x ≡ not u
    go true e = le-ltb y x (omega (arith, ltb-true x y e))
    go false e = let l = ltb-false x y e in lt-ltb y x (omega (arith, d))

-- of two keys that differ exactly one stands before the other
pub before-apart : (a b : List ℕ) → (a ≡ b → ⊥) → before b a ≡ not (before a b)
unfolding before
before-apart [] [] d = absurd (d refl)
before-apart [] (y ∷ b) d = refl
before-apart (x ∷ a) [] d = refl
before-apart (x ∷ a) (y ∷ b) d = go (eqb x y) refl (λ q. before-apart a b (λ e. d (ap₂ ◌∷◌ q e)))
  where
    go : (u : Bool) → eqb x y ≡ u → (x ≡ y → before b a ≡ not (before a b)) → cond (eqb y x) (before b a) (ltb y x) ≡ not (cond u (before a b) (ltb x y))
    go true e ih = let q = eqb-true x y e in rw (eq-eqb y x (sym q)) (ih q)
    go false e ih = let q = eqb-false x y e in rw (ne_eqb y x (λ f. q (sym f))) (turned_ltb x y q)

-- a key that stands before one which stands before a third stands before the third
pub before-onward : (a b c : List ℕ) → before a b ≡ true → before b c ≡ true → before a c ≡ true
unfolding before
before-onward [] [] c h g = never (cc)
before-onward [] (y ∷ b) [] h g = never (cc)
before-onward [] (y ∷ b) (z ∷ c) h g = refl
before-onward (x ∷ a) [] c h g = never (cc)
before-onward (x ∷ a) (y ∷ b) [] h g = never (cc)
before-onward (x ∷ a) (y ∷ b) (z ∷ c) h g = go (eqb x y) (eqb y z) refl refl h g (before-onward a b c)
  where
    go : (u v : Bool) → eqb x y ≡ u → eqb y z ≡ v → cond u (before a b) (ltb x y) ≡ true → cond v (before b c) (ltb y z) ≡ true
        → (before a b ≡ true → before b c ≡ true → before a c ≡ true) → cond (eqb x z) (before a c) (ltb x z) ≡ true
    go true true p q h g ih = rw (eq-eqb x z (eqb-true x y p ∙ eqb-true y z q)) (ih h g)
    go true false p q h g ih =
        let e = eqb-true x y p in
        let l = ltb-true y z g in
        rw (ne_eqb x z (λ f. omega (arith, e, l, f))) (lt-ltb x z (omega (arith, e, l)))
    go false true p q h g ih =
        let e = eqb-true y z q in
        let l = ltb-true x y h in
        rw (ne_eqb x z (λ f. omega (arith, e, l, f))) (lt-ltb x z (omega (arith, e, l)))
    go false false p q h g ih =
        let l = ltb-true x y h in
        let m = ltb-true y z g in
        rw (ne_eqb x z (λ f. omega (arith, l, m, f))) (lt-ltb x z (omega (arith, l, m)))
