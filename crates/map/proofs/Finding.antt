-- Finding, dropping, counting and adding entries look at no value. Assumes nothing.
use mathlib.Core.Path.{◌≡◌, refl, ap, ap₂}
use mathlib.Core.List.{List, [], ◌∷◌, ◌++◌}
use mathlib.Core.Bool.{Bool, true, false, cond}
use Prim.Native.Nat.{ℕ, suc, ◌≤◌, ◌<◌}
use native.Mathlib.Omega.{arith}
use lib.ListN.{length}
use borrow.Author.Tests.{ne_eqb}
use Rattle.map.specs.State.{Entry, find, without}
use Rattle.map.specs.Table.{Each}
use Rattle.map.specs.Revalue.{entry_with, entries_with, found_with}

-- what is made of the one of two that a test picks
pub cond_of : {A B : Type 0} (f : A → B) (t : Bool) (x y : A) → f (cond t x y) ≡ cond t (f x) (f y)
cond_of f true x y = refl
cond_of f false x y = refl

module _ (v : ℕ) (w : List ℕ) where
  -- a test that does not look at the value
  module _ (p : Entry → Bool) (blind : (e : Entry) → p (entry_with v w e) ≡ p e) where
    pub find_with : (es : List Entry) → find p (entries_with v w es) ≡ found_with v w (find p es)
    unfolding find entries_with
    find_with [] = refl
    find_with (e ∷ es) = rw (blind e, find_with es, cond_of (found_with v w) (p e))

    pub without_with : (es : List Entry) → without p (entries_with v w es) ≡ entries_with v w (without p es)
    unfolding without entries_with
    without_with [] = refl
    without_with (e ∷ es) = rw (blind e, without_with es, cond_of (entries_with v w) (p e))

  pub length_with : (es : List Entry) → length (entries_with v w es) ≡ length es
  unfolding entries_with
  length_with [] = refl
  length_with (e ∷ es) = ap suc (length_with es)

  pub append_with : (a b : List Entry) → entries_with v w (a ++ b) ≡ entries_with v w a ++ entries_with v w b
  unfolding entries_with
  append_with [] b = refl
  append_with (e ∷ a) b = rw (append_with a b)

  -- an entry of another version keeps its value
  entry_other : (e : Entry) → (e.version ≡ v → ⊥) → entry_with v w e ≡ e
  entry_other e h = rw (ne_eqb e.version v h)

  -- and so do all, where each version is below v
  pub fresh : (n : ℕ) (es : List Entry) → Each (λ e. e.version ≤ n) es → n < v → entries_with v w es ≡ es
  unfolding entries_with
  fresh n [] i h = refl
  fresh n (e ∷ es) i h = ap₂ ◌∷◌ (entry_other e (λ q. omega (arith, i.0))) (fresh n es i.1 h)
