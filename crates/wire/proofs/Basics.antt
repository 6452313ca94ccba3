-- Small laws of tests. Assumes nothing.
use mathlib.Core.Path.{◌≡◌, refl}
use mathlib.Core.Option.{Option, none, some}
use mathlib.Core.Bool.{Bool, true, false, cond}
use mathlib.Core.Logic.{◌⊎◌, inl, inr}
use Prim.Native.Nat.{ℕ, ◌≤◌, ◌<◌}
use native.Mathlib.Omega.{arith}
use native.Mathlib.Decide.{dec_lt}
use Rattle.wire.proofs.Laws.{never}

-- what holds of both answers of a test holds of the one given
pub pick : {A : Type 0} (P : A → Type 0) (t : Bool) {x y : A} → (t ≡ true → P x) → P y → P (cond t x y)
pick P true h g = h refl
pick P false h g = g

-- a test that gives nothing either way
pub if_none : {A : Type 0} (t : Bool) → ◌≡◌ {A = Option A} (cond t none none) none
if_none true = refl
if_none false = refl

-- a test that gave something passed
pub passed : {A : Type 0} (t : Bool) (o : Option A) (x : A) → cond t o none ≡ some x → (t ≡ true) × (o ≡ some x)
passed true o x e = (refl, e)
passed false o x e = never (cc)

-- a number is below another, or not
pub lt-or_ge : (k n : ℕ) → (k < n) ⊎ (n ≤ k)
lt-or_ge k n = elim (dec_lt k n) [ yes h ↦ inl h | no h ↦ inr (omega arith) ]
