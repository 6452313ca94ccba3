-- `field_cases::decode` meets its contract: a digit is below 16, and any other byte counts as 0. Assumes nothing.
use mathlib.Core.Path.{◌≡◌, refl}
use mathlib.Core.Bool.{Bool, true, false, cond}
use Prim.Native.Nat.{ℕ, ◌+◌, ◌*◌, ◌<◌}
use lib.ListN.{get_or}
use native.Mathlib.Omega.{arith}
use Rattle.hexadecimal.specs.Hex.{is_digit, digit_value}
use Rattle.hexadecimal.specs.Number.{value_of}
use Rattle.hexadecimal.proofs.Digits.{value_below}
use Rattle.field_cases.proofs.decode.Goals as goal

below : (b : ℕ) → value_of b < 16
unfolding value_of is_digit
below b = go (is_digit b) refl
  where
    go : (t : Bool) → is_digit b ≡ t → cond t (digit_value b) 0 < 16
    go true e = value_below b e
    go false e = omega arith

pub overflow_mul-out : goal.overflow_mul-out
overflow_mul-out c = omega (arith, c.value.ensures, below (get_or c.args.s.now (2 * c.loop-i.i) 0))

pub overflow_add-out : goal.overflow_add-out
overflow_add-out c = omega (arith, c.value.ensures, c.value-in-loop-i.ensures, below (get_or c.args.s.now (2 * c.loop-i.i) 0), below (get_or c.args.s.now (2 * c.loop-i.i + 1) 0))
