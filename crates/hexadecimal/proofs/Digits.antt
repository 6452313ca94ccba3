-- One digit: its range, the number that it stands for, and the way back. Assumes nothing.
use mathlib.Core.Path.{◌≡◌, refl}
use mathlib.Core.Bool.{Bool, true, false, cond, ◌&&◌}
use Prim.Native.Nat.{ℕ, ◌+◌, ◌-◌, ◌≤◌, ◌<◌}
use native.Mathlib.Decide.{dec_lt}
use native.Mathlib.Omega.{arith}
use lib.Dec.{leb}
use borrow.Author.Tests.{leb-true, le-leb, lt-leb, lt-ltb, le-ltb}
use Rattle.wire.proofs.Laws.{both, and}
use Rattle.hexadecimal.specs.Hex.{digit_of, is_digit, digit_value}

pub data Range (b : ℕ) : Type 0 where
  decimal : 0x30 ≤ b → b ≤ 0x39 → Range b
  letter : 0x61 ≤ b → b ≤ 0x66 → Range b

digit-range : (b : ℕ) → is_digit b ≡ true → Range b
unfolding is_digit
digit-range b e = go (leb b 0x39) refl e
  where
    go : (t : Bool) → leb b 0x39 ≡ t → cond t (leb 0x30 b) (leb 0x61 b && leb b 0x66) ≡ true → Range b
    go true p q = decimal (leb-true 0x30 b q) (leb-true b 0x39 p)
    go false p q = let w = both (leb 0x61 b) (leb b 0x66) q in letter (leb-true 0x61 b w.0) (leb-true b 0x66 w.1)

value-decimal : (b : ℕ) → b ≤ 0x39 → digit_value b ≡ b - 0x30
unfolding digit_value
value-decimal b h = rw (le-leb b 0x39 h)

value-letter : (b : ℕ) → 0x39 < b → digit_value b ≡ b - 0x57
unfolding digit_value
value-letter b h = rw (lt-leb b 0x39 h)

pub of-decimal : (n : ℕ) → n < 10 → digit_of n ≡ 0x30 + n
unfolding digit_of
of-decimal n h = rw (lt-ltb n 10 h)

pub of-letter : (n : ℕ) → 10 ≤ n → digit_of n ≡ 0x57 + n
unfolding digit_of
of-letter n h = rw (le-ltb n 10 h)

-- a digit stands for a number below 16, and is that number's digit
pub value_below : (b : ℕ) → is_digit b ≡ true → digit_value b < 16
value_below b e = go (digit-range b e)
  where
    go : Range b → digit_value b < 16
    go (decimal l h) = omega (arith, value-decimal b h)
    go (letter l h) = omega (arith, value-letter b (omega arith))

pub digit-back : (b : ℕ) → is_digit b ≡ true → digit_of (digit_value b) ≡ b
digit-back b e = go (digit-range b e)
  where
    go : Range b → digit_of (digit_value b) ≡ b
    go (decimal l h) = rw (value-decimal b h, of-decimal (b - 0x30) (omega arith)) (omega arith)
    go (letter l h) = rw (value-letter b (omega arith), of-letter (b - 0x57) (omega arith)) (omega arith)

-- a number below 16 has a digit, which stands for it
pub of-digit : (n : ℕ) → n < 16 → is_digit (digit_of n) ≡ true
unfolding is_digit
of-digit n l = go (dec_lt n 10)
  where
    go : Dec (n < 10) → is_digit (digit_of n) ≡ true
    go (yes h) = rw (of-decimal n h, le-leb (0x30 + n) 0x39 (omega arith), le-leb 0x30 (0x30 + n) (omega arith))
    go (no h) =
        rw (of-letter n (omega arith), lt-leb (0x57 + n) 0x39 (omega arith)) (and (le-leb 0x61 (0x57 + n) (omega arith)) (le-leb (0x57 + n) 0x66 (omega arith)))

pub of-value : (n : ℕ) → n < 16 → digit_value (digit_of n) ≡ n
of-value n l = go (dec_lt n 10)
  where
    go : Dec (n < 10) → digit_value (digit_of n) ≡ n
    go (yes h) = rw (of-decimal n h, value-decimal (0x30 + n) (omega arith)) (omega arith)
    go (no h) = rw (of-letter n (omega arith), value-letter (0x57 + n) (omega arith)) (omega arith)
