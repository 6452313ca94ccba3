-- Digits and bytes by their places, and what reading digits finds. Assumes nothing.
use mathlib.Core.Path.{◌≡◌, refl, ◌∙◌}
use mathlib.Core.List.{List, [], ◌∷◌}
use mathlib.Core.Bool.{Bool, true, false, cond, ◌&&◌}
use mathlib.Core.Option.{none, some}
use Prim.Native.Nat.{ℕ, zero, suc, ◌+◌, ◌*◌, ◌/◌, ◌%◌, ◌<◌}
use native.Mathlib.Omega.{arith}
use lib.ListN.{length, get_or}
use Rattle.wire.proofs.Laws.{never, both}
use Rattle.wire.proofs.Basics.{if_none}
use Rattle.hexadecimal.specs.Hex.{digit_of, is_digit, digit_value, to_hex, onto, from_hex}
use Rattle.hexadecimal.specs.Number.{are_digits}
use Rattle.hexadecimal.proofs.HexLaws.{onto_digits}

-- the bytes of pairs of digits, and nothing of a last digit that is alone
unfoldable pub pairs : List ℕ → List ℕ
pairs [] = []
pairs (a ∷ []) = []
pairs (a ∷ (b ∷ s)) = (digit_value a * 16 + digit_value b) ∷ pairs s

pub pairs_length : (s : List ℕ) → length (pairs s) ≡ length s / 2
unfolding pairs
pairs_length [] = refl
pairs_length (a ∷ []) = refl
pairs_length (a ∷ (b ∷ s)) = omega (arith, pairs_length s)

twice : (i : ℕ) → 2 * suc i ≡ suc (suc (2 * i))
twice i = omega arith

twice-one : (i : ℕ) → 2 * suc i + 1 ≡ suc (suc (2 * i + 1))
twice-one i = omega arith

pub pairs-at : (s : List ℕ) (i : ℕ) → i < length s / 2 → get_or (pairs s) i 0 ≡ digit_value (get_or s (2 * i) 0) * 16 + digit_value (get_or s (2 * i + 1) 0)
unfolding pairs
pairs-at [] i h = absurd (omega arith)
pairs-at (a ∷ []) i h = absurd (omega arith)
pairs-at (a ∷ (b ∷ s)) zero h = refl
pairs-at (a ∷ (b ∷ s)) (suc i) h = rw (twice-one i, twice i) (pairs-at s i (omega arith))

pub hex_high : (s : List ℕ) (i : ℕ) → i < length s → get_or (to_hex s) (2 * i) 0 ≡ digit_of (get_or s i 0 / 16)
unfolding to_hex
hex_high [] i h = absurd (omega arith)
hex_high (b ∷ s) zero h = refl
hex_high (b ∷ s) (suc i) h = rw (twice i) (hex_high s i (omega arith))

pub hex_low : (s : List ℕ) (i : ℕ) → i < length s → get_or (to_hex s) (2 * i + 1) 0 ≡ digit_of (get_or s i 0 % 16)
unfolding to_hex
hex_low [] i h = absurd (omega arith)
hex_low (b ∷ s) zero h = refl
hex_low (b ∷ s) (suc i) h = rw (twice-one i) (hex_low s i (omega arith))

-- where all are digits, each is one
pub digit_at : (s : List ℕ) (i : ℕ) → are_digits s ≡ true → i < length s → is_digit (get_or s i 0) ≡ true
unfolding are_digits
digit_at [] i e h = absurd (omega arith)
digit_at (a ∷ s) zero e h = (both (is_digit a) (are_digits s) e).0
digit_at (a ∷ s) (suc i) e h = digit_at s i (both (is_digit a) (are_digits s) e).1 (omega arith)

-- reading: an even number of digits, an odd number, a byte that is no digit
pub from-digits : (s : List ℕ) → are_digits s ≡ true → length s % 2 ≡ 0 → from_hex s ≡ some (pairs s)
unfolding from_hex are_digits pairs
from-digits [] e h = refl
from-digits (a ∷ []) e h = absurd (omega arith)
from-digits (a ∷ (b ∷ s)) e h =
    let p = both (is_digit a) (is_digit b && are_digits s) e in
    let q = both (is_digit b) (are_digits s) p.1 in
    onto_digits a b s p.0 q.0 ∙ rw (from-digits s q.1 (omega arith))

pub from_odd : (s : List ℕ) → length s % 2 ≡ 1 → from_hex s ≡ none
unfolding from_hex
from_odd [] h = absurd (omega arith)
from_odd (a ∷ []) h = refl
from_odd (a ∷ (b ∷ s)) h = rw (from_odd s (omega arith)) (if_none (is_digit a && is_digit b))

pub from-other : (s : List ℕ) → are_digits s ≡ false → from_hex s ≡ none
unfolding from_hex are_digits
from-other [] e = never (cc)
from-other (a ∷ []) e = refl
from-other (a ∷ (b ∷ s)) e = go (is_digit a) (is_digit b) e (from-other s)
  where
    go : (t u : Bool) → (t && (u && are_digits s)) ≡ false → (are_digits s ≡ false → from_hex s ≡ none)
        → cond (t && u) (onto (digit_value a * 16 + digit_value b) (from_hex s)) none ≡ none
    go true true e r = rw (r e)
    go true false e r = refl
    go false u e r = refl
