-- Bytes as lowercase hexadecimal digits, two a byte, the higher first.
use Rattle.std.specs.Prelude.{List, [], ◌∷◌, ◌++◌, Bool, cond, ◌&&◌, ℕ, ◌+◌, ◌-◌, ◌*◌, ◌/◌, ◌%◌, leb, ltb}
use Rattle.std.proofs.Math.Option.{Option, none, some}

-- the digit of a number below 16: 0 to 9, then a to f
unfoldable pub digit_of : ℕ → ℕ
digit_of n = cond (ltb n 10) (0x30 + n) (0x57 + n)

-- whether a byte is such a digit, and the number that it stands for
unfoldable pub is_digit : ℕ → Bool
is_digit b = cond (leb b 0x39) (leb 0x30 b) (leb 0x61 b && leb b 0x66)

unfoldable pub digit_value : ℕ → ℕ
digit_value b = cond (leb b 0x39) (b - 0x30) (b - 0x57)

unfoldable pub to_hex : List ℕ → List ℕ
to_hex [] = []
to_hex (b ∷ bs) = digit_of (b / 16) ∷ digit_of (b % 16) ∷ to_hex bs

-- a line of digits with its line end: "In all files a line end is the one byte 0A."
unfoldable pub line : List ℕ → List ℕ
line bs = to_hex bs ++ (0x0a ∷ [])

abbrev pub onto : ℕ → Option (List ℕ) → Option (List ℕ)
onto b none = none
onto b (some bs) = some (b ∷ bs)

-- an even number of digits, read; anything else is none
unfoldable pub from_hex : List ℕ → Option (List ℕ)
from_hex [] = some []
from_hex (a ∷ []) = none
from_hex (a ∷ (b ∷ s)) = cond (is_digit a && is_digit b) (onto (digit_value a * 16 + digit_value b) (from_hex s)) none
