-- Digits read as numbers: one digit, and those of a value.
use Rattle.std.specs.Prelude.{List, Bool, cond, ℕ, length}
use Rattle.std.specs.List.{list_all}
use Rattle.std.specs.Prelude as rust
use Rattle.std.proofs.Math.Option.{Option, none, some}
use Rattle.wire.specs.Codec.{Codec, exactly}
use Rattle.hexadecimal.specs.Hex.{is_digit, digit_value, from_hex}

-- the number of a digit; 0 for any other byte
unfoldable pub value_of : ℕ → ℕ
value_of b = cond (is_digit b) (digit_value b) 0

-- whether each byte is a digit
unfoldable pub are_digits : List ℕ → Bool
are_digits s = list_all is_digit s

-- what bytes and digits say in a format: the value that takes all of them, if there is one
abbrev pub from_bytes : {A : Type 0} → Codec A → Option (List ℕ) → Option A
from_bytes c none = none
from_bytes c (some bs) = exactly (length bs) (c.dec bs)

unfoldable pub from_digits : {A : Type 0} → Codec A → List ℕ → Option A
from_digits c s = from_bytes c (from_hex s)

abbrev pub as_number : rust.Option ℕ → Option ℕ
as_number (rust.Some n) = some n
as_number rust.None = none
