-- What the functions on digits answer, and what they leave of the list that they were lent.
use Rattle.std.specs.Prelude.{List, ◌++◌, cond, ℕ, length, drop, leb, Result, Ok, Err}
use Rattle.std.proofs.Math.Option.{Option, none, some}
use Rattle.hexadecimal.specs.Hex.{from_hex}
use Rattle.hexadecimal.specs.declared.DecodeError.{DecodeError}
use Rattle.hexadecimal.specs.declared.DecodeError.TheVariants.{Digits, Room}

-- the bytes at the front of the list, which else is kept; where the digits are bad, or the list too short for their bytes, it is kept whole
abbrev pub decoded_to : List ℕ → Option (List ℕ) → Result ℕ DecodeError × List ℕ
decoded_to old none = (Err Digits, old)
decoded_to old (some bs) = cond (leb (length bs) (length old)) (Ok (length bs), bs ++ drop (length bs) old) (Err Room, old)

unfoldable pub decoded : List ℕ → List ℕ → Result ℕ DecodeError × List ℕ
decoded s old = decoded_to old (from_hex s)
