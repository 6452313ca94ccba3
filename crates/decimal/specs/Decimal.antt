-- The shortest decimal of a number as ASCII digits, highest first, and the format that sends it.
use Rattle.std.specs.Prelude.{List, [], ◌∷◌, ◌++◌, Bool, true, false, cond, ◌&&◌, ℕ, zero, suc, ◌+◌, ◌-◌, ◌*◌, ◌/◌, ◌%◌, leb, ltb}
use Rattle.std.specs.List.{list_all}
use Rattle.wire.specs.Codec.{Codec, guard, as_type, all}
use Rattle.wire.specs.Field.{limited}

-- the digits of a number that has at most n + 1
unfoldable pub digits_by : ℕ → ℕ → List ℕ
digits_by zero v = (0x30 + v) ∷ []
digits_by (suc n) v = cond (ltb v 10) ((0x30 + v) ∷ []) (digits_by n (v / 10) ++ ((0x30 + v % 10) ∷ []))

-- a vLong has at most 19 digits
unfoldable pub digits_of : ℕ → List ℕ
digits_of v = digits_by 18 v

-- digits read as a number, behind the number of the digits before them
unfoldable pub value_behind : ℕ → List ℕ → ℕ
value_behind v [] = v
value_behind v (d ∷ ds) = value_behind (v * 10 + (d - 0x30)) ds

unfoldable pub value_of : List ℕ → ℕ
value_of ds = value_behind 0 ds

unfoldable pub is_digit : ℕ → Bool
is_digit b = leb 0x30 b && leb b 0x39

unfoldable pub are_digits : List ℕ → Bool
are_digits ds = list_all is_digit ds

-- at least one digit, and no zero in front of another
unfoldable pub is_shortest : List ℕ → Bool
is_shortest [] = false
is_shortest (d ∷ []) = true
is_shortest (d ∷ (e ∷ ds)) = ltb 0x30 d

-- digits only, no leading zero but that of 0 itself, and a value of 0 to 9,223,372,036,854,775,807
unfoldable pub is_decimal : List ℕ → Bool
is_decimal ds = are_digits ds && (is_shortest ds && leb (value_of ds) 0x7fff_ffff_ffff_ffff)

-- A string that is a decimal: "6 for a name above 22 bytes or value above 19, 8, never 7, for .. a value not the shortest decimal of a vLong"
unfoldable pub decimal : Codec ℕ
decimal = as_type all value_of digits_of (guard is_decimal 8 (limited 19))
