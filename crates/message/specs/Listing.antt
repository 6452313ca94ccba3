-- The entries of a bulk reply (document 02, C-13).
use Rattle.std.specs.Prelude.{List, [], Bool, true, false, ℕ}
use Rattle.wire.specs.Codec.{Codec, seq, as_type}
use Rattle.wire.specs.Field.{limited}
use Rattle.wire.specs.Listed.{listed}
use Rattle.message.specs.Arguments.{key_limit, value_limit, is_empty}

-- "6 for a 129th entry in a reply"
abbrev pub most_listed : ℕ
most_listed = 128

-- an entry with its key and its value, or, where values are not asked for, with its key alone
unfoldable pub item_of : Bool → Codec (List ℕ × List ℕ)
item_of true = seq (limited key_limit) λ _. limited value_limit
item_of false = as_type (λ p. is_empty p.1) (λ k. (k, [])) (λ p. p.0) (limited key_limit)

-- "a byte 1 before each entry and a byte 0 at the end"
unfoldable pub listing : Bool → Codec (List (List ℕ × List ℕ))
listing values = listed most_listed (item_of values)
