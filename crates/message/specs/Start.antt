-- The magic and the message id, which begin a request, and the message id that an error reply answers to.
use Rattle.std.specs.Prelude.{List, ℕ, eqb}
use Rattle.wire.specs.Codec.{Read, whole, more, refused, Codec, byte, guard, seq, as_type, all}
use Rattle.wire.specs.Number.{v_long}

unfoldable pub start : Codec ℕ
start = as_type all (λ p. p.1) (λ i. (0xa0, i)) (seq (guard (λ m. eqb m 0xa0) 1 byte) λ _. v_long)

abbrev pub id_found : Read ℕ → ℕ
id_found (whole i n) = i
id_found more = 0
id_found (refused k) = 0

-- "message id 0 for 1 and 2 and the one read otherwise"
unfoldable pub id_in : List ℕ → ℕ
id_in s = id_found (start.dec s)
