-- Fields made of bytes and numbers.
use Rattle.std.specs.Prelude.{List, ℕ, zero, suc, ◌+◌, ◌*◌, ◌/◌, ◌%◌, length, get_or, leb, eqb}
use Rattle.wire.specs.Codec.{Codec, empty, byte, raw, guard, seq, as_type, all}
use Rattle.wire.specs.Number.{v_int}

-- a number of n bytes, highest first
unfoldable pub big_endian : ℕ → Codec ℕ
big_endian zero = as_type (λ v. eqb v 0) (λ u. 0) (λ v. tt) empty
big_endian (suc n) = as_type all (λ p. p.0 * 256 + p.1) (λ v. (v / 256, v % 256)) (seq (big_endian n) (λ _. byte))

-- the number that n bytes from a place on spell so; those behind the end count as 0
unfoldable pub big_at : ℕ → List ℕ → ℕ → ℕ
big_at zero s at = 0
big_at (suc n) s at = big_at n s at * 256 + get_or s (at + n) 0

-- "Entry version: 8 bytes, highest first. In a message any eight bytes are one."
abbrev pub entry_version : Codec ℕ
entry_version = big_endian 8

-- a second in a stored file, which has "version, deadline (8 bytes each)"
abbrev pub second : Codec ℕ
second = big_endian 8

-- A length, which is a vInt, and so many bytes. "A length is judged as soon as its number is whole": one above its size is 6.
unfoldable pub limited : ℕ → Codec (List ℕ)
limited lim = as_type all (λ p. p.1) (λ s. (length s, s)) (seq (guard (λ n. leb n lim) 6 v_int) raw)
