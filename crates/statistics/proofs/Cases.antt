-- Worked cases of the format. Assumes nothing.
use mathlib.Core.Path.{◌≡◌, refl}
use mathlib.Core.List.{List, [], ◌∷◌}
use Prim.Native.Nat.{ℕ}
use lib.ListN.{length, get_or}
use Rattle.wire.specs.Codec.{whole, more, refused, raw, guard, seq, as_type, empty}
use Rattle.wire.specs.Number.{v_int, number, number_dec, number_enc}
use Rattle.wire.specs.Field.{limited}
use Rattle.wire.specs.Same.{same_list}
use Rattle.decimal.specs.Decimal.{digits_by, digits_of, value_behind, value_of, is_digit, are_digits, is_shortest, is_decimal, decimal}
use Rattle.statistics.specs.Statistics.{titles, named, statistic, values, statistics}

-- hits, the sixth, with the value 7
hits : List ℕ
hits = get_or titles 5 []

seven : (statistic hits).enc 7 ≡ 0x04 ∷ 0x68 ∷ 0x69 ∷ 0x74 ∷ 0x73 ∷ 0x01 ∷ 0x37 ∷ []
unfolding hits titles statistic named as_type seq guard limited raw v_int number number_enc decimal digits_of digits_by
seven = refl

seven-read : (statistic hits).dec (0x04 ∷ 0x68 ∷ 0x69 ∷ 0x74 ∷ 0x73 ∷ 0x01 ∷ 0x37 ∷ []) ≡ whole 7 7
unfolding hits titles statistic named as_type seq guard limited raw v_int number number_dec same_list decimal value_of value_behind is_decimal are_digits is_digit is_shortest
seven-read = refl

-- another name is 8, one that is no text too, and one of no bytes at once; one above 22 bytes is 6 before its bytes are there
other : (statistic hits).dec (0x04 ∷ 0x48 ∷ 0x69 ∷ 0x74 ∷ 0x73 ∷ []) ≡ refused 8
unfolding hits titles statistic named as_type seq guard limited raw v_int number number_dec same_list
other = refl

no_text_lem : (statistic hits).dec (0x04 ∷ 0xff ∷ 0x69 ∷ 0x74 ∷ 0x73 ∷ []) ≡ refused 8
unfolding hits titles statistic named as_type seq guard limited raw v_int number number_dec same_list
no_text_lem = refl

no_name : (statistic hits).dec (0x00 ∷ []) ≡ refused 8
unfolding hits titles statistic named as_type seq guard limited raw v_int number number_dec same_list
no_name = refl

long-name : (statistic hits).dec (0x17 ∷ []) ≡ refused 6
unfolding hits titles statistic named as_type seq guard limited v_int number number_dec
long-name = refl

-- a length that is allowed waits for its bytes, right or wrong
waits : (statistic hits).dec (0x05 ∷ 0x68 ∷ []) ≡ more
unfolding hits titles statistic named as_type seq guard limited raw v_int number number_dec
waits = refl

-- the value "07" is 8
padded : (statistic hits).dec (0x04 ∷ 0x68 ∷ 0x69 ∷ 0x74 ∷ 0x73 ∷ 0x02 ∷ 0x30 ∷ 0x37 ∷ []) ≡ refused 8
unfolding hits titles statistic named as_type seq guard limited raw v_int number number_dec same_list decimal is_decimal are_digits is_digit is_shortest
padded = refl

-- eight statistics are 8 at once
eight : statistics.dec (0x08 ∷ []) ≡ refused 8
unfolding statistics as_type seq guard v_int number number_dec
eight = refl

-- nine zeros take 132 bytes
zeros : length (statistics.enc (0 ∷ 0 ∷ 0 ∷ 0 ∷ 0 ∷ 0 ∷ 0 ∷ 0 ∷ 0 ∷ [])) ≡ 132
unfolding statistics values titles statistic named as_type seq guard limited raw empty v_int number number_enc decimal digits_of digits_by
zeros = refl
