-- Worked cases of the format. Assumes nothing.
use mathlib.Core.Path.{◌≡◌, refl}
use mathlib.Core.List.{[], ◌∷◌}
use mathlib.Core.Bool.{true, false}
use Rattle.wire.specs.Codec.{whole, more, refused, empty, byte, raw, guard, seq, as_type}
use Rattle.wire.specs.Number.{v_int, number, number_dec, number_enc}
use Rattle.wire.specs.Field.{limited}
use Rattle.wire.specs.Listed.{more_byte, behind, item, others, listed}
use Rattle.message.specs.Listing.{item_of, listing}

-- no entry, one of key k and value vw, and the key alone
none-sent : (listing true).enc [] ≡ 0x00 ∷ []
unfolding listing listed item others more_byte behind as_type seq guard byte empty
none-sent = refl

one-sent : (listing true).enc ((0x6b ∷ [], 0x76 ∷ 0x77 ∷ []) ∷ []) ≡ 0x01 ∷ 0x01 ∷ 0x6b ∷ 0x02 ∷ 0x76 ∷ 0x77 ∷ 0x00 ∷ []
unfolding listing listed item item_of others more_byte behind as_type seq guard byte empty limited raw v_int number number_enc
one-sent = refl

key-sent : (listing false).enc ((0x6b ∷ [], []) ∷ []) ≡ 0x01 ∷ 0x01 ∷ 0x6b ∷ 0x00 ∷ []
unfolding listing listed item item_of others more_byte behind as_type seq guard byte empty limited raw v_int number number_enc
key-sent = refl

-- with keys alone a value has no written form
value-kept : (listing false).ok ((0x6b ∷ [], 0x76 ∷ []) ∷ []) ≡ false
unfolding listing listed item item_of others more_byte behind as_type seq guard byte empty
value-kept = refl

one-read : (listing true).dec (0x01 ∷ 0x01 ∷ 0x6b ∷ 0x02 ∷ 0x76 ∷ 0x77 ∷ 0x00 ∷ []) ≡ whole ((0x6b ∷ [], 0x76 ∷ 0x77 ∷ []) ∷ []) 7
unfolding listing listed item item_of others more_byte behind as_type seq guard byte empty limited raw v_int number number_dec
one-read = refl

-- without its end a list is not whole
end-awaited : (listing false).dec (0x01 ∷ 0x01 ∷ 0x6b ∷ []) ≡ more
unfolding listing listed item item_of others more_byte behind as_type seq guard byte empty limited raw v_int number number_dec
end-awaited = refl

-- another more byte is 8, and a key above 64 bytes is 6 as soon as its length is there
two-more : (listing true).dec (0x02 ∷ []) ≡ refused 8
unfolding listing listed item more_byte as_type seq guard byte
two-more = refl

key-long : (listing true).dec (0x01 ∷ 0x41 ∷ []) ≡ refused 6
unfolding listing listed item item_of others more_byte behind as_type seq guard byte limited v_int number number_dec
key-long = refl

-- where no entry may follow, the byte 1 is 6, and another is 8 there too
over : (listed 0 (item_of true)).dec (0x01 ∷ []) ≡ refused 6
unfolding listed more_byte as_type guard byte
over = refl

over-more : (listed 0 (item_of true)).dec (0x02 ∷ []) ≡ refused 8
unfolding listed more_byte as_type guard byte
over-more = refl
