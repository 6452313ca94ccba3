-- Numbers on the wire: seven bits a byte, lowest first, high bit set on all but the last (document 01, 'Numbers on the wire').
use Rattle.std.specs.Prelude.{List, [], ◌∷◌, cond, ◌&&◌, ℕ, zero, suc, ◌+◌, ◌-◌, ◌*◌, ◌/◌, ◌%◌, leb, ltb}
use Rattle.wire.specs.Codec.{Read, whole, more, refused, after, Codec}

-- At most n + 1 bytes, the last possible one at most top; a bad number is refused with the number k.
-- A last byte below low is not the shortest form: low is 0 at the first byte, and 1 behind it.
unfoldable pub number_dec : (k top n low : ℕ) → List ℕ → Read ℕ
number_dec k top n low [] = more
number_dec k top zero low (b ∷ bs) = cond (ltb b low) (refused k) (cond (leb b top) (whole b 1) (refused k))
number_dec k top (suc n) low (b ∷ bs) =
    cond (ltb b 128) (cond (ltb b low) (refused k) (whole b 1))
    (after (number_dec k top n 1 bs) (λ v m. whole (b - 128 + 128 * v) (suc m)))

unfoldable pub number_enc : ℕ → ℕ → List ℕ
number_enc zero v = v ∷ []
number_enc (suc n) v = cond (ltb v 128) (v ∷ []) ((128 + v % 128) ∷ number_enc n (v / 128))

-- one past the greatest number
abbrev pub limit : ℕ → ℕ → ℕ
limit top zero = suc top
limit top (suc n) = 128 * limit top n

unfoldable pub number : (k top n low : ℕ) → Codec ℕ
number k top n low = record { enc = number_enc n; dec = number_dec k top n low; ok = λ v. leb low v && ltb v (limit top n) }

-- "vInt: 0 to 4,294,967,295 in 1 to 5 bytes"; "a fifth byte above 0f is refused"
unfoldable pub v_int : Codec ℕ
v_int = number 5 0x0f 4 0

-- "vLong: the same, 1 to 9 bytes, 0 to 9,223,372,036,854,775,807"; "a ninth above 7f is refused". Only the message id is one: its refusal is 2.
unfoldable pub v_long : Codec ℕ
v_long = number 2 0x7f 8 0
