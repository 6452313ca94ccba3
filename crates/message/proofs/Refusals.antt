-- A request is refused by one of the numbers 1 to 8, and by no other. Assumes nothing.
use mathlib.Core.Path.{◌≡◌}
use mathlib.Core.List.{List, [], ◌∷◌}
use mathlib.Core.Bool.{Bool, true, false}
use Prim.Native.Nat.{ℕ, zero, suc, ◌≤◌}
use lib.ListN.{length, drop}
use lib.Dec.{leb, ltb, lit≤}
use Rattle.wire.specs.Codec.{Read, whole, more, refused, after, Codec, empty, byte, byte_dec, raw, guard, seq, as_type}
use Rattle.wire.specs.Number.{number_dec, number, v_int, v_long}
use Rattle.wire.specs.Field.{big_endian, limited}
use Rattle.wire.proofs.Basics.{pick}
use Rattle.field.specs.FieldRead.{limited_text}
use Rattle.text.specs.Text.{is_text}
use Rattle.message.specs.Edition.{Edition}
use Rattle.message.specs.Arguments.{Shape, keyed, writes, writes_if, keyed_if, bare, bulk, args_of}
use Rattle.message.specs.Request.{operation, transaction, op_fits, fields, request}

-- a reading that is refused only for a reason from 1 to 8
abbrev Fair : {A : Type 0} → Read A → Type 0
Fair (whole a n) = Unit {0}
Fair more = Unit {0}
Fair (refused k) = (1 ≤ k) × (k ≤ 8)

record Among {A : Type 0} (c : Codec A) : Type 0 where
  fair : (bs : List ℕ) → Fair (c.dec bs)

fair-after : {A B : Type 0} (r : Read A) (f : A → ℕ → Read B) → Fair r → ((a : A) (n : ℕ) → Fair (f a n)) → Fair (after r f)
fair-after (whole a n) f h g = g a n
fair-after more f h g = tt
fair-after (refused k) f h g = h

byte-among : Among byte
unfolding byte
byte-among = record { fair = go }
  where
    go : (bs : List ℕ) → Fair (byte_dec bs)
    go [] = tt
    go (b ∷ bs) = tt

empty-among : Among empty
unfolding empty
empty-among = record { fair = λ bs. tt }

raw-among : (n : ℕ) → Among (raw n)
unfolding raw
raw-among n = record { fair = λ bs. pick Fair (leb n (length bs)) (λ e. tt) tt }

guard-among : {A : Type 0} (test : A → Bool) (k : ℕ) (c : Codec A) → 1 ≤ k → k ≤ 8 → Among c → Among (guard test k c)
unfolding guard
guard-among test k c l h g = record { fair = λ bs. fair-after (c.dec bs) _ (g.fair bs) (λ a n. pick Fair (test a) (λ e. tt) (l, h)) }

type_among : {A B : Type 0} (test : B → Bool) (to : A → B) (from : B → A) (c : Codec A) → Among c → Among (as_type test to from c)
unfolding as_type
type_among test to from c g = record { fair = λ bs. fair-after (c.dec bs) _ (g.fair bs) (λ a n. tt) }

seq-among : {A : Type 0} {B : A → Type 0} (c : Codec A) (d : (a : A) → Codec (B a)) → Among c → ((a : A) → Among (d a)) → Among (seq c d)
unfolding seq
seq-among c d g h =
    record { fair = λ bs. fair-after (c.dec bs) _ (g.fair bs) (λ a n. fair-after ((d a).dec (drop n bs)) _ ((h a).fair (drop n bs)) (λ b m. tt)) }

module _ (k top : ℕ) (l : 1 ≤ k) (h : k ≤ 8) where
  number-fair : (c low : ℕ) (bs : List ℕ) → Fair (number_dec k top c low bs)
  unfolding number_dec
  number-fair c low [] = tt
  number-fair zero low (b ∷ bs) = pick Fair (ltb b low) (λ e. (l, h)) (pick Fair (leb b top) (λ e. tt) (l, h))
  number-fair (suc c) low (b ∷ bs) =
      pick Fair (ltb b 128) (λ e. pick Fair (ltb b low) (λ f. (l, h)) tt) (fair-after (number_dec k top c 1 bs) _ (number-fair c 1 bs) (λ v n. tt))

  number-among : (c low : ℕ) → Among (number k top c low)
  unfolding number
  number-among c low = record { fair = number-fair c low }

int_among : Among v_int
unfolding v_int
int_among = number-among 5 0x0f (lit≤ tt) (lit≤ tt) 4 0

long-among : Among v_long
unfolding v_long
long-among = number-among 2 0x7f (lit≤ tt) (lit≤ tt) 8 0

big_among : (n : ℕ) → Among (big_endian n)
unfolding big_endian
big_among zero = type_among _ _ _ empty empty-among
big_among (suc n) = type_among _ _ _ _ (seq-among (big_endian n) (λ _. byte) (big_among n) (λ _. byte-among))

limited-among : (lim : ℕ) → Among (limited lim)
unfolding limited
limited-among lim = type_among _ _ _ _ (seq-among _ raw (guard-among _ 6 v_int (lit≤ tt) (lit≤ tt) int_among) raw-among)

args-among : (s : Shape) → Among (args_of s)
unfolding args_of
args-among keyed = type_among _ _ _ _ (limited-among _)
args-among writes = type_among _ _ _ _ (seq-among _ _ (limited-among _) λ _. seq-among _ _ int_among λ _. seq-among _ _ int_among λ _. limited-among _)
args-among writes_if =
    type_among _ _ _ _
    (seq-among _ _ (limited-among _) λ _. seq-among _ _ int_among λ _. seq-among _ _ int_among λ _. seq-among _ _ (big_among 8) λ _. limited-among _)
args-among keyed_if = type_among _ _ _ _ (seq-among _ _ (limited-among _) λ _. big_among 8)
args-among bare = type_among _ _ _ _ empty-among
args-among (bulk most) = type_among _ _ _ _ (guard-among _ 8 v_int (lit≤ tt) (lit≤ tt) int_among)

operation-among : (e : Edition) → Among (operation e)
unfolding operation
operation-among e = type_among _ _ _ _ (guard-among (op_fits e) 4 byte (lit≤ tt) (lit≤ tt) byte-among)

transaction-among : (t : Bool) → Among (transaction t)
unfolding transaction
transaction-among true = type_among _ _ _ _ (guard-among _ 8 byte (lit≤ tt) (lit≤ tt) byte-among)
transaction-among false = empty-among

request-among : Among request
unfolding request fields limited_text
request-among =
    type_among _ _ _ _
    (seq-among _ _ (guard-among _ 1 byte (lit≤ tt) (lit≤ tt) byte-among) λ _.
    seq-among _ _ long-among λ _.
    seq-among _ _ (guard-among _ 3 byte (lit≤ tt) (lit≤ tt) byte-among) λ version.
    seq-among _ _ (operation-among _) λ op.
    seq-among _ _ (guard-among is_text 7 (limited _) (lit≤ tt) (lit≤ tt) (limited-among _)) λ _.
    seq-among _ _ (guard-among _ 8 v_int (lit≤ tt) (lit≤ tt) int_among) λ _.
    seq-among _ _ (guard-among _ 8 byte (lit≤ tt) (lit≤ tt) byte-among) λ _.
    seq-among _ _ int_among λ _.
    seq-among _ _ (transaction-among _) λ _. args-among _)

-- "1 to 8"
pub refusals : (bs : List ℕ) (k : ℕ) → request.dec bs ≡ refused k → (1 ≤ k) × (k ≤ 8)
refusals bs k e = let f : Fair (request.dec bs) = request-among.fair bs in rw e at f
