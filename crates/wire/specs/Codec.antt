-- What a format is: which values have a written form, how one is written, and how bytes are read.
use Rattle.std.specs.Prelude.{List, [], ◌∷◌, ◌++◌, ◌≡◌, Bool, true, false, cond, ◌&&◌, ℕ, ◌+◌, ◌<◌, length, get_or, take, drop, leb, ltb, eqb}
use Rattle.std.proofs.Math.Option.{Option, none, some}

-- what reading at the front of a list of bytes finds: a whole value with the number of its bytes; more needed (document 01's term), where the
-- bytes are too few to tell; or a refusal, by its number in document 01
pub data Read (A : Type 0) : Type 0 where
  whole : A → ℕ → Read A
  more : Read A
  refused : ℕ → Read A

-- what is read once a value is whole
abbrev pub after : {A B : Type 0} → Read A → (A → ℕ → Read B) → Read B
after (whole a n) f = f a n
after more f = more
after (refused k) f = refused k

-- what was read, told in another way: of a whole value a, which ends at n, as `f a n`
unfoldable pub mapped : {A B : Type 0} → (A → ℕ → B) → Read A → Read B
mapped f r = after r (λ a n. whole (f a n) n)

-- a value that takes all n bytes
abbrev pub exactly : {A : Type 0} → ℕ → Read A → Option A
exactly n (whole a m) = cond (eqb m n) (some a) none
exactly n more = none
exactly n (refused k) = none

pub record Codec (A : Type 0) : Type 1 where
  pub enc : A → List ℕ
  pub dec : List ℕ → Read A
  pub ok : A → Bool

-- a value that has a written form
abbrev pub Valid : {A : Type 0} → Codec A → A → Type 0
Valid c a = c.ok a ≡ true

-- each element is a byte
abbrev pub Bytes : List ℕ → Type 0
Bytes bs = (i : ℕ) → get_or bs i 0 < 256

unfoldable pub is_bytes : List ℕ → Bool
is_bytes [] = true
is_bytes (b ∷ bs) = ltb b 256 && is_bytes bs

-- nothing is written, and nothing is read
unfoldable pub empty : Codec (Unit {0})
empty = record { enc = λ u. []; dec = λ bs. whole tt 0; ok = λ u. true }

-- no value: whatever comes is refused, before a byte of it is looked at
unfoldable pub refuse : {A : Type 0} → ℕ → Codec A
refuse k = record { enc = λ a. []; dec = λ bs. refused k; ok = λ a. false }

-- one byte
abbrev pub byte_dec : List ℕ → Read ℕ
byte_dec [] = more
byte_dec (b ∷ bs) = whole b 1

unfoldable pub byte : Codec ℕ
byte = record { enc = λ b. b ∷ []; dec = byte_dec; ok = λ b. ltb b 256 }

-- n bytes as they are
unfoldable pub raw : ℕ → Codec (List ℕ)
raw n =
    record {
      enc = λ s. s;
      dec = λ bs. cond (leb n (length bs)) (whole (take n bs) n) more;
      ok = λ s. eqb (length s) n && is_bytes s;
    }

-- a value that passes a test, judged as soon as it is whole: any other is refused with the number k
unfoldable pub guard : {A : Type 0} → (A → Bool) → ℕ → Codec A → Codec A
guard test k c =
    record {
      enc = c.enc;
      dec = λ bs. after (c.dec bs) (λ a n. cond (test a) (whole a n) (refused k));
      ok = λ a. test a && c.ok a;
    }

-- one value after another, whose format may go by the first
unfoldable pub seq : {A : Type 0} {B : A → Type 0} → Codec A → ((a : A) → Codec (B a)) → Codec ((a : A) × B a)
seq c d =
    record {
      enc = λ p. c.enc p.0 ++ (d p.0).enc p.1;
      dec = λ bs. after (c.dec bs) (λ a n. after ((d a).dec (drop n bs)) (λ b m. whole (a, b) (n + m)));
      ok = λ p. c.ok p.0 && (d p.0).ok p.1;
    }

-- the same bytes for values of another type, of which those that pass the test have a written form
unfoldable pub as_type : {A B : Type 0} → (B → Bool) → (A → B) → (B → A) → Codec A → Codec B
as_type test to from c =
    record {
      enc = λ b. c.enc (from b);
      dec = λ bs. after (c.dec bs) (λ a n. whole (to a) n);
      ok = λ b. test b && c.ok (from b);
    }

-- the test that every value passes
abbrev pub all : {A : Type 0} → A → Bool
all a = true

-- what reading at a place of a list finds: what `dec` finds of the bytes from there on, with the place behind a whole value for its size
unfoldable pub read_at : {A : Type 0} → Codec A → List ℕ → ℕ → Read A
read_at c s at = after (c.dec (drop at s)) (λ a n. whole a (at + n))
