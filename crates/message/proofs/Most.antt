-- The greatest length of what a format writes, for each way of making a format. Assumes nothing.
use mathlib.Core.Path.{◌≡◌}
use mathlib.Core.Bool.{Bool, true}
use Prim.Native.Nat.{ℕ, suc, ◌+◌, ◌≤◌, ◌<◌}
use native.Mathlib.Omega.{arith}
use lib.ListN.{length, length-append}
use lib.Dec.{leb}
use borrow.Author.Tests.{leb-true}
use Rattle.wire.specs.Codec.{Codec, Valid, empty, byte, raw, guard, seq, as_type}
use Rattle.wire.specs.Number.{limit, number, v_int, v_long}
use Rattle.wire.specs.Field.{big_endian, limited}
use Rattle.wire.proofs.Laws.{seq-valid, guard-valid, type_valid, raw-valid}
use Rattle.wire.proofs.NumberLaws.{valid}
use Rattle.wire.proofs.NumberWrite.{enc-most, enc-same}
use Rattle.wire.proofs.FieldLaws.{big_length}
use Rattle.field.specs.FieldRead.{limited_text}

pub record Most {A : Type 0} (c : Codec A) (n : ℕ) : Type 0 where
  pub most : (a : A) → Valid c a → length (c.enc a) ≤ n

pub most-less : {A : Type 0} {c : Codec A} {n m : ℕ} → n ≤ m → Most c n → Most c m
most-less {c = c} h x = record { most = λ a v. omega (arith, h, x.most a v) }

pub seq-most : {A : Type 0} {B : A → Type 0} {c : Codec A} {d : (a : A) → Codec (B a)} {n m : ℕ} → Most c n → ((a : A) → Valid c a → Most (d a) m)
    → Most (seq c d) (n + m)
unfolding seq
seq-most {c = c} {d = d} x y =
    record {
      most = λ p v.
          let w = seq-valid c d p v in
          omega (arith, length-append (c.enc p.0) ((d p.0).enc p.1), x.most p.0 w.0, (y p.0 w.0).most p.1 w.1);
    }

pub guard-most : {A : Type 0} (test : A → Bool) (k : ℕ) {c : Codec A} {n : ℕ} → Most c n → Most (guard test k c) n
unfolding guard
guard-most test k {c = c} x = record { most = λ a v. x.most a (guard-valid test k c a v).1 }

pub type_most : {A B : Type 0} (test : B → Bool) (to : A → B) (from : B → A) {c : Codec A} {n : ℕ} → Most c n → Most (as_type test to from c) n
unfolding as_type
type_most test to from {c = c} x = record { most = λ b v. x.most (from b) (type_valid test to from c b v).1 }

pub empty-most : Most empty 0
unfolding empty
empty-most = record { most = λ a v. omega arith }

pub byte-most : Most byte 1
unfolding byte
byte-most = record { most = λ a v. omega arith }

raw-most : (n : ℕ) → Most (raw n) n
unfolding raw
raw-most n = record { most = λ s v. omega (arith, (raw-valid n s v).0) }

pub big_most : (n : ℕ) → Most (big_endian n) n
big_most n = record { most = λ a v. omega (arith, big_length n a) }

pub v_long-most : Most v_long 9
unfolding v_long number
v_long-most = record { most = λ a v. enc-most 8 a }

-- a vInt that passes a test which only numbers of j + 1 bytes pass
few-most : (test : ℕ → Bool) (k j : ℕ) → ((a : ℕ) → test a ≡ true → a < limit 127 j) → Most (guard test k v_int) (suc j)
unfolding guard v_int number
few-most test k j h =
    record {
      most = λ a v.
          let w = guard-valid test k v_int a v in
          let u = (valid 5 15 4 0 a w.1).1 in
          rw (enc-same 4 j a (omega arith) (h a w.0)) (enc-most j a);
    }

-- a length of j + 1 bytes, and the bytes
pub limited-most : (lim j : ℕ) → lim < limit 127 j → Most (limited lim) (suc j + lim)
unfolding limited
limited-most lim j h =
    type_most _ _ _
    (seq-most (few-most _ _ j (λ n e. omega (arith, leb-true n lim e)))
    (λ n v. most-less (leb-true n lim (guard-valid (λ n. leb n lim) 6 v_int n v).0) (raw-most n)))

pub text-most : (lim j : ℕ) → lim < limit 127 j → Most (limited_text lim) (suc j + lim)
unfolding limited_text
text-most lim j h = guard-most _ _ (limited-most lim j h)
