-- The laws of a codec, and that each way of making one keeps them. Assumes nothing.
use mathlib.Core.Path.{◌≡◌, refl, sym, ap, subst, subst₂, ◌∙◌}
use mathlib.Core.List.{List, [], ◌∷◌, ◌++◌, append_assoc}
use mathlib.Core.Bool.{Bool, true, false, cond, ◌&&◌}
use Prim.Native.Nat.{ℕ, zero, suc, ◌+◌, ◌-◌, ◌≤◌, ◌<◌}
use native.Mathlib.Decide.{dec_lt}
use native.Mathlib.Omega.{arith}
use lib.ListN.{length, get_or, take, drop, length-append, length-drop, length-take, get_or-eq_default}
use lib.Seq.{drop-append_seam, take-append_seam, length-take-le, take-append-le, take-append-add, take-add, get_or-drop, get_or-take}
use lib.Dec.{leb, ltb, eqb}
use borrow.Author.Tests.{ltb-true, leb-true, lt-ltb, le-leb, lt-leb, eqb-true, eq-eqb}
use Rattle.wire.specs.Codec.{Read, whole, more, refused, after, mapped, Codec, Valid, Bytes, is_bytes, empty, refuse, byte, raw, guard, seq, as_type}
use Rattle.wire.specs.Write.{part}

-- what follows from two equal answers of different kinds
pub never : {X : Type 0} → ◌≡◌ {A = ℕ} 0 1 → X
never e = absurd (omega arith)

-- what a whole reading says of the bytes
pub record Exact {A : Type 0} (c : Codec A) (bs : List ℕ) (a : A) (n : ℕ) : Type 0 where
  pub good : Valid c a
  pub same : take n bs ≡ c.enc a

pub record Laws {A : Type 0} (c : Codec A) : Type 0 where
  -- what was written is read, whatever follows
  pub round : (a : A) (t : List ℕ) → Valid c a → c.dec (c.enc a ++ t) ≡ whole a (length (c.enc a))
  -- what is read whole is what is written so
  pub exact : (bs : List ℕ) (a : A) (n : ℕ) → Bytes bs → c.dec bs ≡ whole a n → Exact c bs a n
  -- what is read whole is there
  pub spans : (bs : List ℕ) (a : A) (n : ℕ) → c.dec bs ≡ whole a n → n ≤ length bs
  -- of a value that is not all there, nothing is decided
  pub waits : (a : A) (n : ℕ) → Valid c a → n < length (c.enc a) → c.dec (take n (c.enc a)) ≡ more
  -- what is written is bytes
  pub spelt : (a : A) → Valid c a → Bytes (c.enc a)

-- two tests that both hold
pub both : (x y : Bool) → (x && y) ≡ true → (x ≡ true) × (y ≡ true)
both true y e = (refl, e)
both false y e = never (cc)

pub and : {x y : Bool} → x ≡ true → y ≡ true → (x && y) ≡ true
and p q = rw (p, q)

pub and_false : (x : Bool) → (x && false) ≡ false
and_false true = refl
and_false false = refl

-- a list of bytes, and the test of it
pub is-bytes : (s : List ℕ) → Bytes s → is_bytes s ≡ true
unfolding is_bytes
is-bytes [] h = refl
is-bytes (b ∷ s) h = and (lt-ltb b 256 (h 0)) (is-bytes s (λ i. h (suc i)))

pub bytes_are : (s : List ℕ) → is_bytes s ≡ true → Bytes s
unfolding is_bytes
bytes_are [] e i = omega arith
bytes_are (b ∷ s) e zero = ltb-true b 256 (both (ltb b 256) (is_bytes s) e).0
bytes_are (b ∷ s) e (suc i) = bytes_are s (both (ltb b 256) (is_bytes s) e).1 i

bytes_take : (n : ℕ) (s : List ℕ) → Bytes s → Bytes (take n s)
bytes_take n s h i = go (dec_lt i n)
  where
    go : Dec (i < n) → get_or (take n s) i 0 < 256
    go (yes l) = rw (get_or-take n s i 0 l) (h i)
    go (no l) = rw (get_or-eq_default (take n s) 0 {n = i} (omega (arith, length-take n s))) (omega arith)

pub bytes_drop : (n : ℕ) (bs : List ℕ) → Bytes bs → Bytes (drop n bs)
bytes_drop n bs h i = rw get_or-drop (h (n + i))

pub bytes-part : (s : List ℕ) (at n : ℕ) → Bytes s → Bytes (part s at n)
bytes-part s at n b = bytes_take n (drop at s) (bytes_drop at s b)

pub bytes_append : (a b : List ℕ) → Bytes a → Bytes b → Bytes (a ++ b)
bytes_append [] b h g i = g i
bytes_append (x ∷ a) b h g zero = h 0
bytes_append (x ∷ a) b h g (suc i) = bytes_append a b (λ j. h (suc j)) g i

pub bytes-none : Bytes []
bytes-none i = omega arith

pub bytes_cons : {x : ℕ} (s : List ℕ) → x < 256 → Bytes s → Bytes (x ∷ s)
bytes_cons s h g zero = h
bytes_cons s h g (suc i) = g i

-- a whole answer of `after` comes of two
pub record Both {A B : Type 0} (r : Read A) (f : A → ℕ → Read B) (b : B) (m : ℕ) : Type 0 where
  pub val : A
  pub len : ℕ
  pub first : r ≡ whole val len
  pub then : f val len ≡ whole b m

pub after-whole : {A B : Type 0} (r : Read A) (f : A → ℕ → Read B) (b : B) (m : ℕ) → after r f ≡ whole b m → Both r f b m
after-whole (whole a n) f b m e = record { val = a; len = n; first = refl; then = e }
after-whole more f b m e = never (cc)
after-whole (refused k) f b m e = never (cc)

pub after_same : {A B : Type 0} (r : Read A) {f g : A → ℕ → Read B} → ((a : A) (n : ℕ) → f a n ≡ g a n) → after r f ≡ after r g
after_same (whole a n) h = h a n
after_same more h = refl
after_same (refused k) h = refl

pub after-only : {A : Type 0} (r : Read A) → after r (λ a n. whole a n) ≡ r
after-only (whole a n) = refl
after-only more = refl
after-only (refused k) = refl

pub after-after : {A B C : Type 0} (r : Read A) (f : A → ℕ → Read B) (g : B → ℕ → Read C) → after (after r f) g ≡ after r (λ a n. after (f a n) g)
after-after (whole a n) f g = refl
after-after more f g = refl
after-after (refused k) f g = refl

-- and so for what is known of a whole answer
pub after_on : {A B : Type 0} (r : Read A) {f g : A → ℕ → Read B} → ((a : A) (n : ℕ) → r ≡ whole a n → f a n ≡ g a n) → after r f ≡ after r g
after_on (whole a n) h = h a n refl
after_on more h = refl
after_on (refused k) h = refl

-- the way back from what was read, told in another way
pub mapped-back : {A B : Type 0} (r : Read A) (g : A → ℕ → B) (h : B → ℕ → A) → ((a : A) (n : ℕ) → r ≡ whole a n → h (g a n) n ≡ a) → mapped h (mapped g r) ≡ r
unfolding mapped
mapped-back (whole a n) g h e = rw (e a n refl)
mapped-back more g h e = refl
mapped-back (refused k) g h e = refl

-- a whole answer after a test
pub passed : {A : Type 0} {a : A} {n : ℕ} (t : Bool) (x : Read A) (k : ℕ) → cond t x (refused k) ≡ whole a n → (t ≡ true) × (x ≡ whole a n)
passed true x k e = (refl, e)
passed false x k e = never (cc)

pub spared : {A : Type 0} {a : A} {n : ℕ} (t : Bool) (x : Read A) (k : ℕ) → cond t (refused k) x ≡ whole a n → (t ≡ false) × (x ≡ whole a n)
spared true x k e = never (cc)
spared false x k e = (refl, e)

-- what is said of one whole answer is said of an equal one
pub moved : {A : Type 0} {c : Codec A} {bs : List ℕ} {a b : A} {n m : ℕ} → Exact c bs a n → whole a n ≡ whole b m → Exact c bs b m
moved {A} {c} {bs} {a} {b} {n} {m} x e =
    let p : a ≡ b = cc in
    let q : n ≡ m = cc in
    subst₂ (λ (y : A) (k : ℕ). Exact c bs y k) p q x

pub sized : {A : Type 0} {a b : A} {n m : ℕ} → whole a n ≡ whole b m → n ≡ m
sized e = cc

pub same_read : {A : Type 0} {a b : A} {n m : ℕ} → whole a n ≡ whole b m → a ≡ b
same_read e = cc

-- one value after another
pub seq-valid : {A : Type 0} {B : A → Type 0} (c : Codec A) (d : (a : A) → Codec (B a)) (p : (a : A) × B a)
    → Valid (seq c d) p → Valid c p.0 × Valid (d p.0) p.1
unfolding seq
seq-valid c d p v = both (c.ok p.0) ((d p.0).ok p.1) v

module _ {A : Type 0} {B : A → Type 0} (c : Codec A) (d : (a : A) → Codec (B a)) (lc : Laws c) (ld : (a : A) → Laws (d a)) where
  seq-both : (bs : List ℕ) (a : A) (n : ℕ) (b : B a) (m : ℕ) → Exact c bs a n → Exact (d a) (drop n bs) b m → Exact (seq c d) bs (a, b) (n + m)
  unfolding seq
  seq-both bs a n b m x y =
      record {
        good = and x.good y.good;
        same = rw (take-add, x.same, y.same);
      }

  seq-exact : (bs : List ℕ) (p : (a : A) × B a) (n : ℕ) → Bytes bs → (seq c d).dec bs ≡ whole p n → Exact (seq c d) bs p n
  unfolding seq
  seq-exact bs p n h e =
      let x = after-whole (c.dec bs) _ p n e in
      let y = after-whole ((d x.val).dec (drop x.len bs)) _ p n x.then in
      moved
      (seq-both bs x.val x.len y.val y.len (lc.exact bs x.val x.len h x.first)
      ((ld x.val).exact (drop x.len bs) y.val y.len (bytes_drop x.len bs h) y.first))
      y.then

  seq-spans : (bs : List ℕ) (p : (a : A) × B a) (n : ℕ) → (seq c d).dec bs ≡ whole p n → n ≤ length bs
  unfolding seq
  seq-spans bs p n e =
      let x = after-whole (c.dec bs) _ p n e in
      let y = after-whole ((d x.val).dec (drop x.len bs)) _ p n x.then in
      let q : x.len + y.len ≡ n = sized y.then in
      omega
      (arith, q, lc.spans bs x.val x.len x.first, (ld x.val).spans (drop x.len bs) y.val y.len y.first, length-drop x.len bs)

  seq-second : (p : (a : A) × B a) (j : ℕ) → Valid (seq c d) p → j < length ((d p.0).enc p.1) → (seq c d).dec (take (length (c.enc p.0) + j) ((seq c d).enc p)) ≡ more
  unfolding seq
  seq-second p j v h =
      rw (take-append-add, lc.round p.0 (take j ((d p.0).enc p.1)) (seq-valid c d p v).0, drop-append_seam, (ld p.0).waits p.1 j (seq-valid c d p v).1 h)

  seq-waits : (p : (a : A) × B a) (n : ℕ) → Valid (seq c d) p → n < length ((seq c d).enc p) → (seq c d).dec (take n ((seq c d).enc p)) ≡ more
  unfolding seq
  seq-waits p n v h = go (dec_lt n (length (c.enc p.0)))
    where
      go : Dec (n < length (c.enc p.0)) → (seq c d).dec (take n ((seq c d).enc p)) ≡ more
      go (yes l) = rw (take-append-le n (c.enc p.0) ((d p.0).enc p.1) (omega arith), lc.waits p.0 n (seq-valid c d p v).0 l)
      go (no l) =
          let e : length (c.enc p.0) + (n - length (c.enc p.0)) ≡ n = omega arith in
          rw e at
          (seq-second p (n - length (c.enc p.0)) v (omega (arith, length-append (c.enc p.0) ((d p.0).enc p.1))))

  pub seq_laws : Laws (seq c d)
  unfolding seq
  seq_laws =
      record {
        round = λ p t v.
            rw (append_assoc, lc.round p.0 ((d p.0).enc p.1 ++ t) (seq-valid c d p v).0, drop-append_seam, (ld p.0).round p.1 t (seq-valid c d p v).1, length-append);
        exact = seq-exact;
        spans = seq-spans;
        waits = seq-waits;
        spelt = λ p v.
            let w = seq-valid c d p v in
            bytes_append (c.enc p.0) ((d p.0).enc p.1) (lc.spelt p.0 w.0) ((ld p.0).spelt p.1 w.1);
      }

pub seq-good : {A : Type 0} {B : A → Type 0} (c : Codec A) (d : (a : A) → Codec (B a)) {a : A} {b : B a} → Valid c a → Valid (d a) b → Valid (seq c d) (a, b)
unfolding seq
seq-good c d v w = and v w

-- a value that passes a test
pub guard-valid : {A : Type 0} (test : A → Bool) (k : ℕ) (c : Codec A) (a : A) → Valid (guard test k c) a → (test a ≡ true) × Valid c a
unfolding guard
guard-valid test k c a v = both (test a) (c.ok a) v

pub guard_good : {A : Type 0} (test : A → Bool) (k : ℕ) (c : Codec A) {a : A} → test a ≡ true → Valid c a → Valid (guard test k c) a
unfolding guard
guard_good test k c v w = and v w

module _ {A : Type 0} (test : A → Bool) (k : ℕ) (c : Codec A) (lc : Laws c) where
  guard-exact : (bs : List ℕ) (a : A) (n : ℕ) → Bytes bs → (guard test k c).dec bs ≡ whole a n → Exact (guard test k c) bs a n
  unfolding guard
  guard-exact bs a n h e =
      let x = after-whole (c.dec bs) _ a n e in
      let y = passed (test x.val) (whole x.val x.len) k x.then in
      let z = lc.exact bs x.val x.len h x.first in
      moved (record { good = and y.0 z.good; same = z.same }) y.1

  pub guard_laws : Laws (guard test k c)
  unfolding guard
  guard_laws =
      record {
        round = λ a t v. let w = both (test a) (c.ok a) v in rw (lc.round a t w.1, w.0);
        exact = guard-exact;
        spans = λ bs a n e.
            let x = after-whole (c.dec bs) _ a n e in
            let y = passed (test x.val) (whole x.val x.len) k x.then in
            let q : x.len ≡ n = sized y.1 in
            omega (arith, q, lc.spans bs x.val x.len x.first);
        waits = λ a n v h. rw (lc.waits a n (both (test a) (c.ok a) v).1 h);
        spelt = λ a v. lc.spelt a (both (test a) (c.ok a) v).1;
      }

-- the same bytes for another type
pub type_valid : {A B : Type 0} (test : B → Bool) (to : A → B) (from : B → A) (c : Codec A) (b : B) → Valid (as_type test to from c) b
    → (test b ≡ true) × Valid c (from b)
unfolding as_type
type_valid test to from c b v = both (test b) (c.ok (from b)) v

pub type_good : {A B : Type 0} (test : B → Bool) (to : A → B) (from : B → A) (c : Codec A) {b : B} → test b ≡ true → Valid c (from b)
    → Valid (as_type test to from c) b
unfolding as_type
type_good test to from c v w = and v w

module _ {A B : Type 0} (test : B → Bool) (to : A → B) (from : B → A) (c : Codec A) (lc : Laws c)
    (there : (b : B) → test b ≡ true → to (from b) ≡ b) (back : (a : A) → Valid c a → (from (to a) ≡ a) × (test (to a) ≡ true)) where
  type_exact : (bs : List ℕ) (b : B) (n : ℕ) → Bytes bs → (as_type test to from c).dec bs ≡ whole b n → Exact (as_type test to from c) bs b n
  unfolding as_type
  type_exact bs b n h e =
      let x = after-whole (c.dec bs) _ b n e in
      let y = lc.exact bs x.val x.len h x.first in
      let z = back x.val y.good in
      moved (record { good = and z.1 (subst (Valid c) (sym z.0) y.good); same = y.same ∙ ap c.enc (sym z.0) }) x.then

  pub type_laws : Laws (as_type test to from c)
  unfolding as_type
  type_laws =
      record {
        round = λ b t v. let w = both (test b) (c.ok (from b)) v in rw (lc.round (from b) t w.1, there b w.0);
        exact = type_exact;
        spans = λ bs b n e.
            let x = after-whole (c.dec bs) _ b n e in
            let q : x.len ≡ n = sized x.then in
            omega (arith, q, lc.spans bs x.val x.len x.first);
        waits = λ b n v h. rw (lc.waits (from b) n (both (test b) (c.ok (from b)) v).1 h);
        spelt = λ b v. lc.spelt (from b) (both (test b) (c.ok (from b)) v).1;
      }

-- nothing, and no value
pub empty_laws : Laws empty
unfolding empty
empty_laws =
    record {
      round = λ a t v. refl;
      exact = λ bs a n h e. moved {n = 0} (record { good = refl; same = refl }) e;
      spans = λ bs a n e. let q : 0 ≡ n = sized e in omega arith;
      waits = λ a n v h. absurd (omega arith);
      spelt = λ a v. bytes-none;
    }

pub refuse_laws : {A : Type 0} (k : ℕ) → Laws (refuse {A = A} k)
unfolding refuse
refuse_laws k =
    record {
      round = λ a t v. never (cc);
      exact = λ bs a n h e. never (cc);
      spans = λ bs a n e. never (cc);
      waits = λ a n v h. never (cc);
      spelt = λ a v. bytes-none;
    }

-- one byte
byte-exact : (bs : List ℕ) (a n : ℕ) → Bytes bs → byte.dec bs ≡ whole a n → Exact byte bs a n
unfolding byte
byte-exact [] a n h e = never (cc)
byte-exact (b ∷ bs) a n h e = moved (record { good = lt-ltb b 256 (h 0); same = refl }) e

byte-spans : (bs : List ℕ) (a n : ℕ) → byte.dec bs ≡ whole a n → n ≤ length bs
unfolding byte
byte-spans [] a n e = never (cc)
byte-spans (b ∷ bs) a n e = let q : 1 ≡ n = sized e in omega arith

byte-waits : (a n : ℕ) → n < 1 → byte.dec (take n (a ∷ [])) ≡ more
unfolding byte
byte-waits a zero h = refl
byte-waits a (suc n) h = absurd (omega arith)

pub byte_laws : Laws byte
unfolding byte
byte_laws =
    record {
      round = λ a t v. refl;
      exact = byte-exact;
      spans = byte-spans;
      waits = λ a n v h. byte-waits a n h;
      spelt = λ a v. bytes_cons [] (ltb-true a 256 v) bytes-none;
    }

-- n bytes as they are
module _ (n : ℕ) where
  raw-exact : (bs : List ℕ) (a : List ℕ) (m : ℕ) → Bytes bs → (raw n).dec bs ≡ whole a m → Exact (raw n) bs a m
  unfolding raw
  raw-exact bs a m h e = go (leb n (length bs)) refl e
    where
      go : (t : Bool) → leb n (length bs) ≡ t → cond t (whole (take n bs) n) more ≡ whole a m → Exact (raw n) bs a m
      go true p q =
          moved {n = n} (record { good = and (eq-eqb _ _ (length-take-le n bs (leb-true _ _ p))) (is-bytes (take n bs) (bytes_take n bs h)); same = refl }) q
      go false p q = never (cc)

  raw-spans : (bs : List ℕ) (a : List ℕ) (m : ℕ) → (raw n).dec bs ≡ whole a m → m ≤ length bs
  unfolding raw
  raw-spans bs a m e = go (leb n (length bs)) refl e
    where
      go : (t : Bool) → leb n (length bs) ≡ t → cond t (whole (take n bs) n) more ≡ whole a m → m ≤ length bs
      go true p q = let z : n ≡ m = sized q in omega (arith, leb-true n (length bs) p)
      go false p q = never (cc)

  pub raw-valid : (s : List ℕ) → Valid (raw n) s → (length s ≡ n) × (is_bytes s ≡ true)
  unfolding raw
  raw-valid s v = let w = both (eqb (length s) n) (is_bytes s) v in (eqb-true (length s) n w.0, w.1)

  raw-round : (a t : List ℕ) → length a ≡ n → (raw n).dec (a ++ t) ≡ whole a (length a)
  unfolding raw
  raw-round a t e = rw (← e, length-append, le-leb (length a) (length a + length t) (omega arith), take-append_seam)

  raw-waits : (a : List ℕ) (m : ℕ) → length a ≡ n → m < length a → (raw n).dec (take m a) ≡ more
  unfolding raw
  raw-waits a m e h = rw (length-take-le m a (omega arith), lt-leb n m (omega arith))

  pub raw_laws : Laws (raw n)
  unfolding raw
  raw_laws =
      record {
        round = λ a t v. raw-round a t (raw-valid a v).0;
        exact = raw-exact;
        spans = raw-spans;
        waits = λ a m v h. raw-waits a m (raw-valid a v).0 h;
        spelt = λ a v. bytes_are a (raw-valid a v).1;
      }

pub raw-good : (s : List ℕ) → Bytes s → Valid (raw (length s)) s
unfolding raw
raw-good s b = and (eq-eqb (length s) (length s) refl) (is-bytes s b)
