-- Reading at a place of a list, through each way of making a codec. Assumes nothing.
use mathlib.Core.Path.{◌≡◌, refl, sym, ap, subst, ◌∙◌}
use mathlib.Core.List.{List, []}
use mathlib.Core.Bool.{Bool, true, false, cond}
use Prim.Native.Nat.{ℕ, ◌+◌, ◌-◌, ◌≤◌, ◌<◌}
use native.Mathlib.Nat.{add_assoc, zero-add}
use native.Mathlib.Omega.{arith}
use native.Mathlib.Decide.{dec_lt}
use lib.ListN.{length, take, drop, length-drop, drop_of_length-le}
use lib.Seq.{drop-drop, length-take-le}
use lib.Dec.{leb}
use Rattle.wire.specs.Codec.{Read, whole, more, refused, after, Codec, Bytes, raw, guard, seq, as_type, read_at}
use Rattle.wire.proofs.Laws.{Exact, Laws, moved, never, after_same, after-after, after-whole, sized, same_read, bytes_drop}

-- at the front
pub at_front : {A : Type 0} (c : Codec A) (s : List ℕ) → read_at c s 0 ≡ c.dec s
unfolding read_at
at_front {A} c s = go (c.dec s)
  where
    go : (r : Read A) → after r (λ a n. whole a (0 + n)) ≡ r
    go (whole a n) = rw zero-add
    go more = refl
    go (refused k) = refl

pub at_cond : {A B : Type 0} (t : Bool) (x y : Read A) (f : A → ℕ → Read B) → after (cond t x y) f ≡ cond t (after x f) (after y f)
at_cond true x y f = refl
at_cond false x y f = refl

module _ (s : List ℕ) (at : ℕ) where
  pub at-seq : {A : Type 0} {B : A → Type 0} (c : Codec A) (d : (a : A) → Codec (B a))
      → read_at (seq c d) s at ≡ after (read_at c s at) (λ a j. after (read_at (d a) s j) (λ b k. whole (a, b) k))
  unfolding read_at seq
  at-seq {A} {B} c d =
      rw (after-after (c.dec (drop at s)), after-after (c.dec (drop at s)))
      (after_same (c.dec (drop at s)) (λ a n. go a n))
    where
      go : (a : A) (n : ℕ) → ◌≡◌ {A = Read ((a : A) × B a)} (after (after ((d a).dec (drop n (drop at s))) (λ b m. whole (a, b) (n + m))) (λ p m. whole p (at + m)))
          (after (after ((d a).dec (drop (at + n) s)) (λ b m. whole b (at + n + m))) (λ b k. whole (a, b) k))
      go a n =
          rw (drop-drop, after-after ((d a).dec (drop (at + n) s)), after-after ((d a).dec (drop (at + n) s)))
          (after_same ((d a).dec (drop (at + n) s)) (λ b m. rw add_assoc))

  pub at-guard : {A : Type 0} (test : A → Bool) (k : ℕ) (c : Codec A)
      → read_at (guard test k c) s at ≡ after (read_at c s at) (λ a j. cond (test a) (whole a j) (refused k))
  unfolding read_at guard
  at-guard test k c =
      rw (after-after (c.dec (drop at s)), after-after (c.dec (drop at s)))
      (after_same (c.dec (drop at s)) (λ a n. at_cond (test a) (whole a n) (refused k) (λ b m. whole b (at + m))))

  pub at_type : {A B : Type 0} (test : B → Bool) (to : A → B) (from : B → A) (c : Codec A) → read_at (as_type test to from c) s at ≡ after (read_at c s at) (λ a j. whole (to a) j)
  unfolding read_at as_type
  at_type test to from c =
      rw (after-after (c.dec (drop at s)), after-after (c.dec (drop at s))) (after_same (c.dec (drop at s)) (λ a n. refl))

  pub at_raw : (n : ℕ) → read_at (raw n) s at ≡ cond (leb n (length s - at)) (whole (take n (drop at s)) (at + n)) more
  unfolding read_at raw
  at_raw n = rw (at_cond, length-drop)

-- what is read whole lies within the list
at-spans : {A : Type 0} (c : Codec A) → Laws c → (s : List ℕ) (at : ℕ) (a : A) (j : ℕ) → at ≤ length s → read_at c s at ≡ whole a j → (at ≤ j) × (j ≤ length s)
unfolding read_at
at-spans c l s at a j h e =
    let x = after-whole (c.dec (drop at s)) _ a j e in
    let q : at + x.len ≡ j = sized x.then in
    let w = l.spans (drop at s) x.val x.len x.first in
    (omega arith, omega (arith, w, length-drop at s))

-- and so without a bound on the place, where nothing is read of no bytes
pub at-within : {A : Type 0} (c : Codec A) → Laws c → c.dec [] ≡ more → (s : List ℕ) (at : ℕ) (a : A) (j : ℕ) → read_at c s at ≡ whole a j → j ≤ length s
unfolding read_at
at-within c l z s at a j e = go (dec_lt at (length s))
  where
    go : Dec (at < length s) → j ≤ length s
    go (yes h) = (at-spans c l s at a j (omega arith) e).1
    go (no h) =
        let q : drop at s ≡ [] = drop_of_length-le s {i = at} (omega arith) in
        let f : more ≡ whole a j = rw (q, z) at e in
        never (cc)

-- what is read whole is what is written so, at its place
pub at_read : {A : Type 0} (c : Codec A) → Laws c → (s : List ℕ) (at : ℕ) (a : A) (j : ℕ) → Bytes s → read_at c s at ≡ whole a j → Exact c (drop at s) a (j - at)
unfolding read_at
at_read c l s at a j b e =
    let x = after-whole (c.dec (drop at s)) _ a j e in
    let q : at + x.len ≡ j = sized x.then in
    let n : j - at ≡ x.len = omega arith in
    moved (l.exact (drop at s) x.val x.len (bytes_drop at s b) x.first) (rw (same_read x.then, n))

-- what is read whole ends behind the bytes that are written so
pub at_exact : {A : Type 0} (c : Codec A) → Laws c → (s : List ℕ) (at : ℕ) (a : A) (j : ℕ) → Bytes s → read_at c s at ≡ whole a j → j ≡ at + length (c.enc a)
unfolding read_at
at_exact {A} c l s at a j b e =
    let x = after-whole (c.dec (drop at s)) _ a j e in
    let q : at + x.len ≡ j = sized x.then in
    let v : x.val ≡ a = same_read x.then in
    let w = l.spans (drop at s) x.val x.len x.first in
    let m = (l.exact (drop at s) x.val x.len (bytes_drop at s b) x.first).same in
    omega (arith, length-take-le x.len (drop at s) w, ap length (m ∙ ap (λ (y : A). c.enc y) v))

-- a whole value of another type, and two of which one comes after the other, are read of such
pub record Typed {A B : Type 0} (to : A → B) (c : Codec A) (s : List ℕ) (at : ℕ) (b : B) (j : ℕ) : Type 0 where
  pub val : A
  pub read : read_at c s at ≡ whole val j
  pub same : to val ≡ b

pub typed : {A B : Type 0} (test : B → Bool) (to : A → B) (from : B → A) (c : Codec A) (s : List ℕ) (at : ℕ) (b : B) (j : ℕ)
    → read_at (as_type test to from c) s at ≡ whole b j → Typed to c s at b j
typed test to from c s at b j e =
    let x = after-whole (read_at c s at) _ b j (sym (at_type s at test to from c) ∙ e) in
    record { val = x.val; read = rw (sized x.then) at x.first; same = same_read x.then }

pub record Halves {A : Type 0} {B : A → Type 0} (c : Codec A) (d : (a : A) → Codec (B a)) (s : List ℕ) (at : ℕ) (p : (a : A) × B a) (j : ℕ) : Type 0 where
  pub mid : ℕ
  pub first : read_at c s at ≡ whole p.0 mid
  pub second : read_at (d p.0) s mid ≡ whole p.1 j

pub halves : {A : Type 0} {B : A → Type 0} (c : Codec A) (d : (a : A) → Codec (B a)) (s : List ℕ) (at : ℕ) (p : (a : A) × B a) (j : ℕ)
    → read_at (seq c d) s at ≡ whole p j → Halves c d s at p j
halves {A} {B} c d s at p j e =
    let x = after-whole (read_at c s at) _ p j (sym (at-seq s at c d) ∙ e) in
    let y = after-whole (read_at (d x.val) s x.len) _ p j x.then in
    subst (λ (q : (a : A) × B a). Halves c d s at q j) (same_read y.then)
    (record { mid = x.len; first = x.first; second = rw (sized y.then) at y.first })
