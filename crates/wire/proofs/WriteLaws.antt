-- Writing a field and writing a message: each way out, how writes follow one another, and the way back by reading. Assumes nothing.
use mathlib.Core.Path.{◌≡◌, refl, sym, ap, ◌∙◌}
use mathlib.Core.List.{List, [], ◌∷◌, ◌++◌, append_assoc, append-nil}
use mathlib.Core.Bool.{Bool, true, false, cond}
use Prim.Native.Nat.{ℕ, suc, ◌+◌, ◌-◌, ◌≤◌, ◌<◌}
use native.Mathlib.Nat.{zero-add, add-zero, add-suc, suc-add}
use native.Mathlib.Decide.{dec_lt}
use native.Mathlib.Omega.{arith}
use lib.ListN.{length, take, drop, set, length-append, length-drop, drop_of_length-le}
use lib.Seq.{sets, set-set, set_comm, sets-eq, length-sets, drop-drop, drop_at, take_at, take_all, take-length, length-take-le}
use lib.Dec.{leb}
use borrow.Author.Tests.{le-leb, lt-leb, leb-true, leb-false}
use Rattle.wire.specs.Codec.{whole, Codec, Valid, raw, guard, seq, as_type, read_at}
use Rattle.wire.specs.Write.{Room, Wrote, laid, put_at, Sent, written, kept, send}
use Rattle.wire.proofs.Laws.{Laws, never}

-- two writes, one after the other
pub sets_append : (l : List ℕ) (i : ℕ) (a b : List ℕ) → sets l i (a ++ b) ≡ sets (sets l i a) (i + length a) b
sets_append l i [] b = rw add-zero
sets_append l i (x ∷ a) b = sets_append (set l i x) (suc i) a b ∙ rw (suc-add, ← add-suc)

-- a byte written before a write
pub sets_after : (vs l : List ℕ) (i j b : ℕ) → j < i → set (sets l i vs) j b ≡ sets (set l j b) i vs
sets_after [] l i j b h = refl
sets_after (x ∷ vs) l i j b h =
    sets_after vs (set l i x) (suc i) j b (omega arith) ∙ ap (λ (m : List ℕ). sets m (suc i) vs) (set_comm l i j x b (λ e. omega arith))

-- and so for more bytes
sets_before : (a b l : List ℕ) (i j : ℕ) → i + length a ≤ j → sets (sets l j b) i a ≡ sets (sets l i a) j b
sets_before [] b l i j h = refl
sets_before (x ∷ a) b l i j h =
    ap (λ (m : List ℕ). sets m (suc i) a) (sets_after b l j i x (omega arith)) ∙ sets_before a b (set l i x) (suc i) j (omega arith)

-- a write is covered by one at the same place that is not shorter
pub sets_over : (a b l : List ℕ) (i : ℕ) → length a ≤ length b → sets (sets l i a) i b ≡ sets l i b
sets_over [] b l i h = refl
sets_over (x ∷ a) [] l i h = absurd (omega arith)
sets_over (x ∷ a) (y ∷ b) l i h =
    ap (λ (m : List ℕ). sets m (suc i) b) (sets_after a (set l i x) (suc i) i y (omega arith) ∙ ap (λ (m : List ℕ). sets m (suc i) a) (set-set l i x y))
    ∙ sets_over a b (set l i y) (suc i) (omega arith)

-- what was written stands there
pub sets_part : (x l : List ℕ) (i : ℕ) → i + length x ≤ length l → take (length x) (drop i (sets l i x)) ≡ x
sets_part x l i h =
    let e : sets l i x ≡ take i l ++ (x ++ drop (i + length x) l) = sets-eq x l i h ∙ append_assoc (take i l) x (drop (i + length x) l) in
    rw (e, drop_at (take i l) (x ++ drop (i + length x) l) i (length-take-le i l (omega arith))) (take_at x _ (length x) refl)

-- bytes written at a place, where there is room for them and where there is none
module _ (bs : List ℕ) (at : ℕ) (old : List ℕ) where
  pub laid-short : length old < at + length bs → (at, old) ≡ laid bs at old
  laid-short h = rw (lt-leb (at + length bs) (length old) h)

  pub laid_done : at + length bs ≤ length old → (at + length bs, sets old at bs) ≡ laid bs at old
  laid_done h = rw (le-leb (at + length bs) (length old) h)

pub laid_none : (at : ℕ) (old : List ℕ) → (at, old) ≡ laid [] at old
laid_none at old = go (dec_lt (length old) at)
  where
    go : Dec (length old < at) → (at, old) ≡ laid [] at old
    go (yes l) = laid-short [] at old (omega arith)
    go (no l) = ap {B = ℕ × List ℕ} (λ (n : ℕ). (n, old)) (sym (add-zero at)) ∙ laid_done [] at old (omega arith)

pub wrote-seq : {A : Type 0} {B : A → Type 0} (c : Codec A) (d : (a : A) → Codec (B a)) {a : A} {b : B a} {o₁ o₂ o₃ : List ℕ} {at r₁ r₂ : ℕ}
    → Wrote c a o₁ o₂ at r₁ → Wrote (d a) b o₂ o₃ r₁ r₂ → Wrote (seq c d) (a, b) o₁ o₃ at r₂
unfolding seq
wrote-seq c d {a = a} {b = b} x y =
    record {
      next = omega (arith, length-append (c.enc a) ((d a).enc b), x.next, y.next);
      list = y.list ∙ rw (x.list, x.next, sets_append);
      long = y.long ∙ x.long;
    }

-- and what a test or another type leaves as it is
pub wrote-guard : {A : Type 0} (test : A → Bool) (k : ℕ) (c : Codec A) {a : A} {old new : List ℕ} {at r : ℕ} → Wrote c a old new at r → Wrote (guard test k c) a old new at r
unfolding guard
wrote-guard test k c w = record { next = w.next; list = w.list; long = w.long }

pub wrote_type : {A B : Type 0} (test : B → Bool) (to : A → B) (from : B → A) (c : Codec A) {b : B} {old new : List ℕ} {at r : ℕ}
    → Wrote c (from b) old new at r → Wrote (as_type test to from c) b old new at r
unfolding as_type
wrote_type test to from c w = record { next = w.next; list = w.list; long = w.long }

-- what is written before the bytes behind it is written as if it came first
module _ {A B : Type 0} (c : Codec A) (d : Codec B) {a : A} {b : B} {old mid new : List ℕ} {at n r : ℕ} (x : Wrote d b old mid n r) (y : Wrote c a mid new at n) where
  pub wrote-first : Wrote c a old (sets old at (c.enc a)) at n
  wrote-first = record { next = y.next; list = refl; long = length-sets old at (c.enc a) }

  pub wrote-second : Wrote d b (sets old at (c.enc a)) new n r
  wrote-second =
      record {
        next = x.next;
        list = y.list ∙ rw x.list (sets_before (c.enc a) (d.enc b) old at n (omega (arith, y.next)));
        long = y.long ∙ x.long ∙ sym (length-sets old at (c.enc a));
      }

-- the writer of a field
module _ {A : Type 0} (c : Codec A) (a : A) (at : ℕ) (old : List ℕ) where
  pub put-broken : c.ok a ≡ false → (at, old) ≡ put_at c a at old
  unfolding put_at
  put-broken e = rw e

  pub put-short : Valid c a → length old < at + length (c.enc a) → (at, old) ≡ put_at c a at old
  unfolding put_at
  put-short v h = rw (v, lt-leb (at + length (c.enc a)) (length old) h)

  pub put-done : Valid c a → Room c a at old → (new : List ℕ) (r : ℕ) → Wrote c a old new at r → (r, new) ≡ put_at c a at old
  unfolding put_at
  put-done v h new r w = rw (v, le-leb (at + length (c.enc a)) (length old) h, w.next, w.list)

  pub put-wrote : Valid c a → Room c a at old → (new : List ℕ) (r : ℕ) → (r, new) ≡ put_at c a at old → Wrote c a old new at r
  unfolding put_at
  put-wrote v h new r e =
      let f : ◌≡◌ {A = ℕ × List ℕ} (r, new) (at + length (c.enc a), sets old at (c.enc a)) = e ∙ rw (v, le-leb (at + length (c.enc a)) (length old) h) in
      let q : new ≡ sets old at (c.enc a) = ap (λ (p : ℕ × List ℕ). p.1) f in
      record {
        next = ap (λ (p : ℕ × List ℕ). p.0) f;
        list = q;
        long = ap length q ∙ length-sets old at (c.enc a);
      }

  -- another place tells that it was written
  pub put-moved : (new : List ℕ) (r : ℕ) → (r, new) ≡ put_at c a at old → (r ≡ at → ⊥) → Valid c a × Room c a at old
  unfolding put_at
  put-moved new r e h = go (c.ok a) (leb (at + length (c.enc a)) (length old)) refl refl e
    where
      go : (t u : Bool) → c.ok a ≡ t → leb (at + length (c.enc a)) (length old) ≡ u
          → ◌≡◌ {A = ℕ × List ℕ} (r, new) (cond t (cond u (at + length (c.enc a), sets old at (c.enc a)) (at, old)) (at, old)) → Valid c a × Room c a at old
      go true true v l e = (v, leb-true (at + length (c.enc a)) (length old) l)
      go true false v l e = absurd (h (ap (λ (p : ℕ × List ℕ). p.0) e))
      go false u v l e = absurd (h (ap (λ (p : ℕ × List ℕ). p.0) e))

  -- and the same place that nothing was
  module _ (some : 1 ≤ length (c.enc a)) (new : List ℕ) (e : (at, new) ≡ put_at c a at old) where
    pub put-kept : (new ≡ old) × (Valid c a → length old < at + length (c.enc a))
    unfolding put_at
    put-kept = go (c.ok a) (leb (at + length (c.enc a)) (length old)) refl refl e
      where
        go : (t u : Bool) → c.ok a ≡ t → leb (at + length (c.enc a)) (length old) ≡ u
            → ◌≡◌ {A = ℕ × List ℕ} (at, new) (cond t (cond u (at + length (c.enc a), sets old at (c.enc a)) (at, old)) (at, old))
            → (new ≡ old) × (Valid c a → length old < at + length (c.enc a))
        go true true v l e = absurd (omega (arith, some, ap (λ (p : ℕ × List ℕ). p.0) e))
        go true false v l e = (ap (λ (p : ℕ × List ℕ). p.1) e, λ w. leb-false (at + length (c.enc a)) (length old) l)
        go false u v l e = (ap (λ (p : ℕ × List ℕ). p.1) e, λ w. never (cc))

-- the writer of a message
kept-none : {X : Type 0} {k n : ℕ} → kept k ≡ written n → X
kept-none e = never (cc)

pub count : {m n : ℕ} → written m ≡ written n → m ≡ n
count e = cc

module _ {A : Type 0} (c : Codec A) (a : A) (old : List ℕ) where
  pub send-broken : c.ok a ≡ false → (kept 16, old) ≡ send c a old
  unfolding send
  send-broken e = rw e

  pub send-short : Valid c a → length old < length (c.enc a) → (kept 12, old) ≡ send c a old
  unfolding send
  send-short v h = rw (v, lt-leb (length (c.enc a)) (length old) h)

  pub send-done : Valid c a → length (c.enc a) ≤ length old → (new : List ℕ) (r : ℕ) → Wrote c a old new 0 r → (written r, new) ≡ send c a old
  unfolding send
  send-done v h new r w =
      let e : r ≡ length (c.enc a) = w.next ∙ zero-add _ in
      let f : new ≡ c.enc a ++ drop (length (c.enc a)) old = w.list ∙ sets-eq (c.enc a) old 0 (omega arith) ∙ rw zero-add in
      rw (v, le-leb (length (c.enc a)) (length old) h, e, f)

  -- what is sent is read again where it stands, with its length for the bytes taken
  pub send-read : Laws c → (new : List ℕ) (n : ℕ) → send c a old ≡ (written n, new) → read_at c new 0 ≡ whole a n
  unfolding send read_at
  send-read l new n e = go (c.ok a) (leb (length (c.enc a)) (length old)) refl e
    where
      go : (t u : Bool) → c.ok a ≡ t
          → ◌≡◌ {A = Sent × List ℕ} (cond t (cond u (written (length (c.enc a)), c.enc a ++ drop (length (c.enc a)) old) (kept 12, old)) (kept 16, old)) (written n, new)
          → read_at c new 0 ≡ whole a n
      go true true v e =
          let p : length (c.enc a) ≡ n = count (ap (λ (p : Sent × List ℕ). p.0) e) in
          let q : c.enc a ++ drop (length (c.enc a)) old ≡ new = ap (λ (p : Sent × List ℕ). p.1) e in
          rw (← q, l.round a (drop (length (c.enc a)) old) v, zero-add, p)
      go true false v e = kept-none (ap (λ (p : Sent × List ℕ). p.0) e)
      go false u v e = kept-none (ap (λ (p : Sent × List ℕ). p.0) e)

  pub send-room : Valid c a → Room c a 0 old → send c a old ≡ (written (length (c.enc a)), c.enc a ++ drop (length (c.enc a)) old)
  unfolding send
  send-room v h = rw (v, le-leb (length (c.enc a)) (length old) (omega arith))

-- a copy into the part from at on that is as long as what is copied
pub wrote_part : (n at : ℕ) (s old new : List ℕ) → at + length s ≤ length old → new ≡ s
    → Wrote (raw n) s old (take at old ++ (new ++ drop (at + length s - at) (drop at old))) at (at + length s)
unfolding raw
wrote_part n at s old new h e =
    let m : at + length s - at ≡ length s = omega arith in
    let b : drop (at + length s - at) (drop at old) ≡ drop (at + length s) old = rw (m, drop-drop) in
    let d : take at old ++ (new ++ drop (at + length s - at) (drop at old)) ≡ sets old at s =
    rw (b, e) (sym (sets-eq s old at h ∙ append_assoc (take at old) s (drop (at + length s) old))) in
    record { next = refl; list = d; long = ap length d ∙ length-sets old at s }

-- bytes copied to the front of what stands from `at` on
pub wrote_copy : (n at : ℕ) (s old new : List ℕ) → at + length s ≤ length old → new ≡ take (length s) s ++ drop (length s) (take (length old - at) (drop at old))
    → Wrote (raw n) s old (take at old ++ (new ++ drop (length old - at) (drop at old))) at (at + length s)
unfolding raw
wrote_copy n at s old new h e =
    let a : take (length old - at) (drop at old) ≡ drop at old = take_all (length old - at) (drop at old) (simp length-drop (omega arith)) in
    let b : drop (length old - at) (drop at old) ≡ [] = drop_of_length-le (drop at old) {i = length old - at} (simp length-drop (omega arith)) in
    let c : new ≡ s ++ drop (at + length s) old = e ∙ rw (a, take-length s, drop-drop) in
    let d : take at old ++ (new ++ drop (length old - at) (drop at old)) ≡ sets old at s = rw (b, append-nil new, c) (sym (sets-eq s old at h ∙ append_assoc (take at old) s (drop (at + length s) old))) in
    record { next = refl; list = d; long = ap length d ∙ length-sets old at s }
