-- The laws of the fields made of bytes and numbers. Assumes nothing.
use mathlib.Core.Path.{◌≡◌, refl, sym, ap, ◌∙◌}
use mathlib.Core.List.{List, [], ◌∷◌, append-nil}
use mathlib.Core.Bool.{true, false, cond}
use Prim.Native.Nat.{ℕ, zero, suc, ◌+◌, ◌-◌, ◌*◌, ◌/◌, ◌%◌, ◌^◌, ◌≤◌, ◌<◌}
use native.Mathlib.Nat.{add-zero, pow-suc}
use native.Mathlib.Omega.{arith}
use native.Mathlib.Decide.{dec_lt}
use lib.ListN.{length, get_or, take, drop, length-append, drop_of_length-le}
use lib.Seq.{drop-cons}
use lib.Dec.{leb, ltb, eqb}
use borrow.Author.Tests.{ltb-true, lt-ltb, leb-true, le-leb, lt-leb, eqb-true, eq-eqb}
use Rattle.wire.specs.Codec.{whole, more, refused, after, Valid, Bytes, is_bytes, empty, byte, raw, guard, seq, as_type, all, read_at}
use Rattle.wire.specs.Number.{number, v_int, v_long}
use Rattle.wire.specs.Field.{big_endian, big_at, limited}
use Rattle.wire.specs.Write.{Wrote}
use Rattle.wire.proofs.Laws.{Laws, both, and, and_false, after-after, seq-valid, guard-valid, type_valid, seq_laws, guard_laws, type_laws, empty_laws, byte_laws, raw_laws, raw-valid, is-bytes, bytes_append, bytes-none, bytes_cons, same_read}
use Rattle.wire.proofs.NumberLaws.{v_int_laws}
use Rattle.wire.proofs.NumberWrite.{number-bad, int_long}
use Rattle.wire.proofs.Digits.{digits_in}
use Rattle.wire.proofs.WriteLaws.{wrote-seq, wrote-guard, wrote_type}
use Rattle.wire.proofs.At.{at_front, at-seq, at_type, at-guard, at_raw, at_cond}

-- a number of n bytes
pub big_laws : (n : ℕ) → Laws (big_endian n)
unfolding big_endian seq byte
big_laws zero = type_laws (λ v. eqb v 0) (λ u. 0) (λ v. tt) empty empty_laws (λ v e. sym (eqb-true v 0 e)) (λ u v. (refl, refl))
big_laws (suc n) =
    type_laws all (λ p. p.0 * 256 + p.1) (λ v. (v / 256, v % 256)) (seq (big_endian n) (λ _. byte)) (seq_laws (big_endian n) (λ _. byte) (big_laws n) (λ _. byte_laws))
    (λ v e. omega arith)
    (λ p v.
    let h : p.1 < 256 = ltb-true p.1 256 (seq-valid (big_endian n) (λ _. byte) p v).1 in
    let a : (p.0 * 256 + p.1) / 256 ≡ p.0 = omega arith in
    let b : (p.0 * 256 + p.1) % 256 ≡ p.1 = omega arith in
    (rw (a, b), refl))

pub big_length : (n v : ℕ) → length ((big_endian n).enc v) ≡ n
unfolding big_endian seq byte as_type empty
big_length zero v = refl
big_length (suc n) v = length-append ((big_endian n).enc (v / 256)) (v % 256 ∷ []) ∙ (let h = big_length n (v / 256) in omega arith)

pub big_bytes : (n v : ℕ) → Bytes ((big_endian n).enc v)
unfolding big_endian seq byte as_type empty
big_bytes zero v = bytes-none
big_bytes (suc n) v = bytes_append ((big_endian n).enc (v / 256)) (v % 256 ∷ []) (big_bytes n (v / 256)) (bytes_cons [] (omega arith) bytes-none)

-- any number below 256 to the n has a written form
pub big_good : (n v : ℕ) → v < 256 ^ n → Valid (big_endian n) v
unfolding big_endian seq byte as_type empty
big_good zero v h = and (eq-eqb v 0 (omega arith)) refl
big_good (suc n) v h =
    and (big_good n (v / 256) (omega (arith, pow-suc 256 n))) (lt-ltb (v % 256) 256 (omega arith))

pub big_valid : (n v : ℕ) → Valid (big_endian n) v → v < 256 ^ n
unfolding big_endian seq byte as_type empty
big_valid zero v h = omega (arith, eqb-true v 0 (both (eqb v 0) true h).0)
big_valid (suc n) v h = omega (arith, pow-suc 256 n, big_valid n (v / 256) (both ((big_endian n).ok (v / 256)) (ltb (v % 256) 256) h).0)

-- what the next byte makes of the number
module _ (s : List ℕ) (at : ℕ) where
  at_byte : at < length s → read_at byte s at ≡ whole (get_or s at 0) (at + 1)
  unfolding read_at byte
  at_byte h = rw (drop-cons s at 0 h)

  at-byte-end : length s ≤ at → read_at byte s at ≡ more
  unfolding read_at byte
  at-byte-end h = rw (drop_of_length-le s h)

  at_big : (n : ℕ) → read_at (big_endian (suc n)) s at ≡ after (read_at (big_endian n) s at) (λ a j. after (read_at byte s j) (λ b k. whole (a * 256 + b) k))
  unfolding big_endian
  at_big n = simp (at_type, at-seq, after-after)

-- the number at a place is the one that is read there
module _ (s : List ℕ) (at : ℕ) where
  pub big_read : (n : ℕ) → at + n ≤ length s → read_at (big_endian n) s at ≡ whole (big_at n s at) (at + n)
  unfolding read_at big_endian as_type empty big_at
  big_read zero h = rw add-zero
  big_read (suc n) h =
      let e : at + suc n ≡ at + n + 1 = omega arith in
      at_big s at n ∙ rw (big_read n (omega arith), at_byte s (at + n) (omega arith), e)

-- what it depends on, and how large it is
pub big_same : (n : ℕ) (s t : List ℕ) (a b : ℕ) → ((k : ℕ) → k < n → get_or s (a + k) 0 ≡ get_or t (b + k) 0) → big_at n s a ≡ big_at n t b
unfolding big_at
big_same zero s t a b h = refl
big_same (suc n) s t a b h = rw (big_same n s t a b (λ k l. h k (omega arith)), h n (omega arith))

pub big_small : (n : ℕ) (s : List ℕ) (at : ℕ) → Bytes s → big_at n s at < 256 ^ n
unfolding big_at
big_small zero s at b = omega arith
big_small (suc n) s at b = omega (arith, big_small n s at b, b (at + n), pow-suc 256 n)

-- what was written is the number at its place
pub big_back : (n v : ℕ) → v < 256 ^ n → big_at n ((big_endian n).enc v) 0 ≡ v
big_back n v h =
    let s = (big_endian n).enc v in
    let r = rw append-nil at ((big_laws n).round v [] (big_good n v h)) in
    same_read (sym (big_read s 0 n (omega (arith, big_length n v))) ∙ at_front (big_endian n) s ∙ r)

-- between two bytes of a number of several: n of them are read, and make v
pub record Begun (s : List ℕ) (at n j v : ℕ) : Type 0 where
  pub front : read_at (big_endian n) s at ≡ whole v j
  pub small : v < 256 ^ n

module _ (s : List ℕ) (at : ℕ) where
  pub big_begin : Begun s at 0 at 0
  unfolding read_at big_endian as_type empty
  big_begin = record { front = rw add-zero; small = omega arith }

  module _ (n j v : ℕ) (g : Begun s at n j v) where
    pub big_more : (m : ℕ) → length s ≤ j → n < m → read_at (big_endian m) s at ≡ more
    big_more zero h l = absurd (omega arith)
    big_more (suc m) h l = go (dec_lt n m) (big_more m h)
      where
        go : Dec (n < m) → (n < m → read_at (big_endian m) s at ≡ more) → read_at (big_endian (suc m)) s at ≡ more
        go (yes q) ih = at_big s at m ∙ rw (ih q)
        go (no q) ih = let e : m ≡ n = omega arith in rw e (at_big s at n ∙ rw (g.front, at-byte-end s j h))

-- a length and so many bytes
pub limited_laws : (lim : ℕ) → Laws (limited lim)
unfolding limited
limited_laws lim =
    type_laws all (λ p. p.1) (λ s. (length s, s)) (seq (guard (λ n. leb n lim) 6 v_int) raw)
    (seq_laws (guard (λ n. leb n lim) 6 v_int) raw (guard_laws (λ n. leb n lim) 6 v_int v_int_laws) raw_laws)
    (λ s e. refl)
    (λ p v. (ap {B = ℕ × List ℕ} (λ (n : ℕ). (n, p.1)) (raw-valid p.0 p.1 (seq-valid (guard (λ n. leb n lim) 6 v_int) raw p v).1).0, refl))

pub limited-valid : (lim : ℕ) (s : List ℕ) → Valid (limited lim) s → (length s ≤ lim) × (is_bytes s ≡ true)
unfolding limited
limited-valid lim s v =
    let w = type_valid all (λ p. p.1) (λ s. (length s, s)) (seq (guard (λ n. leb n lim) 6 v_int) raw) s v in
    let a = seq-valid (guard (λ n. leb n lim) 6 v_int) raw (length s, s) w.1 in
    (leb-true (length s) lim (guard-valid (λ n. leb n lim) 6 v_int (length s) a.0).0, (raw-valid (length s) s a.1).1)

pub limited-good : (lim : ℕ) (s : List ℕ) → length s < 0x1_0000_0000 → length s ≤ lim → Bytes s → Valid (limited lim) s
unfolding limited as_type seq guard raw v_int number
limited-good lim s u h b =
    and
    (and (le-leb (length s) lim h) (and (le-leb 0 (length s) (omega arith)) (lt-ltb (length s) 0x1_0000_0000 u)))
    (and (eq-eqb (length s) (length s) refl) (is-bytes s b))

-- a list that is too long has no written form
pub limited-long : (lim : ℕ) (s : List ℕ) → lim < length s → (limited lim).ok s ≡ false
unfolding limited as_type seq guard
limited-long lim s h = rw (lt-leb (length s) lim h)

pub limited-over : (lim : ℕ) (s : List ℕ) → 0x1_0000_0000 ≤ length s → (limited lim).ok s ≡ false
unfolding limited as_type seq guard v_int
limited-over lim s h = rw (number-bad 5 15 4 0 (length s) h, and_false (leb (length s) lim))

module _ (lim : ℕ) (s : List ℕ) where
  pub limited_length : length s < 0x1_0000_0000 → length ((limited lim).enc s) ≡ length (v_long.enc (length s)) + length s
  unfolding limited as_type seq guard raw
  limited_length h = rw (length-append, int_long (length s) h)

  pub wrote-limited : {o₁ o₂ o₃ : List ℕ} {at r₁ r₂ : ℕ} → Wrote v_int (length s) o₁ o₂ at r₁ → Wrote (raw (length s)) s o₂ o₃ r₁ r₂ → Wrote (limited lim) s o₁ o₃ at r₂
  unfolding limited
  wrote-limited x y =
      wrote_type all (λ p. p.1) (λ b. (length b, b)) (seq (guard (λ n. leb n lim) 6 v_int) raw)
      (wrote-seq (guard (λ n. leb n lim) 6 v_int) raw (wrote-guard (λ n. leb n lim) 6 v_int x) y)

pub at-limited : (s : List ℕ) (at lim : ℕ) → read_at (limited lim) s at
    ≡ after (read_at v_int s at) (λ n j. cond (leb n lim) (cond (leb n (length s - j)) (whole (take n (drop j s)) (j + n)) more) (refused 6))
unfolding limited
at-limited s at lim = simp (at_type, at-seq, at-guard, at_raw, after-after, at_cond)

-- writing a number of m bytes from the last to the first
big_digits : (n v : ℕ) → (big_endian n).enc v ≡ digits_in 256 (λ x. x % 256) n v
unfolding big_endian seq byte as_type empty
big_digits zero v = refl
big_digits (suc n) v = rw (big_digits n (v / 256))
