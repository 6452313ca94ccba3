-- The laws of the numbers of seven bits a byte, proved once over the greatest count of bytes. Assumes nothing.
use mathlib.Core.Path.{◌≡◌, refl}
use mathlib.Core.List.{List, [], ◌∷◌, ◌++◌}
use mathlib.Core.Bool.{Bool, true, false, cond}
use Prim.Native.Nat.{ℕ, zero, suc, ◌+◌, ◌-◌, ◌*◌, ◌/◌, ◌%◌, ◌≤◌, ◌<◌, suc-le-suc, zero-le}
use native.Mathlib.Decide.{dec_lt}
use native.Mathlib.Omega.{arith}
use lib.ListN.{length, take}
use lib.Dec.{leb, ltb, lit≤}
use borrow.Author.Tests.{ltb-true, ltb-false, leb-true, lt-ltb, le-ltb, le-leb}
use Rattle.wire.specs.Codec.{whole, more, refused, after, Valid, Bytes}
use Rattle.wire.specs.Number.{number_dec, number_enc, limit, number, v_int, v_long}
use Rattle.wire.proofs.Laws.{Exact, Laws, never, both, and, after-whole, passed, spared, sized, moved, bytes-none, bytes_cons}

pub limit_pos : (top c : ℕ) → 1 ≤ limit top c
limit_pos top zero = suc-le-suc zero-le
limit_pos top (suc c) = omega (arith, limit_pos top c)

module _ (k top : ℕ) where
  pub valid : (c lo v : ℕ) → Valid (number k top c lo) v → (lo ≤ v) × (v < limit top c)
  unfolding number
  valid c lo v g = let h = both (leb lo v) (ltb v (limit top c)) g in (leb-true lo v h.0, ltb-true v (limit top c) h.1)

  -- the bytes of a number of more than one byte, as they are read
  round : (c lo v : ℕ) (t : List ℕ) → lo ≤ v → v < limit top c → number_dec k top c lo (number_enc c v ++ t) ≡ whole v (length (number_enc c v))
  unfolding number_dec number_enc
  round zero lo v t l u = simp (le-ltb v lo l, le-leb v top (omega arith))
  round (suc c) lo v t l u = go (dec_lt v 128) (round c 1 (v / 128) t)
    where
      go : Dec (v < 128) → (1 ≤ v / 128 → v / 128 < limit top c → number_dec k top c 1 (number_enc c (v / 128) ++ t) ≡ whole (v / 128) (length (number_enc c (v / 128))))
          → number_dec k top (suc c) lo (number_enc (suc c) v ++ t) ≡ whole v (length (number_enc (suc c) v))
      go (yes s) ih = simp (lt-ltb v 128 s, le-ltb v lo l)
      go (no s) ih =
          let e : 128 + v % 128 - 128 + 128 * (v / 128) ≡ v = omega arith in
          simp (le-ltb v 128 (omega arith), le-ltb (128 + v % 128) 128 (omega arith), ih (omega arith) (omega arith), e)

  waits : (c lo v n : ℕ) → lo ≤ v → v < limit top c → n < length (number_enc c v) → number_dec k top c lo (take n (number_enc c v)) ≡ more
  unfolding number_dec number_enc
  waits c lo v zero l u h = refl
  waits zero lo v (suc n) l u h = absurd (omega arith)
  waits (suc c) lo v (suc n) l u h = go (dec_lt v 128) (waits c 1 (v / 128) n)
    where
      go : Dec (v < 128) → (1 ≤ v / 128 → v / 128 < limit top c → n < length (number_enc c (v / 128)) → number_dec k top c 1 (take n (number_enc c (v / 128))) ≡ more)
          → number_dec k top (suc c) lo (take (suc n) (number_enc (suc c) v)) ≡ more
      go (yes s) ih = absurd (omega (arith, simp (lt-ltb v 128 s) at h))
      go (no s) ih =
          simp (
            le-ltb v 128 (omega arith),
            le-ltb (128 + v % 128) 128 (omega arith),
            ih (omega arith) (omega arith) (omega (arith, simp (le-ltb v 128 (omega arith)) at h)),
          )

  exact : (c lo : ℕ) → lo ≤ 128 → (bs : List ℕ) (v n : ℕ) → Bytes bs → number_dec k top c lo bs ≡ whole v n → Exact (number k top c lo) bs v n
  unfolding number_dec number_enc number
  exact c lo o [] v n h e = never (cc)
  exact zero lo o (b ∷ bs) v n h e =
      let p = spared (ltb b lo) (cond (leb b top) (whole b 1) (refused k)) k e in
      let q = passed (leb b top) (whole b 1) k p.1 in
      moved
      (record {
        good = and (le-leb lo b (ltb-false b lo p.0)) (lt-ltb b (suc top) (suc-le-suc (leb-true b top q.0)));
        same = refl;
      })
      q.1
  exact (suc c) lo o (b ∷ bs) v n h e = go (dec_lt b 128) (exact c 1 (lit≤ tt) bs)
    where
      go : Dec (b < 128) → ((w m : ℕ) → Bytes bs → number_dec k top c 1 bs ≡ whole w m → Exact (number k top c 1) bs w m) → Exact (number k top (suc c) lo) (b ∷ bs) v n
      go (yes s) ih =
          let p = spared (ltb b lo) (whole b 1) k (simp (lt-ltb b 128 s) at e) in
          moved
          (record {
            good = and (le-leb lo b (ltb-false b lo p.0)) (lt-ltb b (128 * limit top c) (omega (arith, limit_pos top c)));
            same = simp (lt-ltb b 128 s);
          })
          p.1
      go (no s) ih =
          let x = after-whole (number_dec k top c 1 bs) (λ w m. whole (b - 128 + 128 * w) (suc m)) v n (simp (le-ltb b 128 (omega arith)) at e) in
          let y = ih x.val x.len (λ i. h (suc i)) x.first in
          let g = valid c 1 x.val y.good in
          let u : x.val < limit top c = g.1 in
          let l : 1 ≤ x.val = g.0 in
          let h0 : b < 256 = h 0 in
          let low : 128 + (b - 128 + 128 * x.val) % 128 ≡ b = omega arith in
          let high : (b - 128 + 128 * x.val) / 128 ≡ x.val = omega arith in
          moved
          (record {
            good = and (le-leb lo (b - 128 + 128 * x.val) (omega arith)) (lt-ltb (b - 128 + 128 * x.val) (128 * limit top c) (omega arith));
            same = simp (le-ltb (b - 128 + 128 * x.val) 128 (omega arith), low, high, y.same);
          })
          x.then

  spans : (c lo : ℕ) (bs : List ℕ) (v n : ℕ) → number_dec k top c lo bs ≡ whole v n → n ≤ length bs
  unfolding number_dec
  spans c lo [] v n e = never (cc)
  spans zero lo (b ∷ bs) v n e =
      let p = spared (ltb b lo) (cond (leb b top) (whole b 1) (refused k)) k e in
      let q : 1 ≡ n = sized (passed (leb b top) (whole b 1) k p.1).1 in
      omega arith
  spans (suc c) lo (b ∷ bs) v n e = go (ltb b 128) (spans c 1 bs) e
    where
      go : (t : Bool) → ((w m : ℕ) → number_dec k top c 1 bs ≡ whole w m → m ≤ length bs)
          → cond t (cond (ltb b lo) (refused k) (whole b 1)) (after (number_dec k top c 1 bs) (λ w m. whole (b - 128 + 128 * w) (suc m))) ≡ whole v n → n ≤ suc (length bs)
      go true ih q = let z : 1 ≡ n = sized (spared (ltb b lo) (whole b 1) k q).1 in omega arith
      go false ih q =
          let x = after-whole (number_dec k top c 1 bs) (λ w m. whole (b - 128 + 128 * w) (suc m)) v n q in
          let z : suc x.len ≡ n = sized x.then in
          omega (arith, ih x.val x.len x.first)

  spelt : (c v : ℕ) → top < 256 → v < limit top c → Bytes (number_enc c v)
  unfolding number_enc
  spelt zero v t h = bytes_cons [] (omega arith) bytes-none
  spelt (suc c) v t h = go (ltb v 128) refl (spelt c (v / 128) t (omega arith))
    where
      go : (b : Bool) → ltb v 128 ≡ b → Bytes (number_enc c (v / 128)) → Bytes (cond b (v ∷ []) ((128 + v % 128) ∷ number_enc c (v / 128)))
      go true e f = let l = ltb-true v 128 e in bytes_cons [] (omega arith) bytes-none
      go false e f = bytes_cons (number_enc c (v / 128)) (omega arith) f

  pub number_laws : (c lo : ℕ) → lo ≤ 128 → top < 256 → Laws (number k top c lo)
  unfolding number
  number_laws c lo o u =
      record {
        round = λ v t g. let h = valid c lo v g in round c lo v t h.0 h.1;
        exact = exact c lo o;
        spans = spans c lo;
        waits = λ v n g h. let w = valid c lo v g in waits c lo v n w.0 w.1 h;
        spelt = λ v g. spelt c v u (valid c lo v g).1;
      }

pub v_int_laws : Laws v_int
unfolding v_int
v_int_laws = number_laws 5 0x0f 4 0 (lit≤ tt) (lit≤ tt)

pub v_long_laws : Laws v_long
unfolding v_long
v_long_laws = number_laws 2 0x7f 8 0 (lit≤ tt) (lit≤ tt)
