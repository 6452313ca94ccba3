-- Reading a number byte by byte, from a place in a list: what a loop knows between two bytes, and what each byte makes of it. For every
-- greatest count of bytes. Assumes nothing.
use mathlib.Core.Path.{◌≡◌, refl, sym, ◌∙◌}
use mathlib.Core.List.{List}
use Prim.Native.Nat.{ℕ, zero, suc, ◌+◌, ◌-◌, ◌*◌, ◌≤◌, ◌<◌, suc-le-suc}
use native.Mathlib.Nat.{add_assoc, add-suc, suc-add, mul-add, mul_assoc, mul-suc, mul-le-mul_left}
use native.Mathlib.Numerals.{add-one}
use native.Mathlib.Omega.{arith}
use lib.ListN.{length, get_or, drop, drop_of_length-le}
use lib.Seq.{drop-cons}
use borrow.Author.Tests.{lt-ltb, le-ltb, le-leb, lt-leb}
use Rattle.wire.specs.Codec.{Read, whole, more, refused, after, read_at}
use Rattle.wire.specs.Number.{number_dec, limit, number, v_int}
use Rattle.wire.proofs.Laws.{after_same, after-after}
use Rattle.wire.proofs.NumberLaws.{limit_pos, v_int_laws}
use Rattle.wire.proofs.At.{at-within}

module _ (k top : ℕ) (s : List ℕ) where
  -- what each byte says
  pub at-end : (c lo i : ℕ) → length s ≤ i → read_at (number k top c lo) s i ≡ more
  unfolding number_dec read_at number
  at-end c lo i h = rw (drop_of_length-le s h)

  pub at_low : (c lo i : ℕ) → i < length s → lo ≤ 128 → get_or s i 0 < lo → read_at (number k top c lo) s i ≡ refused k
  unfolding number_dec read_at number
  at_low zero lo i h l b = rw (drop-cons s i 0 h, lt-ltb (get_or s i 0) lo b)
  at_low (suc c) lo i h l b = rw (drop-cons s i 0 h, lt-ltb (get_or s i 0) lo b, lt-ltb (get_or s i 0) 128 (omega arith))

  pub at_last : (c lo i : ℕ) → i < length s → lo ≤ get_or s i 0 → c ≡ 0 → get_or s i 0 ≤ top → read_at (number k top c lo) s i ≡ whole (get_or s i 0) (i + 1)
  unfolding number_dec read_at number
  at_last c lo i h l z b = rw (z, drop-cons s i 0 h, le-ltb (get_or s i 0) lo l, le-leb (get_or s i 0) top b)

  pub at-over : (c lo i : ℕ) → i < length s → lo ≤ get_or s i 0 → c ≡ 0 → top < get_or s i 0 → read_at (number k top c lo) s i ≡ refused k
  unfolding number_dec read_at number
  at-over c lo i h l z b = rw (z, drop-cons s i 0 h, le-ltb (get_or s i 0) lo l, lt-leb (get_or s i 0) top b)

  pub at-short : (c lo i : ℕ) → i < length s → lo ≤ get_or s i 0 → (c ≡ 0 → ⊥) → get_or s i 0 < 128 → read_at (number k top c lo) s i ≡ whole (get_or s i 0) (i + 1)
  unfolding number_dec read_at number
  at-short zero lo i h l z b = absurd (z refl)
  at-short (suc c) lo i h l z b = rw (drop-cons s i 0 h, le-ltb (get_or s i 0) lo l, lt-ltb (get_or s i 0) 128 b)

  at_long : (c lo i : ℕ) → i < length s → 128 ≤ get_or s i 0
      → read_at (number k top (suc c) lo) s i ≡ after (read_at (number k top c 1) s (i + 1)) (λ v j. whole (get_or s i 0 - 128 + 128 * v) j)
  unfolding number_dec read_at number
  at_long c lo i h b =
      rw (add-one, drop-cons s i 0 h, le-ltb (get_or s i 0) 128 b, after-after (number_dec k top c 1 (drop (suc i) s)), after-after (number_dec k top c 1 (drop (suc i) s)))
      (after_same (number_dec k top c 1 (drop (suc i) s)) (λ v n. rw (add-suc, suc-add)))

  -- between two bytes of the number at `at`: what is read from i on decides it
  pub record Going (most at i left low p acc : ℕ) : Type 0 where
    pub rest : read_at (number k top most 0) s at ≡ after (read_at (number k top left low) s i) (λ v j. whole (acc + p * v) j)
    pub small : acc < p
    pub room : p * limit top left ≡ limit top most
    pub lows : low ≤ 1

  pub start : (most at : ℕ) → Going most at at most 0 1 0
  start most at =
      record { rest = sym (after-id (read_at (number k top most 0) s at)); small = omega arith; room = omega arith; lows = omega arith }
    where
      zero_plus : (v : ℕ) → 0 + 1 * v ≡ v
      zero_plus v = omega arith

      after-id : (r : Read ℕ) → after r (λ v j. whole (0 + 1 * v) j) ≡ r
      after-id (whole v n) = rw zero_plus
      after-id more = refl
      after-id (refused k) = refl

  module _ (most at i low p acc : ℕ) where
    -- a byte with its high bit
    step_suc : (c : ℕ) → Going most at i (suc c) low p acc → i < length s → 128 ≤ get_or s i 0 → get_or s i 0 < 256
        → Going most at (i + 1) c 1 (p * 128) (acc + p * (get_or s i 0 - 128))
    step_suc c g h l u =
        record {
          rest = g.rest ∙ rw (at_long c low i h l, after-after) (after_same (read_at (number k top c 1) s (i + 1)) (λ v n. rw (mul-add, ← mul_assoc p 128 v, add_assoc)));
          small = omega (arith, mul-le-mul_left {m = get_or s i 0 - 128} {n = 127} p (omega arith));
          room = mul_assoc p 128 (limit top c) ∙ g.room;
          lows = omega arith;
        }

    pub step : (left : ℕ) → Going most at i left low p acc → i < length s → (left ≡ 0 → ⊥) → 128 ≤ get_or s i 0 → get_or s i 0 < 256
        → Going most at (i + 1) (left - 1) 1 (p * 128) (acc + p * (get_or s i 0 - 128))
    step zero g h n l u = absurd (n refl)
    step (suc c) g h n l u = let e : suc c - 1 ≡ c = omega arith in rw e (step_suc c g h l u)

    -- what is read fits
    fits : (left : ℕ) → Going most at i left low p acc → (b : ℕ) → b < limit top left → acc + p * b < limit top most
    fits left g b h = omega (arith, g.room, g.small, mul-suc p b, mul-le-mul_left p h)

    pub factor : (left : ℕ) → Going most at i left low p acc → p ≤ limit top most
    factor left g = omega (arith, g.room, mul-le-mul_left p (limit_pos top left))

    pub fits_last : (left : ℕ) → Going most at i left low p acc → (b : ℕ) → left ≡ 0 → b ≤ top → acc + p * b < limit top most
    fits_last left g b z h = fits left g b (rw z (suc-le-suc h))

    pub fits-short : (left : ℕ) → Going most at i left low p acc → (b : ℕ) → (left ≡ 0 → ⊥) → b < 128 → acc + p * b < limit top most
    fits-short zero g b z h = absurd (z refl)
    fits-short (suc c) g b z h = fits (suc c) g b (omega (arith, limit_pos top c))

-- a whole number ends within the list
pub v_int-within : (s : List ℕ) (at v j : ℕ) → read_at v_int s at ≡ whole v j → j ≤ length s
unfolding v_int number number_dec
v_int-within s at v j e = at-within v_int v_int_laws refl s at v j e
