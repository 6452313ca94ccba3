-- Writing a number byte by byte: what a loop knows between two bytes, for every greatest count of bytes. Assumes nothing.
use mathlib.Core.Path.{◌≡◌, refl, sym, ap, ◌∙◌}
use mathlib.Core.List.{List, [], ◌∷◌}
use mathlib.Core.Bool.{Bool, true, false, cond}
use Prim.Native.Nat.{ℕ, zero, suc, ◌+◌, ◌/◌, ◌%◌, ◌≤◌, ◌<◌, suc-le-suc, zero-le}
use native.Mathlib.Numerals.{add-one}
use native.Mathlib.Omega.{arith}
use lib.ListN.{length, set, length-set}
use lib.Seq.{sets}
use lib.Dec.{leb, ltb}
use borrow.Author.Tests.{lt-ltb, le-ltb, le-leb}
use Rattle.wire.specs.Codec.{Valid}
use Rattle.wire.proofs.Laws.{and, and_false}
use Rattle.wire.specs.Number.{number_enc, limit, number, v_int, v_long}
use Rattle.wire.specs.Write.{Wrote}
use Rattle.wire.proofs.Digits.{Digits}

enc-one : (c x : ℕ) → x < 128 → number_enc c x ≡ x ∷ []
unfolding number_enc
enc-one zero x h = refl
enc-one (suc c) x h = rw (lt-ltb x 128 h)

pub enc-some : (c x : ℕ) → 1 ≤ length (number_enc c x)
unfolding number_enc
enc-some zero x = suc-le-suc zero-le
enc-some (suc c) x = go (ltb x 128)
  where
    go : (t : Bool) → 1 ≤ length (cond t (x ∷ []) ((128 + x % 128) ∷ number_enc c (x / 128)))
    go true = suc-le-suc zero-le
    go false = suc-le-suc zero-le

pub enc-most : (c x : ℕ) → length (number_enc c x) ≤ suc c
unfolding number_enc
enc-most zero x = suc-le-suc zero-le
enc-most (suc c) x = go (ltb x 128) (enc-most c (x / 128))
  where
    go : (t : Bool) → length (number_enc c (x / 128)) ≤ suc c → length (cond t (x ∷ []) ((128 + x % 128) ∷ number_enc c (x / 128))) ≤ suc (suc c)
    go true h = suc-le-suc zero-le
    go false h = suc-le-suc h

-- two greatest counts that a number is within give it the same bytes
pub enc-same : (c j v : ℕ) → v < limit 127 c → v < limit 127 j → number_enc c v ≡ number_enc j v
unfolding number_enc
enc-same zero zero v h g = refl
enc-same zero (suc j) v h g = rw (lt-ltb v 128 h)
enc-same (suc c) zero v h g = rw (lt-ltb v 128 g)
enc-same (suc c) (suc j) v h g =
    let e : number_enc c (v / 128) ≡ number_enc j (v / 128) = enc-same c j (v / 128) (omega arith) (omega arith) in
    rw e

-- the digits of a number, seven bits each
pub number_digits : Digits 128 number_enc
unfolding number_enc
number_digits = record { one = λ c x h. ap length (enc-one c x h); on = λ c x h. rw (le-ltb x 128 h); last = λ x. refl }

module _ (k top most v at : ℕ) (old : List ℕ) where
  pub record Left (new : List ℕ) (i x : ℕ) : Type 0 where
    pub c : ℕ
    pub small : x < limit top c
    pub same : sets old at (number_enc most v) ≡ sets new i (number_enc c x)
    pub ends : at + length (number_enc most v) ≡ i + length (number_enc c x)
    pub long : length new ≡ length old

  pub begin : v < limit top most → Left old at v
  begin h = record { c = most; small = h; same = refl; ends = refl; long = refl }

  module _ (new : List ℕ) (i x : ℕ) where
    -- there is room for the next byte
    pub room : Left new i x → i < at + length (number_enc most v)
    room g = omega (arith, g.ends, enc-some g.c x)

    pub on : top < 128 → Left new i x → 128 ≤ x → Left (set new i (128 + x % 128)) (i + 1) (x / 128)
    unfolding number_enc
    on t g h = go g.c g.small g.same g.ends g.long
      where
        go : (c : ℕ) → x < limit top c → sets old at (number_enc most v) ≡ sets new i (number_enc c x) → at + length (number_enc most v) ≡ i + length (number_enc c x)
            → length new ≡ length old → Left (set new i (128 + x % 128)) (i + 1) (x / 128)
        go zero s q e l = absurd (omega arith)
        go (suc c) s q e l =
            record {
              c = c;
              small = omega arith;
              same = rw add-one (simp (le-ltb x 128 h) at q);
              ends = omega (arith, simp (le-ltb x 128 h) at e);
              long = length-set new i (128 + x % 128) ∙ l;
            }

    pub end : (lo : ℕ) → Left new i x → x < 128 → Wrote (number k top most lo) v old (set new i x) at (i + 1)
    unfolding number
    end lo g h =
        let o = enc-one g.c x h in
        record { next = omega (arith, g.ends, ap length o); list = sym (g.same ∙ rw o); long = length-set new i x ∙ g.long }

-- the numbers that have a written form, and those that have none
pub number-good : (k top c lo v : ℕ) → lo ≤ v → v < limit top c → Valid (number k top c lo) v
unfolding number
number-good k top c lo v l h = and (le-leb lo v l) (lt-ltb v (limit top c) h)

pub number-bad : (k top c lo v : ℕ) → limit top c ≤ v → (number k top c lo).ok v ≡ false
unfolding number
number-bad k top c lo v h = rw (le-ltb v (limit top c) h) (and_false (leb lo v))

-- a vInt has the bytes of the vLong of the same value
pub int_long : (v : ℕ) → v < 0x1_0000_0000 → v_int.enc v ≡ v_long.enc v
unfolding v_int v_long number
int_long v h = enc-same 4 8 v (omega arith) (omega arith)
