-- The bytes of values one after the other, from an index on: what measuring and writing them go by. Assumes nothing.
use mathlib.Core.Path.{◌≡◌, refl, sym, ap, ◌∙◌}
use mathlib.Core.List.{List, [], ◌∷◌, ◌++◌}
use mathlib.Core.Option.{some}
use mathlib.Core.Bool.{false, ◌&&◌}
use Prim.Native.Nat.{ℕ, suc, ◌+◌, ◌-◌, ◌≤◌, ◌<◌}
use native.Mathlib.Numerals.{add-one}
use native.Mathlib.Omega.{arith}
use lib.ListN.{length, get_or, drop, length-append, drop_of_length-le}
use lib.Seq.{sets, drop-cons}
use lib.Dec.{leb}
use Rattle.wire.specs.Codec.{Codec, Valid, byte, seq, all}
use Rattle.wire.specs.Listed.{more_byte, behind, to_item, from_item, item, listed}
use Rattle.wire.specs.Write.{Room, Wrote}
use Rattle.wire.proofs.Laws.{both}
use Rattle.wire.proofs.ListedEnc.{item-enc, nil-ok, nil-enc, cons_ok, cons_enc}
use Rattle.wire.proofs.WriteLaws.{sets_append, wrote-seq, wrote-guard, wrote_type}

-- those from an index on: the first of them, and the others
module _ {A : Type 0} (c : Codec A) (n : ℕ) (xs : List A) (few : length xs ≤ n) (d : A) (i : ℕ) (l : i < length xs) where
  ok_at : (listed (n - i) c).ok (drop i xs) ≡ (c.ok (get_or xs i d) && (listed (n - suc i) c).ok (drop (suc i) xs))
  ok_at =
      let e : n - i ≡ suc (n - suc i) = omega arith in
      rw (e, drop-cons xs i d l) (cons_ok c (n - suc i) (get_or xs i d) (drop (suc i) xs))

  enc-at : (listed (n - i) c).enc (drop i xs) ≡ (item c).enc (some (get_or xs i d)) ++ (listed (n - suc i) c).enc (drop (suc i) xs)
  enc-at =
      let e : n - i ≡ suc (n - suc i) = omega arith in
      rw (e, drop-cons xs i d l) (cons_enc c (n - suc i) (get_or xs i d) (drop (suc i) xs))

  length_at : length ((listed (n - i) c).enc (drop i xs)) ≡ suc (length (c.enc (get_or xs i d))) + length ((listed (n - suc i) c).enc (drop (suc i) xs))
  length_at =
      ap length enc-at ∙ length-append ((item c).enc (some (get_or xs i d))) ((listed (n - suc i) c).enc (drop (suc i) xs)) ∙ rw item-enc

-- those before the i-th have a written form, and take `size` bytes with the end
pub record Measured {A : Type 0} (c : Codec A) (n : ℕ) (xs : List A) (i size : ℕ) : Type 0 where
  pub ok : (listed n c).ok xs ≡ (listed (n - i) c).ok (drop i xs)
  pub long : suc (length ((listed n c).enc xs)) ≡ size + length ((listed (n - i) c).enc (drop i xs))

-- those before the i-th are written, and those from it on are still to be, from `here` on
pub record Begun {A : Type 0} (c : Codec A) (n : ℕ) (xs : List A) (old : List ℕ) (at : ℕ) (new : List ℕ) (i here : ℕ) : Type 0 where
  pub list : sets old at ((listed n c).enc xs) ≡ sets new here ((listed (n - i) c).enc (drop i xs))
  pub end : at + length ((listed n c).enc xs) ≡ here + length ((listed (n - i) c).enc (drop i xs))
  pub good : Valid (listed (n - i) c) (drop i xs)
  pub long : length new ≡ length old

module _ {A : Type 0} (c : Codec A) (n : ℕ) (xs : List A) where
  pub begun : (old : List ℕ) (at : ℕ) → Valid (listed n c) xs → Begun c n xs old at old 0 at
  begun old at v = let e : n - 0 ≡ n = omega arith in record { list = rw e; end = rw e; good = rw e v; long = refl }

  module _ (few : length xs ≤ n) (d : A) (i : ℕ) (l : i < length xs) where
    pub measured_bad : (size : ℕ) → Measured c n xs i size → c.ok (get_or xs i d) ≡ false → (listed n c).ok xs ≡ false
    measured_bad size g e = g.ok ∙ ok_at c n xs few d i l ∙ rw e

    pub measured_on : (size : ℕ) → Measured c n xs i size → Valid c (get_or xs i d) → Measured c n xs (i + 1) (size + suc (length (c.enc (get_or xs i d))))
    measured_on size g v =
        rw add-one
        (record {
          ok = g.ok ∙ ok_at c n xs few d i l ∙ rw v;
          long = g.long ∙ omega (arith, length_at c n xs few d i l);
        })

    module _ (old : List ℕ) (at : ℕ) (new : List ℕ) (here : ℕ) (g : Begun c n xs old at new i here) where
      pub on-valid : Valid c (get_or xs i d)
      on-valid = (both (c.ok (get_or xs i d)) _ (sym (ok_at c n xs few d i l) ∙ g.good)).0

      pub on_room : at + length ((listed n c).enc xs) ≤ length old → Room (item c) (some (get_or xs i d)) here new
      on_room r = omega (arith, g.end, g.long, length_at c n xs few d i l, ap length (item-enc c (get_or xs i d)))

      pub on : (next : List ℕ) (r : ℕ) → Wrote (item c) (some (get_or xs i d)) new next here r → Begun c n xs old at next (i + 1) r
      on next r w =
          rw (add-one, w.next)
          (record {
            list = g.list ∙ rw (enc-at c n xs few d i l, w.list) (sets_append new here ((item c).enc (some (get_or xs i d))) ((listed (n - suc i) c).enc (drop (suc i) xs)));
            end = g.end ∙ omega (arith, length_at c n xs few d i l, ap length (item-enc c (get_or xs i d)));
            good = (both (c.ok (get_or xs i d)) _ (sym (ok_at c n xs few d i l) ∙ g.good)).1;
            long = w.long ∙ g.long;
          })

  module _ (i : ℕ) (e : i ≡ length xs) where
    none_left : drop i xs ≡ []
    none_left = drop_of_length-le xs {i = i} (omega arith)

    pub measured_all : (size : ℕ) → Measured c n xs i size → Valid (listed n c) xs × (length ((listed n c).enc xs) ≡ size)
    measured_all size g =
        let q : length ((listed (n - i) c).enc (drop i xs)) ≡ 1 = rw (none_left, nil-enc) in
        (g.ok ∙ rw none_left (nil-ok c (n - i)), omega (arith, g.long))

    -- the byte 0 is the last to be written
    pub end-room : (old : List ℕ) (at : ℕ) (new : List ℕ) (here : ℕ) → Begun c n xs old at new i here → at + length ((listed n c).enc xs) ≤ length old → here + 1 ≤ length new
    end-room old at new here g r =
        let q : length ((listed (n - i) c).enc (drop i xs)) ≡ 1 = rw (none_left, nil-enc) in
        omega (arith, g.end, g.long)

    pub written : (old : List ℕ) (at : ℕ) (new : List ℕ) (here : ℕ) → Begun c n xs old at new i here → (next : List ℕ) (r : ℕ) → Wrote byte 0 new next here r
        → Wrote (listed n c) xs old next at r
    unfolding byte
    written old at new here g next r w =
        let q : (listed (n - i) c).enc (drop i xs) ≡ 0 ∷ [] = rw (none_left, nil-enc) in
        record {
          next = w.next ∙ omega (arith, g.end, ap length q);
          list = w.list ∙ sym (g.list ∙ rw q);
          long = w.long ∙ g.long;
        }

-- a value behind its byte 1
pub wrote-item : {A : Type 0} (c : Codec A) {a : A} {o₁ o₂ o₃ : List ℕ} {at r₁ r₂ : ℕ} → Wrote byte 1 o₁ o₂ at r₁ → Wrote c a o₂ o₃ r₁ r₂ → Wrote (item c) (some a) o₁ o₃ at r₂
unfolding item more_byte behind
wrote-item c {a = a} x y =
    wrote_type all (λ p. to_item p.0 p.1) from_item (seq more_byte (behind c)) {b = some a}
    (wrote-seq more_byte (behind c) {a = 1} {b = a} (wrote-guard (λ b. leb b 1) 8 byte x) y)
