-- What measuring and writing entries go by. Assumes nothing.
use mathlib.Core.Path.{◌≡◌, refl, sym, ap, ◌∙◌}
use mathlib.Core.List.{List, []}
use mathlib.Core.Option.{none, some}
use mathlib.Core.Bool.{Bool, true, false, cond}
use Prim.Native.Nat.{ℕ, suc, ◌+◌, ◌*◌, ◌/◌, ◌≤◌, ◌<◌}
use native.Mathlib.Omega.{arith}
use lib.ListN.{length, get_or, drop, length-append, length-take}
use lib.Dec.{lit≤}
use borrow.Author.Tests.{eq-eqb, ne_eqb}
use Rattle.wire.specs.Codec.{Codec, Valid, Bytes, byte, seq, as_type}
use Rattle.wire.specs.Number.{v_long}
use Rattle.wire.specs.Field.{limited}
use Rattle.wire.specs.Listed.{item}
use Rattle.wire.specs.Write.{Room, Wrote, put_at}
use Rattle.wire.proofs.Laws.{never, and, and_false, seq-valid, type_valid, bytes-part}
use Rattle.wire.proofs.FieldLaws.{limited-good, limited-long, limited_length}
use Rattle.wire.proofs.ListedEnc.{item-enc}
use Rattle.wire.proofs.ListedWrite.{wrote-item, Measured, measured_bad, measured_on, measured_all}
use Rattle.wire.proofs.UptoLaws.{length_upto, get_or_upto}
use Rattle.wire.proofs.WriteLaws.{put-wrote, wrote-seq, wrote_type}
use Rattle.field.specs.FieldRead.{part_of}
use Rattle.field.specs.declared.Span.{Span}
use Rattle.message.specs.Arguments.{key_limit, value_limit, is_empty}
use Rattle.message.specs.Listing.{item_of, listing}
use Rattle.message.proofs.ListingLaws.{longest, item_of-most, listing-most}
use Rattle.listing.specs.EntryWrite.{span_at, entry_named, listed_in, Short, length_of}

-- how many bytes a value takes
module _ {A : Type 0} (c : Codec A) (a : A) where
  pub length_good : (n : ℕ) → Valid c a → length (c.enc a) ≡ n → some n ≡ length_of c a
  unfolding length_of
  length_good n v e = rw (v, e)

  pub length_bad : c.ok a ≡ false → none ≡ length_of c a
  unfolding length_of
  length_bad e = rw e

  pub length_some : (n : ℕ) → some n ≡ length_of c a → Valid c a × (length (c.enc a) ≡ n)
  unfolding length_of
  length_some n e = go (c.ok a) refl e
    where
      go : (t : Bool) → c.ok a ≡ t → some n ≡ cond t (some (length (c.enc a))) none → Valid c a × (length (c.enc a) ≡ n)
      go true v e = (v, cc)
      go false v e = never (cc)

  pub length_none : none ≡ length_of c a → c.ok a ≡ false
  unfolding length_of
  length_none e = go (c.ok a) refl e
    where
      go : (t : Bool) → c.ok a ≡ t → none ≡ cond t (some (length (c.enc a))) none → c.ok a ≡ false
      go true v e = never (cc)
      go false v e = v

-- which entries have a written form, and how many bytes they take
module _ (k v : List ℕ) where
  pub key-over : (values : Bool) → key_limit < length k → (item_of values).ok (k, v) ≡ false
  unfolding item_of seq as_type
  key-over true h = rw (limited-long key_limit k h)
  key-over false h = rw (limited-long key_limit k h) (and_false (is_empty v))

  pub value-over : value_limit < length v → (item_of true).ok (k, v) ≡ false
  unfolding item_of seq
  value-over h = rw (limited-long value_limit v h) (and_false ((limited key_limit).ok k))

  pub value-sent : (length v ≡ 0 → ⊥) → (item_of false).ok (k, v) ≡ false
  unfolding item_of as_type
  value-sent h = rw (ne_eqb (length v) 0 h)

  module _ (b : Bytes k) (h : length k ≤ key_limit) where
    key-long : length ((limited key_limit).enc k) ≡ length (v_long.enc (length k)) + length k
    key-long = limited_length key_limit k (omega arith)

    pub key_length : length v ≡ 0 → some (length (v_long.enc (length k)) + length k) ≡ length_of (item_of false) (k, v)
    unfolding item_of as_type
    key_length e = length_good (item_of false) (k, v) _ (and (eq-eqb (length v) 0 e) (limited-good key_limit k (omega arith) h b)) key-long

    pub pair_length : Bytes v → length v ≤ value_limit
        → some (length (v_long.enc (length k)) + length k + (length (v_long.enc (length v)) + length v)) ≡ length_of (item_of true) (k, v)
    unfolding item_of seq
    pair_length w l =
        length_good (item_of true) (k, v) _ (and (limited-good key_limit k (omega arith) h b) (limited-good value_limit v (omega arith) l w))
        (rw (length-append, key-long, limited_length value_limit v (omega arith)))

-- an entry is written
module _ (k v : List ℕ) (at : ℕ) (old : List ℕ) where
  one : {o₁ : List ℕ} {r₁ : ℕ} → at + 1 ≤ length old → (r₁, o₁) ≡ put_at byte 1 at old → Wrote byte 1 old o₁ at r₁
  unfolding byte
  one h e = put-wrote byte 1 at old refl h _ _ e

  module _ {o₁ o₂ : List ℕ} {r₁ r₂ : ℕ} (e : (r₁, o₁) ≡ put_at byte 1 at old) (f : (r₂, o₂) ≡ put_at (limited key_limit) k r₁ o₁) where
    pub wrote-key : Valid (item_of false) (k, v) → Room (item (item_of false)) (some (k, v)) at old → Wrote (item (item_of false)) (some (k, v)) old o₂ at r₂
    unfolding item_of as_type byte
    wrote-key g h =
        let l = ap length (item-enc (item_of false) (k, v)) in
        let w = (type_valid {B = List ℕ × List ℕ} (λ p. is_empty p.1) (λ k. (k, [])) (λ p. p.0) (limited key_limit) (k, v) g).1 in
        let x = one (omega (arith, l)) e in
        let y = put-wrote (limited key_limit) k r₁ o₁ w (omega (arith, l, x.next, x.long)) _ _ f in
        wrote-item (item_of false) x (wrote_type {B = List ℕ × List ℕ} (λ p. is_empty p.1) (λ k. (k, [])) (λ p. p.0) (limited key_limit) {b = (k, v)} y)

    pub wrote-pair : {o₃ : List ℕ} {r₃ : ℕ} → (r₃, o₃) ≡ put_at (limited value_limit) v r₂ o₂ → Valid (item_of true) (k, v) → Room (item (item_of true)) (some (k, v)) at old
        → Wrote (item (item_of true)) (some (k, v)) old o₃ at r₃
    unfolding item_of seq byte
    wrote-pair d g h =
        let l = ap length (item-enc (item_of true) (k, v)) in
        let m = length-append ((limited key_limit).enc k) ((limited value_limit).enc v) in
        let w = seq-valid (limited key_limit) (λ _. limited value_limit) (k, v) g in
        let x = one (omega (arith, l)) e in
        let y = put-wrote (limited key_limit) k r₁ o₁ w.0 (omega (arith, l, m, x.next, x.long)) _ _ f in
        let z = put-wrote (limited value_limit) v r₂ o₂ w.1 (omega (arith, l, m, x.next, x.long, y.next, y.long)) _ _ d in
        wrote-item (item_of true) x (wrote-seq (limited key_limit) (λ _. limited value_limit) y z)

-- the entries that numbers name
module _ (bytes numbers : List ℕ) where
  pub listed_length : length (listed_in bytes numbers) ≡ length numbers / 4
  unfolding listed_in
  listed_length = length_upto _ _

  listed_at : (i : ℕ) → i < length numbers / 4 → get_or (listed_in bytes numbers) i ([], []) ≡ entry_named bytes numbers i
  unfolding listed_in
  listed_at i h = get_or_upto (λ i. entry_named bytes numbers i) (length numbers / 4) i ([], []) h

  pub named : (i : ℕ) → i < length numbers / 4 → {k v : List ℕ} {p q : Span} → k ≡ part_of bytes p → p ≡ span_at numbers (i * 4) → v ≡ part_of bytes q → q ≡ span_at numbers (i * 4 + 2)
      → (k, v) ≡ get_or (listed_in bytes numbers) i ([], [])
  unfolding entry_named
  named i h e p f q = rw (e, p, f, q) (sym (listed_at i h))

  module _ (values : Bool) (few : length numbers / 4 ≤ 128) (i : ℕ) (l : i < length numbers / 4) {k v : List ℕ} (e : (k, v) ≡ get_or (listed_in bytes numbers) i ([], []))
      (size : ℕ) (g : Measured (item_of values) 128 (listed_in bytes numbers) i size) where
    pub entry-bad : none ≡ length_of (item_of values) (k, v) → none ≡ length_of (listing values) (listed_in bytes numbers)
    unfolding listing
    entry-bad q =
        length_bad (listing values) (listed_in bytes numbers)
        (measured_bad (item_of values) 128 (listed_in bytes numbers) (omega (arith, listed_length)) ([], []) i (omega (arith, listed_length)) size g
        (rw e at (length_none (item_of values) (k, v) q)))

    pub entry-on : (n : ℕ) → some n ≡ length_of (item_of values) (k, v) → Measured (item_of values) 128 (listed_in bytes numbers) (i + 1) (size + (n + 1))
    entry-on n q =
        let w = length_some (item_of values) (k, v) n q in
        let m : n + 1 ≡ suc (length ((item_of values).enc (k, v))) = omega (arith, w.1) in
        rw (m, e)
        (measured_on (item_of values) 128 (listed_in bytes numbers) (omega (arith, listed_length)) ([], []) i (omega (arith, listed_length)) size g (rw e at w.0))

-- an entry takes at most 323 bytes
pub entry-most : (values : Bool) (p : List ℕ × List ℕ) (n : ℕ) → some n ≡ length_of (item_of values) p → n ≤ 323
entry-most values p n q =
    let w = length_some (item_of values) p n q in
    omega (arith, w.1, (item_of-most values).most p w.0, most values)
  where
    most : (values : Bool) → longest values ≤ 323
    most true = lit≤ tt
    most false = lit≤ tt

-- those before the i-th have a written form, whatever the bytes are
abbrev pub Judged : List ℕ → ℕ → Type 0
Judged numbers i = (bytes : List ℕ) → Bytes bytes → (size : ℕ) × Measured (item_of true) 128 (listed_in bytes numbers) i size

module _ (numbers : List ℕ) where
  pub judged-on : length numbers / 4 ≤ 128 → (i : ℕ) → i < length numbers / 4 → (span_at numbers (i * 4)).len ≤ key_limit → (span_at numbers (i * 4 + 2)).len ≤ value_limit
      → Judged numbers i → Judged numbers (i + 1)
  judged-on few i l h g j bytes b =
      let m = j bytes b in
      let p = span_at numbers (i * 4) in
      let q = span_at numbers (i * 4 + 2) in (
        _,
        entry-on bytes numbers true few i l (named bytes numbers i l refl refl refl refl) m.0 m.1 _
            (pair_length (part_of bytes p) (part_of bytes q)
            (bytes-part bytes p.start p.len b) (omega (arith, length-take p.len (drop p.start bytes))) (bytes-part bytes q.start q.len b) (omega (arith, length-take q.len (drop q.start bytes)))),
      )

  pub judged-all : (i : ℕ) → i ≡ length numbers / 4 → Judged numbers i → Short numbers
  unfolding listing
  judged-all i e j bytes b = let m = j bytes b in (measured_all (item_of true) 128 (listed_in bytes numbers) i (e ∙ sym (listed_length bytes numbers)) m.0 m.1).0

-- and there is room for the longest
pub sure : (bytes numbers : List ℕ) (values : Bool) (at : ℕ) (old : List ℕ) → Bytes bytes → (values ≡ true) × ((at + 41_473 ≤ length old) × Short numbers)
    → Valid (listing values) (listed_in bytes numbers) × Room (listing values) (listed_in bytes numbers) at old
sure bytes numbers values at old b f =
    let v = f.1.1 bytes b in
    let m : length ((listing true).enc (listed_in bytes numbers)) ≤ 41_473 = (listing-most true).most (listed_in bytes numbers) v in
    rw f.0 (v, omega (arith, f.1.0))
