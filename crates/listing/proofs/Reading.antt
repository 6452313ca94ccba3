-- What reading an entry goes by. Assumes nothing.
use mathlib.Core.Path.{◌≡◌, refl, sym, ap, ◌∙◌}
use mathlib.Core.List.{List, []}
use mathlib.Core.Option.{Option, none, some}
use mathlib.Core.Bool.{Bool, true, false, cond}
use Prim.Native.Nat.{ℕ, suc, ◌+◌, ◌-◌, ◌≤◌, ◌<◌}
use native.Mathlib.Nat.{add-zero, zero-add, add-suc, suc-add}
use native.Mathlib.Omega.{arith}
use native.Mathlib.Numerals.{add-one}
use lib.ListN.{length}
use lib.Dec.{leb, eqb}
use borrow.Author.Tests.{lt-leb}
use Rattle.std.specs.Prelude.{Result, None, Some}
use Rattle.std.specs.Prelude as rust
use Rattle.std.specs.Option.{is_some}
use Rattle.wire.specs.Codec.{Read, whole, refused, after, mapped, Bytes, byte, read_at}
use Rattle.wire.specs.Field.{limited}
use Rattle.wire.specs.Listed.{more_byte, item, listed}
use Rattle.wire.proofs.Laws.{never, after-after, after-only, after-whole, after_same, same_read, sized, mapped-back, byte_laws}
use Rattle.wire.proofs.At.{at_type, at-seq, at_cond, at_exact}
use Rattle.wire.proofs.FieldLaws.{limited_laws}
use Rattle.wire.proofs.ListedLaws.{on_byte, on_item, at_more, at_item, item-some, at-full, at_listed}
use Rattle.field.specs.FieldRead.{part_of, nowhere, span_to}
use Rattle.field.specs.declared.Span.{Span}
use Rattle.field.specs.declared.Cursor.{Cursor}
use Rattle.field.specs.declared.refusals.Refusal.{Refusal}
use Rattle.field.proofs.Parts.{part-read, no_part, span_none}
use Rattle.decimal.proofs.DecimalRead.{part-by}
use Rattle.message.specs.Arguments.{key_limit, value_limit}
use Rattle.message.specs.Listing.{item_of, listing}
use Rattle.listing.specs.EntryRead.{as_entry, spans_of, pair_at, item_at, item_in}
use Rattle.listing.specs.declared.Entry.{Entry}

-- what stands behind a key
unfoldable pub on_key : Bool → List ℕ → List ℕ → ℕ → Read (List ℕ × List ℕ)
on_key true s k j = after (read_at (limited value_limit) s j) (λ v n. whole (k, v) n)
on_key false s k j = whole (k, []) j

at-item_of : (values : Bool) (s : List ℕ) (at : ℕ) → read_at (item_of values) s at ≡ after (read_at (limited key_limit) s at) (λ k j. on_key values s k j)
unfolding item_of on_key
at-item_of true s at = at-seq s at (limited key_limit) (λ _. limited value_limit)
at-item_of false s at = at_type s at _ _ _ (limited key_limit)

-- an entry goes by the key that its reader found
pub key-by : (values : Bool) (s : List ℕ) (at : ℕ) (r : Read Span) → r ≡ mapped span_to (read_at (limited key_limit) s at)
    → mapped (λ p n. pair_at at p n) (read_at (item_of values) s at) ≡ after r (λ k j. mapped (λ p n. pair_at at p n) (on_key values s (part_of s k) j))
unfolding mapped
key-by values s at r e =
    rw (at-item_of, after-after) (part-by s at key_limit r (λ k j. after (on_key values s k j) (λ p n. whole (pair_at at p n) n)) e)

-- a part that was read: its bytes, and where they stand
record Part (s : List ℕ) (at lim : ℕ) (p : Span) (j : ℕ) : Type 0 where
  read : read_at (limited lim) s at ≡ whole (part_of s p) j
  place : p ≡ span_to (part_of s p) j

part-of : (s : List ℕ) (at lim : ℕ) (p : Span) (j : ℕ) → whole p j ≡ mapped span_to (read_at (limited lim) s at) → Part s at lim p j
unfolding mapped
part-of s at lim p j e =
    let f : read_at (limited lim) s at ≡ whole (part_of s p) j = sym (after-only (read_at (limited lim) s at)) ∙ part-by s at lim (whole p j) (λ b n. whole b n) e in
    let g : whole p j ≡ whole (span_to (part_of s p) j) j = e ∙ rw f in
    record { read = f; place = same_read g }

module _ (s : List ℕ) (at : ℕ) (b : Bytes s) (k : Span) (j : ℕ) (e : whole k j ≡ mapped span_to (read_at (limited key_limit) s at)) where
  key-place : span_to (part_of s k) (at + length ((limited key_limit).enc (part_of s k))) ≡ k
  key-place =
      let x = part-of s at key_limit k j e in
      rw (← (at_exact (limited key_limit) (limited_laws key_limit) s at (part_of s k) j b x.read)) (sym x.place)

  -- without values it has an empty one, and with values it goes by the value that its reader found
  pub pair-key : whole (k, nowhere) j ≡ mapped (λ p n. pair_at at p n) (read_at (item_of false) s at)
  unfolding mapped on_key pair_at
  pair-key = rw (at-item_of, (part-of s at key_limit k j e).read, key-place, ← span_none)

  pub value-by : (r : Read Span) → r ≡ mapped span_to (read_at (limited value_limit) s j)
      → mapped (λ p n. pair_at at p n) (read_at (item_of true) s at) ≡ after r (λ v n. whole (k, v) n)
  unfolding mapped on_key pair_at
  value-by r f =
      rw (at-item_of, (part-of s at key_limit k j e).read, f, after-after, after-after, key-place)
      (sym (after-after (read_at (limited value_limit) s j) (λ v n. whole (span_to v n) n) (λ v n. whole (k, v) n)))

-- an item goes by its more byte, and behind the byte 1 by the entry that its reader found
module _ (values : Bool) (s : List ℕ) (at : ℕ) where
  pub item-by : (r : Read ℕ) → r ≡ read_at byte s at
      → mapped (item_at at) (read_at (item (item_of values)) s at) ≡ after r (λ b j. cond (leb b 1) (mapped (item_at at) (on_byte (item_of values) s b j)) (refused 8))
  unfolding mapped
  item-by r e = rw e (simp (at_item, at_more, after-after, at_cond))

  pub item-end : (j : ℕ) → whole 0 j ≡ read_at byte s at → whole none j ≡ mapped (item_at at) (read_at (item (item_of values)) s at)
  unfolding mapped on_byte item_at
  item-end j e = sym (item-by (whole 0 j) e)

  pub item-bad : (b j : ℕ) → 1 < b → whole b j ≡ read_at byte s at → refused 8 ≡ mapped (item_at at) (read_at (item (item_of values)) s at)
  item-bad b j h e = sym (item-by (whole b j) e ∙ rw (lt-leb b 1 h))

  pub entry-by : Bytes s → (j : ℕ) → whole 1 j ≡ read_at byte s at → (r : Read (Span × Span)) → r ≡ mapped (λ p n. pair_at j p n) (read_at (item_of values) s j)
      → mapped (item_at at) (read_at (item (item_of values)) s at) ≡ after r (λ p n. whole (some p) n)
  unfolding mapped on_byte item_at byte
  entry-by b j e r f =
      let q : j ≡ at + 1 = at_exact byte byte_laws s at 1 j b (sym e) in
      item-by (whole 1 j) e ∙ rw (f, after-after, after-after, ← q)

-- the parts where an entry is told to stand are its own
key_in : (s : List ℕ) (at : ℕ) (b : Bytes s) (k : List ℕ) (j : ℕ) → read_at (limited key_limit) s at ≡ whole k j
    → part_of s (span_to k (at + length ((limited key_limit).enc k))) ≡ k
key_in s at b k j e = rw (← (at_exact (limited key_limit) (limited_laws key_limit) s at k j b e)) (part-read s at key_limit k j e)

value_in_lem : (s k : List ℕ) (j : ℕ) (v : List ℕ) (m : ℕ) (p : List ℕ × List ℕ) (n : ℕ) → read_at (limited value_limit) s j ≡ whole v m → whole (k, v) m ≡ whole p n
    → (k, part_of s (span_to p.1 n)) ≡ p
value_in_lem s k j v m p n e q = rw (← (same_read q), ← (sized q), part-read s j value_limit v m e)

behind_in : (values : Bool) (s : List ℕ) (k : List ℕ) (j : ℕ) (p : List ℕ × List ℕ) (n : ℕ) → on_key values s k j ≡ whole p n → (k, part_of s (span_to p.1 n)) ≡ p
unfolding on_key
behind_in true s k j p n e =
    let y = after-whole (read_at (limited value_limit) s j) _ p n e in
    value_in_lem s k j y.val y.len p n y.first y.then
behind_in false s k j p n e = rw (← (same_read e), no_part)

pair_in : (values : Bool) (s : List ℕ) (at : ℕ) → Bytes s → (p : List ℕ × List ℕ) (n : ℕ) → read_at (item_of values) s at ≡ whole p n
    → (part_of s (pair_at at p n).0, part_of s (pair_at at p n).1) ≡ p
unfolding pair_at
pair_in values s at b p n e =
    let x = after-whole (read_at (limited key_limit) s at) _ p n (sym (at-item_of values s at) ∙ e) in
    let y = behind_in values s x.val x.len p n x.then in
    let k : x.val ≡ p.0 = ap (λ (q : List ℕ × List ℕ). q.0) y in
    ap {B = List ℕ × List ℕ} (λ (l : List ℕ). (l, part_of s (span_to p.1 n))) (key_in s at b p.0 x.len (rw k at x.first) ∙ sym k) ∙ y

item_in_lem : (values : Bool) (s : List ℕ) (at : ℕ) → Bytes s → (o : Option (List ℕ × List ℕ)) (n : ℕ) → read_at (item (item_of values)) s at ≡ whole o n
    → item_in s (item_at at o n) ≡ o
unfolding item_at
item_in_lem values s at b none n e = refl
item_in_lem values s at b (some p) n e = ap some (pair_in values s (at + 1) b p n (item-some (item_of values) s at p n b e))

-- what reading finds, by the reader's answer
pub entry_in_lem : (values : Bool) (s : List ℕ) (at : ℕ) → Bytes s → (r x : Result (rust.Option (rust.Option Entry × Cursor)) Refusal) → as_entry r ≡ mapped (item_at at) (read_at (item (item_of values)) s at) → r ≡ x
    → read_at (item (item_of values)) s at ≡ after (as_entry x) (λ o n. whole (item_in s o) n)
unfolding mapped
entry_in_lem values s at b r x e q =
    sym (rw (← q, e) (mapped-back (read_at (item (item_of values)) s at) (item_at at) (λ o n. item_in s o) (λ o n f. item_in_lem values s at b o n f)))

-- the end of a full list goes by the byte there
pub end-by : (s : List ℕ) (at : ℕ) (r : Read ℕ) → r ≡ read_at byte s at → after {B = ℕ} (read_at more_byte s at) (λ b j. cond (eqb b 0) (whole 128 j) (refused 6))
    ≡ after r (λ b j. cond (leb b 1) (cond (eqb b 0) (whole 128 j) (refused 6)) (refused 8))
end-by s at r e = rw e (simp (at_more, after-after, at_cond))

-- n entries are read, up to `here`
pub record Passed (values : Bool) (s : List ℕ) (at n here : ℕ) : Type 0 where
  pub rest : mapped (λ xs k. length xs) (read_at (listing values) s at) ≡ after (read_at (listed (128 - n) (item_of values)) s here) (λ xs j. whole (n + length xs) j)
  pub few : n ≤ 128

unfoldable pub behind_item : Bool → List ℕ → ℕ → Option (Span × Span) → ℕ → Read ℕ
behind_item values s n none j = whole n j
behind_item values s n (some p) j = after (read_at (listed (128 - suc n) (item_of values)) s j) (λ xs k. whole (n + suc (length xs)) k)

module _ (values : Bool) (s : List ℕ) (at : ℕ) where
  pub passed_none : Passed values s at 0 at
  unfolding mapped listing
  passed_none = record { rest = after_same (read_at (listed 128 (item_of values)) s at) (λ xs j. rw zero-add); few = omega arith }

  module _ (n here : ℕ) (g : Passed values s at n here) (l : n < 128) where
    -- the next item decides
    pub next-by : (r : Read (Option (Span × Span))) → r ≡ mapped (item_at here) (read_at (item (item_of values)) s here)
        → mapped (λ xs k. length xs) (read_at (listing values) s at) ≡ after r (λ o j. behind_item values s n o j)
    unfolding mapped behind_item on_item item_at
    next-by r e =
        let d : 128 - n ≡ suc (128 - suc n) = omega arith in
        g.rest ∙ rw (d, e, at_listed, after-after, after-after) (after_same (read_at (item (item_of values)) s here) same)
      where
        same : (o : Option (List ℕ × List ℕ)) (j : ℕ)
            → after (on_item (listed (128 - suc n) (item_of values)) s o j) (λ xs k. whole (n + length xs) k) ≡ behind_item values s n (item_at here o j) j
        same none j = rw add-zero
        same (some p) j = after-after (read_at (listed (128 - suc n) (item_of values)) s j) _ _

    pub passed-end : (o : rust.Option Entry) (j : ℕ) → is_some o ≡ false → whole (spans_of o) j ≡ mapped (item_at here) (read_at (item (item_of values)) s here)
        → whole n j ≡ mapped (λ xs k. length xs) (read_at (listing values) s at)
    unfolding behind_item
    passed-end None j h e = sym (next-by (whole none j) e)
    passed-end (Some x) j h e = never (cc)

    pub passed-more : (o : rust.Option Entry) (j : ℕ) → is_some o ≡ true → whole (spans_of o) j ≡ mapped (item_at here) (read_at (item (item_of values)) s here)
        → Passed values s at (n + 1) j
    unfolding behind_item
    passed-more None j h e = never (cc)
    passed-more (Some x) j h e =
        rw add-one (record { rest = next-by (whole (some (x.key, x.value)) j) e ∙ after_same (read_at (listed (128 - suc n) (item_of values)) s j) (λ xs k. rw (add-suc, suc-add)); few = omega arith })

  pub passed-all : (n here : ℕ) → n ≡ 128 → Passed values s at n here
      → after (read_at more_byte s here) (λ b j. cond (eqb b 0) (whole 128 j) (refused 6)) ≡ mapped (λ xs k. length xs) (read_at (listing values) s at)
  passed-all n here e g = sym (g.rest ∙ rw e (simp (at-full, after-after, at_cond)))
