-- Writing lines: each answer of the functions that write one, and that lines written one after another are the file. Assumes nothing.
use mathlib.Core.Path.{◌≡◌, refl, sym, ◌∙◌}
use mathlib.Core.List.{List, []}
use mathlib.Core.Bool.{Bool, true, false, cond, not}
use mathlib.Core.Logic.{⊎_elim}
use Prim.Native.Nat.{ℕ, suc, ◌+◌, ◌-◌, ◌*◌, ◌≤◌, ◌<◌, ◌^◌, min}
use native.Mathlib.Omega.{arith}
use lib.ListN.{length, take, drop, length-append, length-take}
use lib.Seq.{sets-eq, take_at}
use lib.Dec.{eqb}
use borrow.Author.Tests.{lt-ltb, le-ltb}
use Rattle.wire.specs.Codec.{Codec, Valid, Bytes, byte, raw, guard, seq, as_type, all}
use Rattle.wire.specs.Number.{v_long}
use Rattle.wire.specs.Field.{big_endian, limited}
use Rattle.wire.specs.Write.{Wrote, put_at, laid}
use Rattle.wire.proofs.Laws.{type_valid, seq-valid, raw-good, bytes-part}
use Rattle.wire.proofs.FieldLaws.{big_length, big_good, big_small, limited_length, limited-valid}
use Rattle.wire.proofs.WriteLaws.{wrote-seq, wrote-guard, wrote_type, put-wrote}
use Rattle.message.specs.Arguments.{key_limit, value_limit}
use Rattle.message.proofs.Most.{Most}
use Rattle.map.specs.State.{Entry, State, fresh}
use Rattle.map.specs.Deadline.{expired}
use Rattle.hexadecimal.specs.Hex.{line}
use Rattle.hexadecimal.proofs.HexLaws.{line_length}
use Rattle.hexadecimal.proofs.InPlace.{line-over}
use Rattle.wire.specs.Write.{part}
use Rattle.table.specs.Bytes.{be8}
use Rattle.table.specs.Memory.{last_index, number_at, size, number_of, row_at, entry, entry_of, entries_of, history_of, state_of}
use Rattle.table.specs.Found.{entry_at}
use Rattle.table.proofs.Lists.{lt-or_ge}
use Rattle.table.proofs.RowLaws.{entry-is}
use Rattle.table.proofs.Answers.{held-row, no_row}
use Rattle.stored.specs.File.{FileForm, form1, to_entry, from_entry, entry_line, head_line, line_of}
use Rattle.stored.specs.StoreLoad.{line_at}
use Rattle.stored.proofs.LineLaws.{fields, entry-good, entry-most, head_most, head_good}

-- a line written at its place: the bytes, and then their digits
pub line-put : (s old : List ℕ) (at : ℕ) {mid new : List ℕ} {r₁ r : ℕ} → Bytes s → at + (2 * length s + 1) ≤ length old → (r₁, mid) ≡ put_at (raw (length s)) s at old
    → (r, new) ≡ laid (line (part mid at (length s))) at mid → (r, new) ≡ laid (line s) at old
unfolding raw
line-put s old at b h e f = let w = put-wrote (raw (length s)) s at old (raw-good s b) (omega arith) _ _ e in f ∙ line-over s old at w.list refl h

-- what memory holds in a row has a written form
row-good : (f : FileForm) (t : List ℕ) (a : ℕ) → Bytes t → Valid (entry_line f) (entry_of t a)
unfolding entry_of entry
row-good f t a b =
    entry-good f (entry_of t a) (big_small 8 t a b) (big_small 8 t (a + 8) b) (simp length-take (omega arith)) (bytes-part t (a + 32) (min (be8 t (a + 16)) key_limit) b)
    (simp length-take (omega arith)) (bytes-part t (a + 96) (min (be8 t (a + 24)) value_limit) b)

blank-good : (f : FileForm) → Valid (entry_line f) (entry [] [] 0 0)
unfolding entry
blank-good f = entry-good f (entry [] [] 0 0) (omega arith) (omega arith) (omega arith) (λ i. omega arith) (omega arith) (λ i. omega arith)

pub held-good : (f : FileForm) (t : List ℕ) (i : ℕ) → Bytes t → Valid (entry_line f) (entry_at t i)
held-good f t i b =
    ⊎_elim
    (λ l. let h = held-row t i l in rw (entry-is t h.0 i h.1) (row-good f t (row_at t i) b))
    (λ l. rw (no_row t i l) (blank-good f))
    (lt-or_ge i (length (state_of t).entries))

-- the fields of a line, written one after another
pub head_wrote : (n : ℕ) {o₁ o₂ o₃ : List ℕ} {r₁ r₂ : ℕ} → n < 256 ^ 8 → length o₁ ≡ 339 → (r₁, o₂) ≡ put_at byte 0x01 0 o₁ → (r₂, o₃) ≡ put_at (big_endian 8) n r₁ o₂
    → Wrote (head_line form1) n o₁ o₃ 0 r₂
unfolding head_line byte
head_wrote n h l e f =
    let x = put-wrote byte 0x01 0 _ refl (omega arith) _ _ e in
    let y = put-wrote (big_endian 8) n _ _ (big_good 8 n h) (omega (arith, big_length 8 n, x.next, x.long)) _ _ f in
    wrote_type all (λ p. p.1) (λ n. (0x01, n)) (seq (guard (λ b. eqb b 0x01) 17 byte) (λ _. big_endian 8))
    (wrote-seq (guard (λ b. eqb b 0x01) 17 byte) (λ _. big_endian 8) (wrote-guard (λ b. eqb b 0x01) 17 byte x) y)

module _ (e : Entry) (v : Valid (entry_line form1) e) where
  pub parts : Valid (big_endian 8) e.version × (Valid (big_endian 8) e.deadline × (Valid (limited key_limit) e.key × Valid (limited value_limit) e.value))
  unfolding entry_line
  parts =
      let a = seq-valid (big_endian 8) _ (from_entry e) (type_valid all to_entry from_entry fields e v).1 in
      let b = seq-valid (big_endian 8) _ (from_entry e).1 a.1 in
      let c = seq-valid (limited key_limit) _ (from_entry e).1.1 b.1 in
      (a.0, (b.0, (c.0, c.1)))

  entry-size : length ((entry_line form1).enc e) ≡ 16 + length ((limited key_limit).enc e.key) + length ((limited value_limit).enc e.value)
  unfolding entry_line as_type seq
  entry-size = simp (length-append, big_length) (omega arith)

  entry_length : length (line ((entry_line form1).enc e))
      ≡ 2 * (16 + length (v_long.enc (length e.key)) + length e.key + length (v_long.enc (length e.value)) + length e.value) + 1
  entry_length =
      let k = (limited-valid key_limit e.key parts.1.1.0).0 in
      let w = (limited-valid value_limit e.value parts.1.1.1).0 in
      omega (arith, line_length ((entry_line form1).enc e), entry-size, limited_length key_limit e.key (omega arith), limited_length value_limit e.value (omega arith))

  entry-short : length (line ((entry_line form1).enc e)) ≤ 679
  entry-short = omega (arith, line_length ((entry_line form1).enc e), (entry-most form1).most e v)

  pub entry-wrote : {n d : ℕ} {k w o₁ o₂ o₃ o₄ o₅ : List ℕ} {r₁ r₂ r₃ r₄ : ℕ} → length o₁ ≡ 339
      → n ≡ e.version → (r₁, o₂) ≡ put_at (big_endian 8) n 0 o₁ → d ≡ e.deadline → (r₂, o₃) ≡ put_at (big_endian 8) d r₁ o₂
      → k ≡ e.key → (r₃, o₄) ≡ put_at (limited key_limit) k r₂ o₃ → w ≡ e.value → (r₄, o₅) ≡ put_at (limited value_limit) w r₃ o₄
      → Wrote (entry_line form1) e o₁ o₅ 0 r₄
  unfolding entry_line
  entry-wrote {r₂ = at} l q₁ e₁ q₂ e₂ q₃ e₃ q₄ e₄ =
      let p = parts in
      let m : 16 + length ((limited key_limit).enc e.key) + length ((limited value_limit).enc e.value) ≤ 339 = omega (arith, entry-size, (entry-most form1).most e v) in
      let a = put-wrote (big_endian 8) e.version _ _ p.0 (omega (arith, big_length 8 e.version)) _ _ (rw q₁ at e₁) in
      let b = put-wrote (big_endian 8) e.deadline _ _ p.1.0 (omega (arith, big_length 8 e.version, big_length 8 e.deadline, a.next, a.long)) _ _ (rw q₂ at e₂) in
      let r : at ≡ 16 = omega (arith, big_length 8 e.version, big_length 8 e.deadline, a.next, b.next) in
      let c = put-wrote (limited key_limit) e.key _ _ p.1.1.0 (omega (arith, a.long, b.long)) _ _ (rw q₃ at e₃) in
      let d = put-wrote (limited value_limit) e.value _ _ p.1.1.1 (omega (arith, a.long, b.long, c.long, c.next)) _ _ (rw q₄ at e₄) in
      wrote_type all to_entry from_entry fields {b = e} (wrote-seq (big_endian 8) _ a (wrote-seq (big_endian 8) _ b (wrote-seq (limited key_limit) _ c d)))

-- how long the line of a row is, by its key and its value and the lengths of their numbers
pub held-length : (t : List ℕ) (i : ℕ) → Bytes t → {k v : List ℕ} {a b : ℕ} → k ≡ (entry_at t i).key → v ≡ (entry_at t i).value
    → a ≡ length (v_long.enc (length k)) → b ≡ length (v_long.enc (length v))
    → (2 * (16 + a + length k + b + length v) + 1 ≡ length (line ((entry_line form1).enc (entry_at t i)))) × (2 * (16 + a + length k + b + length v) + 1 ≤ 679)
held-length t i h p q x y =
    let e = entry_at t i in
    let g = held-good form1 t i h in
    rw (x, y, p, q) (sym (entry_length e g), omega (arith, entry_length e g, entry-short e g))

-- the bytes that were written to the front, as a part
wrote-front : {A : Type 0} (c : Codec A) (m : ℕ) → Most c m → {a : A} {old new : List ℕ} {r : ℕ} → Valid c a → m ≤ length old → Wrote c a old new 0 r
    → (take (r - 0) (drop 0 new) ≡ c.enc a) × (r ≤ m)
wrote-front c m k {a = a} {old = old} {new = new} {r = r} v h w =
    let l = k.most a v in
    let z : r - 0 ≡ 0 + length (c.enc a) = omega (arith, w.next) in
    (rw (z, w.list, sets-eq (c.enc a) old 0 (omega arith)) (take_at (c.enc a) (drop (0 + length (c.enc a)) old) (0 + length (c.enc a)) (omega arith)), omega (arith, w.next))

-- the lines of a file
pub line_head : (f : FileForm) (st : State) → line_at f st 0 ≡ line ((head_line f).enc st.last)
unfolding line_at
line_head f st = refl

pub line-entry : (f : FileForm) (t : List ℕ) (k : ℕ) → k < length (state_of t).entries → line_at f (state_of t) (suc k) ≡ line_of f (state_of t).history.latest (entry_at t k)
unfolding line_at entry_at
line-entry f t k h = rw (lt-ltb k (length (state_of t).entries) h)

pub line-none : (f : FileForm) (st : State) (k : ℕ) → length st.entries ≤ k → line_at f st (suc k) ≡ []
unfolding line_at
line-none f st k h = rw (le-ltb k (length st.entries) h)

-- the line of an entry that stands, and of one that does not
pub line-stands : (f : FileForm) (now : ℕ) (e : Entry) → expired now e ≡ false → line_of f now e ≡ line ((entry_line f).enc e)
unfolding line_of
line-stands f now e h = rw h

pub line-gone : (f : FileForm) (now : ℕ) (e : Entry) → expired now e ≡ true → line_of f now e ≡ []
unfolding line_of
line-gone f now e h = rw h

pub line-where : (f : FileForm) (t : List ℕ) (k : ℕ) {now : ℕ} {b : Bool} → k < length (state_of t).entries → now ≡ (state_of t).history.latest
    → b ≡ not (expired now (entry_at t k)) → line_at f (state_of t) (suc k) ≡ cond b (line ((entry_line f).enc (entry_at t k))) []
unfolding line_of
line-where f t k l n h =
    line-entry f t k l ∙ rw (h, n) (go (expired (state_of t).history.latest (entry_at t k)))
  where
    go : (x : Bool) → cond x [] (line ((entry_line f).enc (entry_at t k))) ≡ cond (not x) (line ((entry_line f).enc (entry_at t k))) []
    go true = refl
    go false = refl

-- a row's last version fits its eight bytes
last-small : (t : List ℕ) → Bytes t → (state_of t).last < 256 ^ 8
unfolding state_of number_of
last-small t b = go (eqb (length t) size) refl
  where
    go : (x : Bool) → eqb (length t) size ≡ x → (cond x (record { entries = entries_of t; last = number_of t last_index; history = history_of t }) fresh).last < 256 ^ 8
    go true e = big_small 8 t (number_at last_index) b
    go false e = omega arith

-- the first bytes of the room, where a line's are written
pub head-front : (t : List ℕ) {old new : List ℕ} {r : ℕ} → Bytes t → 339 ≤ length old → Wrote (head_line form1) (state_of t).last old new 0 r
    → (take (r - 0) (drop 0 new) ≡ (head_line form1).enc (state_of t).last) × (r ≤ 9)
head-front t b h w = wrote-front (head_line form1) 9 (head_most form1) (head_good form1 _ (last-small t b)) (omega arith) w

pub entry-front : (t : List ℕ) (i : ℕ) {old new : List ℕ} {r : ℕ} → Bytes t → 339 ≤ length old → Wrote (entry_line form1) (entry_at t i) old new 0 r
    → (take (r - 0) (drop 0 new) ≡ (entry_line form1).enc (entry_at t i)) × (r ≤ 339)
entry-front t i b h w = wrote-front (entry_line form1) 339 (entry-most form1) (held-good form1 t i b) h w
