-- The lines of a stored file: their formats keep the laws, a line read is the line written, and lines can be told apart. Assumes nothing.
use mathlib.Core.Path.{◌≡◌, refl, sym, ap, ◌∙◌}
use mathlib.Core.List.{List, [], ◌∷◌, ◌++◌, append_assoc}
use mathlib.Core.Bool.{Bool, true, false}
use mathlib.Core.Option.{some}
use Prim.Native.Nat.{ℕ, suc, ◌+◌, ◌/◌, ◌%◌, ◌≤◌, ◌<◌, ◌^◌}
use native.Mathlib.Omega.{arith}
use native.Mathlib.Decide.{dec_lt}
use lib.ListN.{length, take, drop}
use lib.Seq.{take_at, take-append_seam, drop-append-add}
use lib.Dec.{eqb}
use borrow.Author.Tests.{eqb-true, ne_eqb}
use Rattle.hexadecimal.specs.Scan.{index_of, index_after}
use Rattle.wire.specs.Codec.{Codec, Valid, Bytes, byte, guard, seq, all}
use Rattle.wire.specs.Field.{big_endian, limited}
use Rattle.wire.proofs.Laws.{Laws, seq_laws, guard_laws, type_laws, byte_laws, guard-valid, seq-valid, type_good, seq-good, guard_good, bytes_are}
use Rattle.wire.proofs.FieldLaws.{big_laws, big_good, limited_laws, limited-good}
use Rattle.message.specs.Arguments.{key_limit, value_limit}
use Rattle.message.proofs.Most.{Most, type_most, seq-most, guard-most, byte-most, big_most, limited-most}
use Rattle.map.specs.State.{Entry, State}
use Rattle.map.specs.Table.{Each, IsTable}
use Rattle.map.proofs.Each.{each_both}
use Rattle.hexadecimal.specs.Hex.{digit_of, to_hex, line}
use Rattle.hexadecimal.specs.Number.{from_digits}
use Rattle.hexadecimal.proofs.Values.{digits_back}
use Rattle.hexadecimal.proofs.Digits.{of-decimal, of-letter}
use Rattle.stored.specs.File.{FileForm, form1, form_byte, Fields, to_entry, from_entry, entry_line, head_line}
use Rattle.stored.specs.StoreLoad.{NoEnd}

-- the formats
abbrev pub fields : Codec Fields
fields = seq (big_endian 8) λ _. seq (big_endian 8) λ _. seq (limited key_limit) λ _. limited value_limit

fields_laws : Laws fields
fields_laws = seq_laws _ _ (big_laws 8) (λ _. seq_laws _ _ (big_laws 8) (λ _. seq_laws _ _ (limited_laws key_limit) (λ _. limited_laws value_limit)))

pub entry_laws : (f : FileForm) → Laws (entry_line f)
unfolding entry_line
entry_laws form1 = type_laws all to_entry from_entry fields fields_laws (λ e v. refl) (λ p v. (refl, refl))

-- an entry's line is made of at most 339 bytes
pub entry-most : (f : FileForm) → Most (entry_line f) 339
unfolding entry_line
entry-most form1 =
    type_most all to_entry from_entry
    (seq-most (big_most 8) (λ _ _. seq-most (big_most 8) (λ _ _. seq-most (limited-most key_limit 0 (omega arith)) (λ _ _. limited-most value_limit 1 (omega arith)))))

pub entry-good : (f : FileForm) (e : Entry) → e.version < 256 ^ 8 → e.deadline < 256 ^ 8 → length e.key ≤ key_limit → Bytes e.key → length e.value ≤ value_limit
    → Bytes e.value → Valid (entry_line f) e
unfolding entry_line
entry-good form1 e hn hd hk bk hv bv =
    type_good all to_entry from_entry fields {b = e} refl
    (seq-good (big_endian 8) _ (big_good 8 e.version hn)
    (seq-good (big_endian 8) _ (big_good 8 e.deadline hd)
    (seq-good (limited key_limit) _ (limited-good key_limit e.key (omega arith) hk bk) (limited-good value_limit e.value (omega arith) hv bv))))

-- each entry of a table has a written form
pub table-good : (f : FileForm) (st : State) → IsTable st → Each (λ e. Valid (entry_line f) e) st.entries
table-good f st t =
    each_both _ _ _
    (λ e h i. entry-good f e (omega (arith, i.1, t.last)) (omega (arith, h.deadline)) h.key (bytes_are _ h.key_bytes) h.value (bytes_are _ h.value_bytes))
    st.entries t.sizes t.issued

pub head_laws : (f : FileForm) → Laws (head_line f)
unfolding head_line
head_laws f =
    type_laws all (λ p. p.1) (λ n. (form_byte f, n)) (seq (guard (λ b. eqb b (form_byte f)) 17 byte) (λ _. big_endian 8))
    (seq_laws _ _ (guard_laws _ 17 byte byte_laws) (λ _. big_laws 8))
    (λ n e. refl)
    (λ p v.
    let w = seq-valid (guard (λ b. eqb b (form_byte f)) 17 byte) (λ _. big_endian 8) p v in
    (ap {B = ℕ × ℕ} (λ (b : ℕ). (b, p.1)) (sym (eqb-true p.0 (form_byte f) (guard-valid (λ b. eqb b (form_byte f)) 17 byte p.0 w.0).0)), refl))

pub head_most : (f : FileForm) → Most (head_line f) 9
unfolding head_line
head_most f = type_most _ _ _ (seq-most (guard-most _ _ byte-most) (λ _ _. big_most 8))

pub head_good : (f : FileForm) (n : ℕ) → n < 256 ^ 8 → Valid (head_line f) n
unfolding head_line byte
head_good form1 n h =
    type_good all (λ p. p.1) (λ n. (0x01, n)) (seq (guard (λ b. eqb b 0x01) 17 byte) (λ _. big_endian 8)) {b = n} refl
    (seq-good (guard (λ b. eqb b 0x01) 17 byte) (λ _. big_endian 8) (guard_good (λ b. eqb b 0x01) 17 byte {a = 0x01} refl refl) (big_good 8 n h))

-- digits are no line end
digit_no_end : (n : ℕ) → digit_of n ≡ 0x0a → ⊥
digit_no_end n e = go (dec_lt n 10)
  where
    go : Dec (n < 10) → ⊥
    go (yes h) = omega (arith, of-decimal n h)
    go (no h) = omega (arith, of-letter n (omega arith))

pub no_end : (bs : List ℕ) → NoEnd (to_hex bs)
unfolding index_of index_after to_hex
no_end [] = refl
no_end (b ∷ bs) =
    rw (ne_eqb (digit_of (b / 16)) 0x0a (digit_no_end (b / 16)), ne_eqb (digit_of (b % 16)) 0x0a (digit_no_end (b % 16)), no_end bs)

-- the first line end stands behind bytes that have none
pub first-end : (l y : List ℕ) → NoEnd l → index_of 0x0a (l ++ (0x0a ∷ y)) ≡ length l
unfolding index_of index_after
first-end [] y h = refl
first-end (x ∷ l) y h = go (eqb x 0x0a) h (first-end l y)
  where
    go : (b : Bool) → index_after b (index_of 0x0a l) ≡ suc (length l) → (NoEnd l → index_of 0x0a (l ++ (0x0a ∷ y)) ≡ length l)
        → index_after b (index_of 0x0a (l ++ (0x0a ∷ y))) ≡ suc (length l)
    go true e f = absurd (omega arith)
    go false e f = ap suc (f (omega arith))

pub ends-split : (a b x y : List ℕ) → NoEnd a → NoEnd b → a ++ (0x0a ∷ x) ≡ b ++ (0x0a ∷ y) → (a ≡ b) × (x ≡ y)
ends-split a b x y ha hb e =
    let n : length a ≡ length b = sym (first-end a x ha) ∙ ap (index_of 0x0a) e ∙ first-end b y hb in (
      sym (take-append_seam a (0x0a ∷ x)) ∙ ap (take (length a)) e ∙ take_at b (0x0a ∷ y) (length a) (sym n),
      sym (drop-append-add a (0x0a ∷ x) 1) ∙ ap (drop (length a + 1)) e ∙ ap (λ (m : ℕ). drop (m + 1) (b ++ (0x0a ∷ y))) n ∙ drop-append-add b (0x0a ∷ y) 1,
    )

-- a line with its end, and what is behind it
pub line_cons : (bs y : List ℕ) → line bs ++ y ≡ to_hex bs ++ (0x0a ∷ y)
unfolding line
line_cons bs y = append_assoc (to_hex bs) (0x0a ∷ []) y

-- two lines that begin the same list say the same
pub same_line : {A : Type 0} (c : Codec A) → Laws c → (a b : A) (x y : List ℕ) → Valid c a → Valid c b → line (c.enc a) ++ x ≡ line (c.enc b) ++ y
    → (a ≡ b) × (x ≡ y)
same_line c l a b x y v w e =
    let p = ends-split (to_hex (c.enc a)) (to_hex (c.enc b)) x y (no_end (c.enc a)) (no_end (c.enc b)) (sym (line_cons (c.enc a) x) ∙ e ∙ line_cons (c.enc b) y) in
    let q : some a ≡ some b = sym (digits_back c l a v) ∙ ap (from_digits c) p.0 ∙ digits_back c l b w in
    (cc, p.1)
