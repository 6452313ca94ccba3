-- The first lines of a file, one after another: how long they are, what writing the next one leaves, and that all of them are the file.
-- Assumes nothing.
use mathlib.Core.Path.{◌≡◌, refl, sym, ap, ◌∙◌}
use mathlib.Core.List.{List, [], ◌∷◌, ◌++◌, append_assoc, append-nil}
use mathlib.Core.Bool.{Bool, true, false, cond}
use Prim.Native.Nat.{ℕ, zero, suc, ◌+◌, ◌≤◌, ◌<◌}
use native.Mathlib.Omega.{arith}
use native.Mathlib.Nat.{zero-add}
use native.Mathlib.Numerals.{add-one}
use lib.ListN.{length, get_or, take, drop, length-append, take-append-drop}
use lib.Seq.{sets, sets-eq, length-sets, take-suc, take-length}
use lib.Dec.{eqb}
use borrow.Author.Tests.{eqb-true, eqb-false, le-leb, lt-ltb}
use Rattle.wire.specs.Codec.{byte, guard, seq, as_type}
use Rattle.wire.specs.Write.{written, laid}
use Rattle.wire.proofs.FieldLaws.{big_length}
use Rattle.wire.proofs.WriteLaws.{laid_done, sets_append}
use Rattle.map.specs.History.{no_history}
use Rattle.map.specs.State.{Entry, State, with_entries, without}
use Rattle.map.specs.Deadline.{expired, standing}
use Rattle.map.specs.Expiry.{Stands}
use Rattle.map.specs.Table.{Each}
use Rattle.map.proofs.Standing.{standing-all}
use Rattle.map.specs.Step.{most_keys}
use Rattle.table.specs.Memory.{size, entry, state_of, Sound}
use Rattle.table.specs.Found.{entry_at}
use Rattle.table.proofs.RowLaws.{length_entries, count_most}
use Rattle.table.proofs.Answers.{other_entries}
use Rattle.hexadecimal.specs.Hex.{line}
use Rattle.hexadecimal.proofs.HexLaws.{line_length}
use Rattle.stored.specs.File.{FileForm, entry_line, head_line, entry_lines, line_of, lines_of, file}
use Rattle.stored.specs.StoreLoad.{line_at, Storing}
use Rattle.stored.proofs.StoreLaws.{line-entry}

pub lines_append : (f : FileForm) (a b : List Entry) → entry_lines f (a ++ b) ≡ entry_lines f a ++ entry_lines f b
unfolding entry_lines
lines_append f [] b = refl
lines_append f (e ∷ a) b = rw (lines_append f a b, append_assoc)

-- the entries of two lists that stand, and the line of one entry
standing-both : (now : ℕ) (a b : List Entry) → standing now (a ++ b) ≡ standing now a ++ standing now b
unfolding without
standing-both now [] b = refl
standing-both now (e ∷ a) b = go (expired now e) (standing-both now a b)
  where
    go : (x : Bool) → standing now (a ++ b) ≡ standing now a ++ standing now b
        → cond x (standing now (a ++ b)) (e ∷ standing now (a ++ b)) ≡ cond x (standing now a) (e ∷ standing now a) ++ standing now b
    go true h = h
    go false h = ap (λ (es : List Entry). e ∷ es) h

one_line : (f : FileForm) (now : ℕ) (e : Entry) → entry_lines f (standing now (e ∷ [])) ≡ line_of f now e
unfolding entry_lines without line_of
one_line f now e = go (expired now e)
  where
    go : (x : Bool) → entry_lines f (cond x [] (e ∷ [])) ≡ cond x [] (line ((entry_line f).enc e))
    go true = refl
    go false = append-nil (line ((entry_line f).enc e))

-- of a table with no history every entry stands: its file has all lines
first_stand : (es : List Entry) → Each (Stands 0) es
first_stand [] = tt
first_stand (e ∷ es) = (λ l. l, first_stand es)

pub file-afresh : (f : FileForm) (st : State) → st.history ≡ no_history → file f st ≡ lines_of f st
unfolding file
file-afresh f st h =
    let e : standing st.history.latest st.entries ≡ st.entries = rw h (standing-all 0 st.entries (first_stand st.entries)) in
    ap (λ (es : List Entry). lines_of f (with_entries es st)) e

head_length : (f : FileForm) (n : ℕ) → length ((head_line f).enc n) ≡ 9
unfolding head_line as_type seq guard byte
head_length f n = omega (arith, big_length 8 n)

-- any memory holds at most 128 rows
pub few : (t : List ℕ) → length (state_of t).entries ≤ most_keys
few t = go (eqb (length t) size) refl
  where
    go : (b : Bool) → eqb (length t) size ≡ b → length (state_of t).entries ≤ most_keys
    go true e = omega (arith, length_entries t (eqb-true _ _ e), count_most t)
    go false e = omega (arith, other_entries t (eqb-false _ _ e))

module _ (f : FileForm) (t : List ℕ) where
  abbrev es : List Entry
  es = (state_of t).entries

  abbrev now : ℕ
  now = (state_of t).history.latest

  abbrev top : List ℕ
  top = line ((head_line f).enc (state_of t).last)

  -- the first lines of the file
  unfoldable pub front : ℕ → List ℕ
  front zero = []
  front (suc k) = top ++ entry_lines f (standing now (take k es))

  pub front_head : length (front 1) ≡ 19
  unfolding front entry_lines without
  front_head = omega (arith, length-append top [], line_length ((head_line f).enc (state_of t).last), head_length f (state_of t).last)

  front-next : (i : ℕ) → i ≤ length es → front (i + 1) ≡ front i ++ line_at f (state_of t) i
  unfolding front line_at entry_lines without
  front-next zero h = append-nil top
  front-next (suc k) h =
      rw (lt-ltb k (length es) h, add-one, take-suc es k (entry [] [] 0 0), standing-both, lines_append, append_assoc)
      (ap (λ (xs : List ℕ). top ++ (entry_lines f (standing now (take k es)) ++ xs)) (one_line f now (get_or es k (entry [] [] 0 0))))

  pub front-entry : (k : ℕ) → k < length es → front (k + 1 + 1) ≡ front (k + 1) ++ line_of f now (entry_at t k)
  front-entry k h = rw (add-one k, ← line-entry f t k h) (front-next (suc k) h)

  pub front-all : (n : ℕ) → n ≡ length es + 1 → front n ≡ file f (state_of t)
  unfolding front file lines_of
  front-all n e = rw (e, add-one, take-length)

  front-within : (i : ℕ) → length (front i) ≤ length (file f (state_of t))
  unfolding front file lines_of
  front-within zero = omega arith
  front-within (suc k) =
      let a = standing now (take k es) in
      let b = standing now (drop k es) in
      let e : entry_lines f (standing now es) ≡ entry_lines f a ++ entry_lines f b =
      ap (λ (xs : List Entry). entry_lines f (standing now xs)) (sym (take-append-drop k es)) ∙ ap (entry_lines f) (standing-both now (take k es) (drop k es)) ∙ lines_append f a b in
      omega
      (arith, ap length e, length-append (entry_lines f a) (entry_lines f b), length-append top (entry_lines f a), length-append top (entry_lines f (standing now es)))

  -- the first i lines stand at the front of what was old
  pub record Lines (old : List ℕ) (i at : ℕ) (o : List ℕ) : Type 0 where
    pub place : at ≡ 0 + length (front i)
    pub list : o ≡ sets old 0 (front i)
    pub long : length o ≡ length old

  pub lines-begin : (old : List ℕ) → Lines old 0 0 old
  unfolding front
  lines-begin old = record { place = refl; list = refl; long = refl }

  pub lines-on : (i at r : ℕ) (old o o' : List ℕ) → length (file f (state_of t)) ≤ length old → i ≤ length es → Lines old i at o
      → (r, o') ≡ laid (line_at f (state_of t) i) at o → Lines old (i + 1) r o'
  lines-on i at r old o o' h l g e =
      let x : List ℕ = line_at f (state_of t) i in
      let n : length (front (i + 1)) ≡ length (front i) + length x = ap length (front-next i l) ∙ length-append (front i) x in
      let d : ◌≡◌ {A = ℕ × List ℕ} (r, o') (at + length x, sets o at x) = e ∙ sym (laid_done x at o (omega (arith, g.place, g.long, front-within (i + 1)))) in
      record {
        place = ap (λ (q : ℕ × List ℕ). q.0) d ∙ omega (arith, g.place);
        list = ap (λ (q : ℕ × List ℕ). q.1) d ∙ rw (g.list, g.place) (sym (sets_append old 0 (front i) x)) ∙ ap (sets old 0) (sym (front-next i l));
        long = ap (λ (q : ℕ × List ℕ). length q.1) d ∙ length-sets o at x ∙ g.long;
      }

  pub storing-done : (old new : List ℕ) (r : ℕ) → Sound t → length (file f (state_of t)) ≤ length old → r ≡ length (file f (state_of t)) → new ≡ sets old 0 (file f (state_of t))
      → Storing f t old (written r) new
  storing-done old new r s h p q =
      let e : new ≡ file f (state_of t) ++ drop (length (file f (state_of t))) old = q ∙ sets-eq (file f (state_of t)) old 0 (omega arith) ∙ rw zero-add in
      record { sound = λ _. rw (le-leb (length (file f (state_of t))) (length old) h, p, e); unsound = λ n. absurd (n s) }
