-- A file stores at most one table, a file that begins another is of its first entries, and the file of a sound table stores it. Assumes nothing.
use mathlib.Core.Path.{◌≡◌, refl, sym, ap, ◌∙◌}
use mathlib.Core.List.{List, [], ◌∷◌, ◌++◌, append_assoc, append-nil}
use Prim.Native.Nat.{ℕ}
use native.Mathlib.Omega.{arith}
use lib.ListN.{length, length-append}
use Rattle.wire.specs.Codec.{Valid}
use Rattle.map.specs.History.{History, no_history}
use Rattle.map.specs.State.{Entry, State}
use Rattle.map.specs.Deadline.{expired}
use Rattle.map.specs.Table.{Each, IsTable}
use Rattle.map.proofs.Each.{pairs-without, table-without, table-history}
use Rattle.table.specs.Memory.{state_of, Sound}
use Rattle.map.proofs.CountLaws.{fresh-counts}
use Rattle.hexadecimal.specs.Hex.{line}
use Rattle.stored.specs.File.{FileForm, entry_line, head_line, entry_lines, lines_of, file, afresh, Stores}
use Rattle.stored.proofs.LineLaws.{entry_laws, table-good, head_laws, head_good, same_line}
use Rattle.stored.proofs.FileLaws.{file-afresh}
use Rattle.hexadecimal.proofs.HexLaws.{line_length}

module _ (f : FileForm) where
  some-line : (e : Entry) (x : List ℕ) → line ((entry_line f).enc e) ++ x ≡ [] → ⊥
  some-line e x p = omega (arith, ap length p, length-append (line ((entry_line f).enc e)) x, line_length ((entry_line f).enc e))

  -- entries whose lines begin the lines of others begin those others
  same-front : (es fs : List Entry) (y : List ℕ) → Each (λ e. Valid (entry_line f) e) es → Each (λ e. Valid (entry_line f) e) fs → entry_lines f es ++ y ≡ entry_lines f fs
      → (gs : List Entry) × (fs ≡ es ++ gs) × (y ≡ entry_lines f gs)
  unfolding entry_lines
  same-front [] fs y v w p = (fs, refl, p)
  same-front (a ∷ es) [] y v w p = absurd (some-line a (entry_lines f es ++ y) (rw append_assoc at p))
  same-front (a ∷ es) (b ∷ fs) y v w p =
      let q = same_line (entry_line f) (entry_laws f) a b (entry_lines f es ++ y) (entry_lines f fs) v.0 w.0 (rw append_assoc at p) in
      let r = same-front es fs y v.1 w.1 q.1 in
      (r.0, cc (q.0, r.1), r.2)

  -- a table whose lines begin the lines of another has the same last version and its first entries
  pub record Front (s t : State) (y : List ℕ) : Type 0 where
    pub entries : List Entry
    pub all : t.entries ≡ s.entries ++ entries
    pub last : t.last ≡ s.last
    pub behind : y ≡ entry_lines f entries

  pub file-front : (s t : State) (y : List ℕ) → IsTable s → IsTable t → lines_of f s ++ y ≡ lines_of f t → Front s t y
  unfolding lines_of
  file-front s t y hs ht p =
      let q = same_line (head_line f) (head_laws f) s.last t.last (entry_lines f s.entries ++ y) (entry_lines f t.entries)
      (head_good f s.last (omega (arith, hs.last))) (head_good f t.last (omega (arith, ht.last))) (rw append_assoc at p) in
      let r = same-front s.entries t.entries y (table-good f s hs) (table-good f t ht) q.1 in
      record { entries = r.0; all = r.1; last = sym q.0; behind = r.2 }

  no_lines : (es : List Entry) → [] ≡ entry_lines f es → es ≡ []
  unfolding entry_lines
  no_lines [] p = refl
  no_lines (e ∷ es) p = absurd (some-line e (entry_lines f es) (sym p))

  same-state : (s t : State) → s.entries ≡ t.entries → s.last ≡ t.last → s.history ≡ t.history → s ≡ t
  same-state s t e l h =
      ap {B = State} (λ (es : List Entry). record { entries = es; last = s.last; history = s.history }) e
      ∙ ap {B = State} (λ (m : ℕ). record { entries = t.entries; last = m; history = s.history }) l
      ∙ ap {B = State} (λ (x : History). record { entries = t.entries; last = t.last; history = x }) h

  pub one_table : (bytes : List ℕ) (s t : State) → Stores f bytes s → Stores f bytes t → s ≡ t
  one_table bytes s t x y =
      let r = file-front s t [] x.table y.table (append-nil (lines_of f s) ∙ sym (file-afresh f s x.history) ∙ sym x.same ∙ y.same ∙ file-afresh f t y.history) in
      let n : t.entries ≡ s.entries = r.all ∙ rw (no_lines r.entries r.behind, append-nil) in
      same-state s t (sym n) (sym r.last) (x.history ∙ sym y.history)

  -- what `store` writes of a sound table can be loaded, and gives the table of what stands, with no history
  pub stores-own : (t : List ℕ) → Sound t → Stores f (file f (state_of t)) (afresh (state_of t))
  unfolding file lines_of
  stores-own t s =
      let st = state_of t in
      record {
        table = table-history no_history fresh-counts (record { first = omega arith; latest = omega arith }) (table-without (expired st.history.latest) s.table);
        order = pairs-without (expired st.history.latest) _ st.entries s.layout.order;
        history = refl;
        same = sym (file-afresh f (afresh st) refl);
      }
