-- The stored form of a table (document 01, 'Files'): "a line with 01 and the last version issued; then a line an entry, ascending by version:
-- version, deadline (8 bytes each), key length, key, value length, value".
use Rattle.std.specs.Prelude.{◌≡◌, List, [], ◌∷◌, ◌++◌, cond, ℕ, eqb}
use Rattle.wire.specs.Codec.{Codec, byte, guard, seq, as_type, all}
use Rattle.wire.specs.Field.{entry_version, second, limited}
use Rattle.message.specs.Arguments.{key_limit, value_limit}
use Rattle.map.specs.History.{no_history}
use Rattle.map.specs.State.{Entry, State, with_entries, with_history}
use Rattle.map.specs.Deadline.{expired, standing}
use Rattle.map.specs.Table.{IsTable, Ascending}
use Rattle.hexadecimal.specs.Hex.{line}

-- the forms of a file; more may come
pub data FileForm : Type 0 where
  form1 : FileForm

-- the byte that the first line begins with
abbrev pub form_byte : FileForm → ℕ
form_byte form1 = 0x01

abbrev pub Fields : Type 0
Fields = ℕ × (ℕ × (List ℕ × List ℕ))

abbrev pub to_entry : Fields → Entry
to_entry p = record { key = p.1.1.0; value = p.1.1.1; version = p.0; deadline = p.1.0 }

abbrev pub from_entry : Entry → Fields
from_entry e = (e.version, (e.deadline, (e.key, e.value)))

-- the bytes of an entry's line
unfoldable pub entry_line : FileForm → Codec Entry
entry_line form1 = as_type all to_entry from_entry (seq entry_version λ _. seq second λ _. seq (limited key_limit) λ _. limited value_limit)

-- the bytes of the first line
unfoldable pub head_line : FileForm → Codec ℕ
head_line f = as_type all (λ p. p.1) (λ n. (form_byte f, n)) (seq (guard (λ b. eqb b (form_byte f)) 17 byte) (λ _. entry_version))

-- "Every line of a stored file has" a line end.
unfoldable pub entry_lines : FileForm → List Entry → List ℕ
entry_lines f [] = []
entry_lines f (e ∷ es) = line ((entry_line f).enc e) ++ entry_lines f es

-- the line of an entry, which one that has expired at a second does not have
unfoldable pub line_of : FileForm → ℕ → Entry → List ℕ
line_of f now e = cond (expired now e) [] (line ((entry_line f).enc e))

-- the first line and those of all entries
unfoldable pub lines_of : FileForm → State → List ℕ
lines_of f st = line ((head_line f).enc st.last) ++ entry_lines f st.entries

-- "A stored file holds only entries that stand at the latest second served", and the last version issued all the same.
abbrev pub lasting : State → State
lasting st = with_entries (standing st.history.latest st.entries) st

unfoldable pub file : FileForm → State → List ℕ
file f st = lines_of f (lasting st)

-- The table that the file of a table gives back: the counts and the first second are "of the history since start or the last load", and no file holds
-- them. "A loaded table starts from second 0."
abbrev pub afresh : State → State
afresh st = with_history no_history (lasting st)

-- "Reading accepts exactly what writing a table can give."
pub record Stores (f : FileForm) (bytes : List ℕ) (st : State) : Type 0 where
  pub table : IsTable st
  pub order : Ascending st.entries
  pub history : st.history ≡ no_history
  pub same : bytes ≡ file f st
