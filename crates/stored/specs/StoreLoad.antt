-- Storing and loading a table: what the functions answer, and what they leave of the memory that they were lent.
use Rattle.std.specs.Prelude.{◌≡◌, List, [], ◌∷◌, ◌++◌, Bool, true, false, cond, ℕ, zero, suc, ◌≤◌, length, take, drop, get_or, ltb, Result, Ok, Err}
use Rattle.std.proofs.Math.Option.{Option, none, some}
use Rattle.hexadecimal.specs.Scan.{index_of}
use Rattle.wire.specs.Write.{Sent, kept, sent}
use Rattle.map.specs.State.{Entry, State}
use Rattle.table.specs.Memory.{size, entry, state_of, Sound}
use Rattle.table.specs.Change.{started, restored}
use Rattle.field.specs.declared.refusals.Refusal.{Refusal}
use Rattle.field.specs.declared.refusals.Refusal.TheVariants as refusal
use Rattle.hexadecimal.specs.Hex.{line}
use Rattle.hexadecimal.specs.Number.{from_digits}
use Rattle.stored.specs.File.{FileForm, entry_line, head_line, line_of, file, Stores}
use Rattle.stored.specs.declared.Loading.{Loading}

-- line i of a stored file with its line end: the first line, then those of the entries; an entry that has expired at the latest second has none, and
-- behind the last there is none
unfoldable pub line_at : FileForm → State → ℕ → List ℕ
line_at f st zero = line ((head_line f).enc st.last)
line_at f st (suc k) = cond (ltb k (length st.entries)) (line_of f st.history.latest (get_or st.entries k (entry [] [] 0 0))) []

-- "Storing gives 13, then 12"
pub record Storing (f : FileForm) (t old : List ℕ) (r : Sent) (new : List ℕ) : Type 0 where
  pub sound : Sound t → (r, new) ≡ sent (file f (state_of t)) old
  pub unsound : (Sound t → ⊥) → ◌≡◌ {A = Sent × List ℕ} (r, new) (kept 13, old)

-- the memory that the first line starts, and the one that an entry's line leaves
abbrev pub start_with : List ℕ → Option ℕ → Option (List ℕ)
start_with t none = none
start_with t (some n) = started n t

abbrev pub restore_to : List ℕ → Option Entry → Option (List ℕ)
restore_to t none = none
restore_to t (some e) = restored e.key e.value e.version e.deadline t

unfoldable pub head_loaded : FileForm → List ℕ → List ℕ → Option (List ℕ)
head_loaded f s t = start_with t (from_digits (head_line f) s)

unfoldable pub line_loaded : FileForm → List ℕ → List ℕ → Option (List ℕ)
line_loaded f s t = restore_to t (from_digits (entry_line f) s)

-- the memory that a line leaves: the first line of a file where none is loaded yet, else an entry's line
abbrev pub loaded : FileForm → Bool → List ℕ → List ℕ → Option (List ℕ)
loaded f false l t = head_loaded f l t
loaded f true l t = line_loaded f l t

-- no line end stands in the bytes
abbrev pub NoEnd : List ℕ → Type 0
NoEnd s = index_of 0x0a s ≡ length s

-- Bytes that are whole lines, each with its line end, loaded one after the other. The flags: the first line of the file is loaded before them,
-- and after them. The lists behind the bytes: the memory before, and after.
pub data Loads (f : FileForm) : Bool → List ℕ → List ℕ → Bool → List ℕ → Type 0 where
  no_line : {b : Bool} {t : List ℕ} → Loads f b [] t b t
  a-line : {b c : Bool} {s t u v : List ℕ} (l : List ℕ) → NoEnd l → loaded f b l t ≡ some u → Loads f true s u c v → Loads f b (l ++ (0x0a ∷ s)) t c v

-- Why loading ends before these bytes. Good: no line end stands in them. Not good: their first line can't be loaded into the memory.
abbrev pub Ends : FileForm → Bool → List ℕ → List ℕ → Bool → Type 0
Ends f b s t true = NoEnd s
Ends f b s t false = (l y : List ℕ) × (s ≡ l ++ (0x0a ∷ y)) × NoEnd l × (loaded f b l t ≡ none)

-- the whole lines of a chunk are loaded, up to the first that is not good
pub record LoadsLines (f : FileForm) (begun : Bool) (chunk t : List ℕ) (r : Loading) (t' : List ℕ) : Type 0 where
  pub within : r.taken ≤ length chunk
  pub loads : Loads f begun (take r.taken chunk) t r.begun t'
  pub ends : Ends f r.begun (drop r.taken chunk) t' r.good

-- "loading only 17": done, the file stores the table that t holds then; refused, it stores none, or t has another length. "Else 17 and the old
-- table stays."
abbrev pub Loaded : FileForm → List ℕ → List ℕ → Result (Unit {0}) Refusal → List ℕ → Type 0
Loaded f bytes t (Ok u) t' = (length t ≡ size) × Sound t' × Stores f bytes (state_of t')
Loaded f bytes t (Err k) t' = (k ≡ refusal.File) × (t' ≡ t) × ((st : State) → Stores f bytes st → length t ≡ size → ⊥)
