-- Storing a table through a buffer: what one call of `store_next` does, and what a whole run is.
use Rattle.std.specs.Prelude.{◌≡◌, ◌⊎◌, List, [], ◌++◌, ℕ, zero, suc, ◌+◌, ◌≤◌, ◌<◌, length, take, drop}
use Rattle.std.proofs.lemmas.List.Edits.{sets}
use Rattle.map.specs.State.{State}
use Rattle.map.specs.Deadline.{standing}
use Rattle.table.specs.Memory.{state_of, Sound}
use Rattle.stored.specs.File.{form1, entry_lines, file}
use Rattle.files.specs.declared.NextStore.{NextStore}
use Rattle.files.specs.declared.NextStore.TheVariants as store
use Rattle.field.specs.declared.refusals.Refusal.{Refusal}
use Rattle.field.specs.declared.refusals.Refusal.TheVariants as refusal

-- the room for the longest line of a stored table, with its line end
abbrev pub store_room : ℕ
store_room = 679

-- a stored file from line i on: line 0 is the first one, line i + 1 that of entry i, which one that has expired at the latest second does not have
unfoldable pub file_from : State → ℕ → List ℕ
file_from st zero = file form1 st
file_from st (suc k) = entry_lines form1 (standing st.history.latest (drop k st.entries))

pub record StoreReady (t out : List ℕ) : Type 0 where
  pub room : store_room ≤ length out
  pub sound : Sound t

-- "write the first n bytes of out, and call again for line j": they are the lines from i up to j
pub record StoreWrites (t out : List ℕ) (i n j : ℕ) (out' : List ℕ) : Type 0 where
  pub ready : StoreReady t out
  pub text : List ℕ
  pub all : file_from (state_of t) i ≡ text ++ file_from (state_of t) j
  pub order : i < j
  pub most : j ≤ length (state_of t).entries + 1
  pub size : n ≡ length text
  pub fits : n ≤ length out
  pub list : out' ≡ sets out 0 text

-- "done": there is no line i
pub record StoreEnds (t out : List ℕ) (i : ℕ) (out' : List ℕ) : Type 0 where
  pub ready : StoreReady t out
  pub none : length (state_of t).entries < i
  pub list : out' ≡ out

-- "12" where there is no room for a line, else "13" where the table is not sound
pub record StoreRefuses (t out : List ℕ) (k : Refusal) (out' : List ℕ) : Type 0 where
  pub why : ((k ≡ refusal.Room) × (length out < store_room)) ⊎ ((k ≡ refusal.Table) × (store_room ≤ length out) × (Sound t → ⊥))
  pub list : out' ≡ out

-- what `store_next` answers, and what it leaves of what it was lent
abbrev pub StoresNext : List ℕ → List ℕ → ℕ → NextStore → List ℕ → Type 0
StoresNext t out i (store.Write n j) out' = StoreWrites t out i n j out'
StoresNext t out i store.Done out' = StoreEnds t out i out'
StoresNext t out i (store.Refused k) out' = StoreRefuses t out k out'

-- a whole run, from line i on, and all that is written, in order
pub data Storings (t : List ℕ) : ℕ → List ℕ → Type 0 where
  wrote : {out out' w : List ℕ} {i n j : ℕ} → StoresNext t out i (store.Write n j) out' → Storings t j w → Storings t i (take n out' ++ w)
  done : {out out' : List ℕ} {i : ℕ} → StoresNext t out i store.Done out' → Storings t i []

-- what a call answers, and what it leaves
pub record StoreAnswers (t out : List ℕ) (i : ℕ) : Type 0 where
  pub answer : NextStore
  pub output : List ℕ
  pub does : StoresNext t out i answer output
