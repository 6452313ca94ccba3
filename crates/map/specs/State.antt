-- What the simple map holds (document 01, 'The table').
use Rattle.std.specs.Prelude.{List, [], ◌∷◌, Bool, cond, ℕ}
use Rattle.std.proofs.Math.Option.{Option, none, some}
use Rattle.wire.specs.Same.{same_list}
use Rattle.map.specs.History.{History, no_history}

-- "Each entry has key, value, entry version and deadline."
pub record Entry : Type 0 where
  pub key : List ℕ
  pub value : List ℕ
  pub version : ℕ
  pub deadline : ℕ

-- the entries, which a table lists ascending by version (`Ascending` in Table.antt), the last version issued, and what was counted
pub record State : Type 0 where
  pub entries : List Entry
  pub last : ℕ
  pub history : History

-- the state with other entries, another last version, another history
abbrev pub with_entries : List Entry → State → State
with_entries es st = record { entries = es; last = st.last; history = st.history }

abbrev pub with_last : ℕ → State → State
with_last n st = record { entries = st.entries; last = n; history = st.history }

abbrev pub with_history : History → State → State
with_history h st = record { entries = st.entries; last = st.last; history = h }

-- "The table holds the last version issued, 0 when fresh."
abbrev pub fresh : State
fresh = record { entries = []; last = 0; history = no_history }

-- the first entry that passes a test
unfoldable pub find : (Entry → Bool) → List Entry → Option Entry
find p [] = none
find p (e ∷ es) = cond (p e) (some e) (find p es)

-- the entries that do not pass it
unfoldable pub without : (Entry → Bool) → List Entry → List Entry
without p [] = []
without p (e ∷ es) = cond (p e) (without p es) (e ∷ without p es)

-- the test of a key
abbrev pub has_key : List ℕ → Entry → Bool
has_key k e = same_list e.key k
