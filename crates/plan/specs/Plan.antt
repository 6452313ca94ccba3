-- What the code plans, by the meaning of it.
use Rattle.std.specs.Prelude.{◌≡◌, List, Bool, true, false, cond, ◌&&◌, ◌⊎◌, ℕ, length, leb, ltb, Some, None, Result, Ok, Err}
use Rattle.std.specs.Prelude as code
use Rattle.std.proofs.Math.Option.{Option, none, some}
use Rattle.field.specs.Refusal.{number_of}
use Rattle.field.specs.declared.refusals.Refusal.{Refusal}
use Rattle.map.specs.State.{Entry, State, with_entries, find, has_key}
use Rattle.map.specs.Deadline.{expired, standing}
use Rattle.map.specs.Plan as map
use Rattle.map.specs.Step.{most_keys, last_version, is_none}
use Rattle.table.specs.Memory.{state_of}
use Rattle.table.specs.Sweep.{is_due}
use Rattle.table.specs.Found.{entry_at, FoundIs}
use Rattle.plan.specs.declared.Held.{Held}
use Rattle.plan.specs.declared.Change.{Change}
use Rattle.plan.specs.declared.Change.TheVariants as c
use Rattle.plan.specs.declared.Plan.{Plan}

abbrev pub as_change : Change → map.Change
as_change c.Keep = map.keep
as_change c.Store = map.store
as_change c.Drop = map.drop
as_change c.Empty = map.empty

abbrev pub as_plan : Plan → map.Plan
as_plan p = record { status = p.status; change = as_change p.change }

-- the row of the table that has the key, with the version of its entry, or that none has it
abbrev pub Holds : List ℕ → List ℕ → code.Option Held → Type 0
Holds t k (Some h) = FoundIs t k (Some h.row) × (h.version.0 ≡ (entry_at t h.row).version)
Holds t k None = FoundIs t k None

-- the same of what stands at a second: an entry that has expired counts as absent
abbrev pub HoldsAt : ℕ → List ℕ → List ℕ → code.Option Held → Type 0
HoldsAt now t k (Some h) = Holds t k (Some h) × (expired now (entry_at t h.row) ≡ false)
HoldsAt now t k None = Holds t k None ⊎ ((i : ℕ) × FoundIs t k (Some i) × (expired now (entry_at t i) ≡ true))

-- the version held
abbrev pub held_version : code.Option Held → Option ℕ
held_version (Some h) = some h.version.0
held_version None = none

-- the entry that has the key
abbrev pub held_at : List ℕ → List ℕ → Option Entry
held_at t k = find (has_key k) (state_of t).entries

-- the state with the entries that stand at a second
abbrev pub standing_at : ℕ → State → State
standing_at now st = with_entries (standing now st.entries) st

-- The entries by which a change is judged at a second: those that stand. Where the bound is above the second, these are all that are held (`judged-stands`),
-- and no deadline is looked at.
unfoldable pub judged_by : ℕ → List ℕ → List Entry
judged_by now t = cond (is_due now t) (standing now (state_of t).entries) (state_of t).entries

abbrev pub judged_at : ℕ → List ℕ → State
judged_at now t = with_entries (judged_by now t) (state_of t)

-- "10: the write would add a key and 128 are held"; "11: the write would take effect and no version is left"
unfoldable pub is_full : State → Option ℕ → Bool
is_full st o = is_none o && leb most_keys (length st.entries)

unfoldable pub refusal_of : State → Option ℕ → map.Change → Option ℕ
refusal_of st o map.keep = none
refusal_of st o map.drop = none
refusal_of st o map.empty = none
refusal_of st o map.store = cond (is_full st o) (some 10) (cond (ltb st.last last_version) none (some 11))

-- the number of the refusal, or none
abbrev pub as_judged : Result Unit Refusal → Option ℕ
as_judged (Ok u) = none
as_judged (Err r) = some (number_of r)
