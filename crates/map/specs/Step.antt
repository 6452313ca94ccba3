-- A step of the simple map (document 01, 'The table' and 'A reply').
use Rattle.std.specs.Prelude.{List, [], ◌∷◌, ◌++◌, Bool, true, false, cond, not, ◌&&◌, ℕ, suc, ◌-◌, ◌%◌, max, length, eqb, leb, ltb}
use Rattle.std.proofs.Math.Option.{Option, none, some}
use Rattle.message.specs.Arguments.{is_empty}
use Rattle.message.specs.Request.{Request, edition_at}
use Rattle.message.specs.ReplyTable.{body_at, allowed, table, reply_status}
use Rattle.message.specs.Payload.{form_of}
use Rattle.map.specs.History.{tally, start_of}
use Rattle.map.specs.State.{Entry, State, with_entries, with_last, with_history, find, without, has_key}
use Rattle.map.specs.Deadline.{deadline, standing}
use Rattle.map.specs.Plan.{Change, keep, store, drop, empty, Plan, plan}
use Rattle.map.specs.Shown.{Shown, shows, listed_by}

-- "A served table has at most 128 keys."
abbrev pub most_keys : ℕ
most_keys = 128

-- "The largest version is 9,223,372,036,854,775,807."
abbrev pub last_version : ℕ
last_version = 0x7fff_ffff_ffff_ffff

-- what a call is given beside the request
pub record Context : Type 0 where
  pub second : ℕ

abbrev pub context_of : ℕ → Context
context_of second = record { second = second }

pub record Result : Type 0 where
  pub status : ℕ
  pub shown : Shown

-- a refusal 9, 10 or 11, which changes nothing, or a result with the next state
pub data Outcome : Type 0 where
  refused : ℕ → Outcome
  answered : Result → State → Outcome

-- flag 0x0001
abbrev pub wants_old : Request → Bool
wants_old r = eqb (r.flags % 2) 1

-- whether the status of its reply says whether an old value follows: flag 0x0001 in an edition that has the statuses for it
abbrev pub with_old : Request → Bool
with_old r = (edition_at r.version).old_statuses && wants_old r

-- the entry that a request writes at a present second
unfoldable pub entry : ℕ → Request → ℕ → Entry
entry now r version = record { key = r.args.key; value = r.args.value; version = version; deadline = deadline now r }

-- what an entry is named by: the key
abbrev pub names : Request → Entry → Bool
names r = has_key r.args.key

-- "'stored', or a put, sets the key's entry to the value, the next version and the deadline"; the latest second is the present one (`arrive`)
unfoldable pub stored : Request → State → State
stored r st = with_last (suc st.last) (with_entries (without (names r) st.entries ++ (entry st.history.latest r (suc st.last) ∷ [])) st)

-- "'removed' drops it"
unfoldable pub dropped : Request → State → State
dropped r st = with_entries (without (names r) st.entries) st

-- "Clear empties the table and keeps the number."
unfoldable pub emptied : State → State
emptied st = with_entries [] st

abbrev pub is_none : {A : Type 0} → Option A → Bool
is_none none = true
is_none (some e) = false

-- the entry that the request names
unfoldable pub held : Request → State → Option Entry
held r st = find (names r) st.entries

abbrev pub version_of : Option Entry → Option ℕ
version_of none = none
version_of (some e) = some e.version

-- "10: the write would add a key and 128 are held"; "Refusal 10 counts only entries that still stand", and no others are left (`arrive`)
unfoldable pub full : Request → State → Bool
full r st = is_none (held r st) && leb most_keys (length st.entries)

unfoldable pub planned : Request → State → Plan
planned r st = plan r.op r.args.entry_version (version_of (held r st))

-- The statistics: "timeSinceStart is the call's second less that of the first call served, 0 if it is that call or the clock went back", "currentNumberOfEntries
-- the keys held", and the counts. A call that is served has set the first second before (`arrive`).
unfoldable pub statistics : Context → State → List ℕ
statistics c st = (c.second - start_of st.history.first c.second) ∷ length st.entries ∷ st.history.counts

-- the status of the reply, by the planned one and by whether the key is held
unfoldable pub status_of : Request → State → ℕ
status_of r st = reply_status (with_old r) r.op (not (is_none (held r st))) (planned r st).status

unfoldable pub result : Context → Request → State → Result
result c r st =
    record {
      status = status_of r st;
      shown = shows (form_of (wants_old r) (allowed (body_at (status_of r st) (table (with_old r) r.op)))) (statistics c st) (listed_by r st) (held r st);
    }

-- "11: the write would take effect and no version is left"
unfoldable pub act : Request → State → Result → Change → Outcome
act r st a keep = answered a st
act r st a drop = answered a (dropped r st)
act r st a empty = answered a (emptied st)
act r st a store = cond (full r st) (refused 10) (cond (ltb st.last last_version) (answered a (stored r st)) (refused 11))

-- "9: cache name not empty"
unfoldable pub core : Context → Request → State → Outcome
core c r st = cond (is_empty r.name) (act r st (result c r st) (planned r st).change) (refused 9)

-- "The present second is the greatest among this call's and those of earlier calls served."
abbrev pub present : Context → State → ℕ
present c st = max c.second st.history.latest

-- "The simple map drops such entries before each step"
unfoldable pub swept : Context → State → State
swept c st = with_entries (standing (present c st) st.entries) st

-- a call that is served is counted, is the first one where none was served before, and leaves its present second as the latest one
unfoldable pub noted : Context → Request → State → State
noted c r st =
    with_history
    (record {
      first = some (start_of st.history.first c.second);
      latest = present c st;
      counts = tally r.op (is_none (held r st)) st.history.counts;
    })
    st

-- What a call that is served does before its step. It is counted by what stands.
unfoldable pub arrive : Context → Request → State → State
arrive c r st = noted c r (swept c st)

-- A step. "A call refused isn't served": where the step is refused, the state stays the one before `arrive` (`state_after`).
unfoldable pub step : Context → Request → State → Outcome
step c r st = core c r (arrive c r st)

-- "A step refused 9, 10 or 11 changes nothing"; "a refused step leaves the map and the latest second served as they were before it".
abbrev pub state_after : State → Outcome → State
state_after st (refused k) = st
state_after st (answered a t) = t

-- a step of a run: the request, its outcome, and the state after it
pub record Taken : Type 0 where
  pub request : Request
  pub outcome : Outcome
  pub state : State

-- the steps of a list of requests, each with what its call is given
unfoldable pub run : List (Context × Request) → State → List Taken
run [] st = []
run (x ∷ xs) st =
    let o = step x.0 x.1 st in
    record { request = x.1; outcome = o; state = state_after st o } ∷ run xs (state_after st o)
