-- Old values by version and flag, over a step (document 02, C-16): what 03 and 04 mean, that the further flags mean nothing, and which statuses are given.
use Rattle.std.specs.Prelude.{◌≡◌, Bool, true, false, cond, ◌&&◌, ℕ, ◌%◌, ◌≤◌, eqb}
use Rattle.std.proofs.Math.Option.{Option, none, some}
use Rattle.wire.specs.Codec.{Valid}
use Rattle.message.specs.declared.Operation.{Operation}
use Rattle.message.specs.Request as message
use Rattle.message.specs.Request.{Request, is_version, edition_at}
use Rattle.message.specs.ReplyTable.{body_at, is_allowed, table, has_old, status_with_old}
use Rattle.map.specs.State.{Entry, State, find}
use Rattle.map.specs.Deadline.{standing}
use Rattle.map.specs.Plan.{plan}
use Rattle.map.specs.Shown.{Shown, nothing, value}
use Rattle.map.specs.Step.{Context, Result, answered, wants_old, with_old, names, is_none, version_of, present, step}
use Rattle.map.specs.Table.{IsTable}
use Rattle.map.specs.Reply.{pieces}

-- the entry that a request names, of those that stand at the present second of its call
abbrev pub held_then : Context → Request → State → Option Entry
held_then c r st = find (names r) (standing (present c st) st.entries)

-- the status planned of an entry held, or of none
abbrev pub planned_of : Request → Option Entry → ℕ
planned_of r f = (plan r.op r.args.entry_version (version_of f)).status

-- the value held before, or nothing where none was: not even a length 0
abbrev pub old_shown : Option Entry → Shown
old_shown none = nothing
old_shown (some e) = value e

-- whether 03 and 04 may come: flag 0x0001, in version 20, at an operation with an old value
abbrev pub may_follow : Request → Bool
may_follow r = has_old r.op && (eqb r.version 20 && wants_old r)

-- the request with the flags 0x0001, 0x0002 and 0x0004 alone
abbrev pub early_flags : Request → Request
early_flags r =
    record {
      id = r.id;
      version = r.version;
      op = r.op;
      name = r.name;
      flags = r.flags % 8;
      intelligence = r.intelligence;
      topology = r.topology;
      args = r.args;
    }

-- A step that gives a status: a request of the version, the operation and the flag, which has a written form where the version is served and has the operation,
-- and a table that it is answered from.
pub record Given (v : ℕ) (flag : Bool) (o : Operation) (s : ℕ) : Type 0 where
  pub second : Context
  pub request : Request
  pub state : State
  pub result : Result
  pub next : State
  pub version : request.version ≡ v
  pub op : request.op ≡ o
  pub flagged : wants_old request ≡ flag
  pub valid : is_version v ≡ true → (edition_at v).serves o ≡ true → Valid message.request request
  pub table : IsTable state
  pub answer : step second request state ≡ answered result next
  pub status : result.status ≡ s

pub record OldValues : Type 0 where
  -- "There flag 0x0001, at the operations with an old value and where the key was held, turns 00 into 03 and 01 into 04"
  pub status : (c : Context) (r : Request) (st : State) (a : Result) (t : State) → step c r st ≡ answered a t → may_follow r ≡ true
      → a.status ≡ cond (is_none (held_then c r st)) (planned_of r (held_then c r st)) (status_with_old (planned_of r (held_then c r st)))
  -- "the value held before, length first, follows 03 and 04 and no other status of these"
  pub shown : (c : Context) (r : Request) (st : State) (a : Result) (t : State) → step c r st ≡ answered a t → may_follow r ≡ true → a.shown ≡ old_shown (held_then c r st)
  -- every other request is answered 00, 01 or 02
  pub neither : (c : Context) (r : Request) (st : State) (a : Result) (t : State) → step c r st ≡ answered a t → may_follow r ≡ false → a.status ≤ 0x02
  -- "0x0008 and 0x0010 without effect here"
  pub idle : (c : Context) (r : Request) (st : State) → step c (early_flags r) st ≡ step c r st
  pub idle-reply : (r : Request) (a : Result) → pieces (early_flags r) a ≡ pieces r a
  -- "8 covers a status that operation, version and flag can't give": a status of the reply table is given by some step, and no other is
  pub given : (v : ℕ) (flag : Bool) (o : Operation) (s : ℕ) → is_allowed (body_at s (table ((edition_at v).old_statuses && flag) o)) ≡ true → Given v flag o s
  pub listed : (c : Context) (r : Request) (st : State) (a : Result) (t : State) → step c r st ≡ answered a t
      → is_allowed (body_at a.status (table (with_old r) r.op)) ≡ true
