-- What a request is given to be served with, and what a reply shows by the form of its body.
use Rattle.std.specs.Prelude.{◌≡◌, List, [], Bool, cond, not, ◌||◌, ℕ, ◌<◌, ◌≤◌, length, eqb}
use Rattle.std.proofs.Math.Option.{Option, none, some}
use Rattle.wire.specs.Codec as wire
use Rattle.wire.specs.Codec.{Valid}
use Rattle.wire.specs.Write.{Sent, send}
use Rattle.message.specs.declared.Operation.{Operation}
use Rattle.message.specs.declared.Operation.TheVariants.{Stats, BulkGet, BulkGetKeys}
use Rattle.message.specs.Arguments.{key_limit, value_limit}
use Rattle.message.specs.Request.{Request, request}
use Rattle.map.specs.History.{is}
use Rattle.map.specs.Plan.{Change, keep, store, drop, empty}
use Rattle.map.specs.State.{Entry, State, with_entries, without, has_key}
use Rattle.map.specs.Step as step
use Rattle.map.specs.Step.{Context}
use Rattle.map.specs.Table.{IsTable}
use Rattle.map.specs.Reply.{pieces, asked_by, reply_to}
use Rattle.message.specs.Reply.{reply}
use Rattle.message.specs.declared.Form.{Form}
use Rattle.message.specs.declared.Form.TheVariants as f
use Rattle.table.specs.Memory.{state_of, Sound}
use Rattle.table.specs.Change.{grown}
use Rattle.service.specs.Serve.{served, on_step, within}
use Rattle.service.specs.Stream.{Becomes, Done, Does}
use Rattle.std.specs.Prelude as std
use Rattle.plan.specs.declared.Held.{Held}
use Rattle.plan.specs.Plan.{Holds, held_version, refusal_of}
use Rattle.server.specs.declared.Answer.{Answer}
use Rattle.server.specs.CallDone.{Sends}

-- the value and the version that a reply of the form shows of the entry held
abbrev pub value_shown : Form → Option Entry → List ℕ
value_shown g none = []
value_shown f.Nothing (some e) = []
value_shown (f.Value lim) (some e) = cond (eqb lim 0) [] e.value
value_shown f.Versioned (some e) = e.value
value_shown f.Text (some e) = []
value_shown f.Statistics (some e) = []
value_shown (f.Listed values) (some e) = []

abbrev pub version_shown : Form → Option Entry → ℕ
version_shown g none = 0
version_shown f.Nothing (some e) = 0
version_shown (f.Value lim) (some e) = 0
version_shown f.Versioned (some e) = e.version
version_shown f.Text (some e) = 0
version_shown f.Statistics (some e) = 0
version_shown (f.Listed values) (some e) = 0

-- replies to the operation show the entry held, or nothing: the statistics and the entries listed are shown to the others
unfoldable pub is_plain : Operation → Bool
is_plain o = not (is Stats o || (is BulkGet o || is BulkGetKeys o))

-- the map's reply to the request, as a writer sends it into a buffer
abbrev pub sent_to : Context → Request → State → List ℕ → Sent × List ℕ
sent_to c q st old = send (reply (asked_by q)) (reply_to q (step.result c q st)) old

-- the state without the entry that has the key
abbrev pub less : List ℕ → State → State
less k st = with_entries (without (has_key k) st.entries) st

-- the state with the value under the key: no other entry has the key, and the entry that has it is of the next version
abbrev pub replaced : List ℕ → List ℕ → ℕ → State → State
replaced k v d st = grown k v d (less k st)

-- a value that can be set under a key: sizes are kept, there is a row for it, and a version is left
pub record Storable (t k v : List ℕ) (held : std.Option Held) : Type 0 where
  pub sound : Sound t
  pub holds : Holds t k held
  pub key : length k ≤ key_limit
  pub value : length v ≤ value_limit
  pub room : length (less k (state_of t)).entries < step.most_keys
  pub version : (state_of t).last < step.last_version

-- a well-formed request on a sound table, with what is held and the status planned
pub record Planned (t : List ℕ) (q : Request) (held : std.Option Held) (s : ℕ) : Type 0 where
  pub sound : Sound t
  pub valid : Valid request q
  pub holds : Holds t q.args.key held
  pub status : (step.planned q (state_of t)).status ≡ s

-- the state that a change leaves which is not refused
abbrev pub after : Request → State → Change → State
after q st keep = st
after q st store = step.stored q st
after q st drop = step.dropped q st
after q st empty = step.emptied st

-- the change of a well-formed request on a sound table is not refused, and leaves a table
pub record Agreed (t : List ℕ) (q : Request) (held : std.Option Held) (d : Change) : Type 0 where
  pub sound : Sound t
  pub valid : Valid request q
  pub holds : Holds t q.args.key held
  pub free : refusal_of (state_of t) (held_version held) d ≡ none
  pub left : IsTable (after q (state_of t) d)

-- a call has come: the table u is the one behind `arrive`, and this is held of the key there
pub record Arrives (t : List ℕ) (q : Request) (c : Context) (u : List ℕ) (held : std.Option Held) : Type 0 where
  pub table : Becomes t (some (step.arrive c q (state_of t))) u
  pub holds : Holds u q.args.key held

-- the map's reply to the request is sent
abbrev pub Replies : List ℕ → Request → Context → ℕ → List ℕ → List ℕ → Answer → Type 0
Replies t q c n old new a = Sends (pieces q (step.result c q (state_of t))) n served old new a

-- the request is performed, of which n bytes are taken
abbrev pub Performs : List ℕ → Request → Context → ℕ → List ℕ → Done → Type 0
Performs t q c n old d = Does (on_step q n (step.step c q (state_of t))) t old d

-- the same in the room that there is: a request that asks for more is taken and refused 12
abbrev pub PerformsWithin : List ℕ → Request → Context → ℕ → List ℕ → Done → Type 0
PerformsWithin t q c n old d = Does (within (length old) (wire.whole q n) (on_step q n (step.step c q (state_of t)))) t old d
