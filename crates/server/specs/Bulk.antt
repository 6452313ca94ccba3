-- A bulk reply from a table: the entries that it lists, and what they are written by.
use Rattle.std.specs.Prelude.{◌≡◌, List, map, Bool, ℕ, length, eqb}
use Rattle.wire.specs.Codec.{Valid}
use Rattle.wire.specs.Write.{Room, Sent, send}
use Rattle.message.specs.declared.Asked.{Asked}
use Rattle.message.specs.Listing.{listing}
use Rattle.message.specs.declared.Operation.TheVariants.{BulkGet}
use Rattle.message.specs.Operation.{code_of}
use Rattle.message.specs.Reply.{reply, entries_reply}
use Rattle.map.specs.State.{State}
use Rattle.map.specs.Shown.{lowest}
use Rattle.map.specs.Reply.{pair_of}
use Rattle.table.specs.Memory.{state_of}
use Rattle.table.specs.Found.{entry_at}

-- entry i of a table as a bulk reply lists it, and the first n, all where n is 0
abbrev pub entry_pair : Bool → List ℕ → ℕ → List ℕ × List ℕ
entry_pair values t i = pair_of values (entry_at t i)

abbrev pub listed_pairs : Bool → ℕ → State → List (List ℕ × List ℕ)
listed_pairs values n st = map (pair_of values) (lowest n st.entries)

-- these are m, have a written form, and there is room for them
pub record Listable (values : Bool) (n m : ℕ) (t : List ℕ) (at : ℕ) (old : List ℕ) : Type 0 where
  pub many : m ≡ length (lowest n (state_of t).entries)
  pub valid : Valid (listing values) (listed_pairs values n (state_of t))
  pub room : Room (listing values) (listed_pairs values n (state_of t)) at old

-- the reply to bulkGet or to bulkGetKeys, whichever was asked, as a writer sends it into a buffer
abbrev pub sent_listed : Asked → ℕ → ℕ → State → List ℕ → Sent × List ℕ
sent_listed a id n st old = send (reply a) (entries_reply a id (listed_pairs (eqb a.op (code_of BulkGet)) n st)) old
