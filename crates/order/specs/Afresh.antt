-- "After every operation, expiry and load it equals the order made afresh" (document 02, C-24), over every way in which the memory of a table goes on.
use Rattle.std.specs.Prelude.{◌≡◌, List, map, Bool, ℕ, Result}
use Rattle.map.specs.KeyListing.{sorted_by_key}
use Rattle.table.specs.Memory.{state_of, row_entry, order_held, OrderKept}
use Rattle.field.specs.declared.refusals.Refusal.{Refusal}
use Rattle.service.specs.Stream.{Call, Done, Becomes, Serves}
use Rattle.service.specs.Feed.{Turn}
use Rattle.service.specs.Turns.{Turns}
use Rattle.stored.specs.File.{form1}
use Rattle.stored.specs.StoreLoad.{Loaded}

-- The bytes that are kept are the numbers of the rows held, sorted by their keys; and the entries of these rows are the map's entries, sorted by their keys.
pub record OrderAfresh (t : List ℕ) : Type 0 where
  pub rows : OrderKept t
  pub entries : map (row_entry t) (order_held t) ≡ sorted_by_key (state_of t).entries

-- what becomes of the memory by a call, whose expiry is part of it, by lines of a file as `serve_lines` serves them, and by a load: each may be refused
pub data Transition : List ℕ → List ℕ → Type 0 where
  call : {input t : List ℕ} {c : Call} {d : Done} → Serves input t c d → Transition t d.table
  lines : {t u s : List ℕ} {last passing : Bool} {room : ℕ} {x : Turn} → Turns last passing s (state_of t) room x → Becomes t x.next u → Transition t u
  load : {t u : List ℕ} (file : List ℕ) (o : Result (Unit {0}) Refusal) → Loaded form1 file t o u → Transition t u

-- any number of them, one after the other
pub data Transitions : List ℕ → List ℕ → Type 0 where
  start : {t : List ℕ} → Transitions t t
  onward : {t u v : List ℕ} → Transition t u → Transitions u v → Transitions t v
