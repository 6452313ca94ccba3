-- Calls of `serve_many` one after the other, each on the table that the last one left: rounds. A call that is refused changes nothing, and is no round.
use Rattle.std.specs.Prelude.{◌≡◌, List, [], ◌∷◌, ◌++◌, map, false, ℕ, ◌+◌, ◌≤◌, ◌<◌, length, take, drop}
use Rattle.wire.specs.Codec.{Bytes}
use Rattle.message.specs.Request.{Request}
use Rattle.message.specs.Written.{written, WellFormed}
use Rattle.map.specs.Step.{Context, Taken, run}
use Rattle.map.specs.Counted.{ends}
use Rattle.table.specs.Memory.{state_of}
use Rattle.service.specs.Serve.{room}
use Rattle.service.specs.Many.{Total}
use Rattle.service.specs.Shares.{Shares, table_behind}
use Rattle.service.specs.Linear.{joined, Passed, passed_request, steps, timed, AllGet}

-- what a round is given beside the table
pub record Round : Type 0 where
  pub context : Context
  pub inputs : List (List ℕ)
  pub lent : List ℕ

pub data Rounds : List ℕ → List Round → List (List Total) → Type 0 where
  no_rounds : {table : List ℕ} → Rounds table [] []
  round : {table : List ℕ} {r : Round} {rs : List Round} {ts : List Total} {tss : List (List Total)} → Shares r.context false r.inputs table r.lent ts
      → Rounds (table_behind table ts) rs tss → Rounds table (r ∷ rs) (ts ∷ tss)

abbrev pub AllBytes : List (List ℕ) → Type 0
AllBytes [] = Unit {0}
AllBytes (i ∷ is) = Bytes i × AllBytes is

-- what every round has: a second within its range, inputs of bytes, and the least room
pub record Fits (r : Round) : Type 0 where
  pub second : r.context.second < 0x1_0000_0000
  pub bytes : AllBytes r.inputs
  pub least : room ≤ length r.lent

abbrev pub AllFit : List Round → Type 0
AllFit [] = Unit {0}
AllFit (r ∷ rs) = Fits r × AllFit rs

unfoldable pub table_after : List ℕ → List (List Total) → List ℕ
table_after table [] = table
table_after table (ts ∷ tss) = table_after (table_behind table ts) tss

-- the steps of all rounds, and their requests, each at its round's second
unfoldable pub steps_of_all : List (List (List Passed)) → List Taken
steps_of_all [] = []
steps_of_all (pss ∷ psss) = steps (joined pss) ++ steps_of_all psss

unfoldable pub timed_of_all : List Round → List (List (List Passed)) → List (Context × Request)
timed_of_all [] psss = []
timed_of_all (r ∷ rs) [] = []
timed_of_all (r ∷ rs) (pss ∷ psss) = map (timed r.context) (steps (joined pss)) ++ timed_of_all rs psss

-- what each connection gets in each round
pub data EachGets : List Round → List (List Total) → List (List (List Passed)) → Type 0 where
  no_more-rounds : EachGets [] [] []
  in_round : {r : Round} {rs : List Round} {ts : List Total} {tss : List (List Total)} {pss : List (List Passed)} {psss : List (List (List Passed))}
      → AllGet (length r.lent) (length r.lent) r.inputs ts pss → EachGets rs tss psss → EachGets (r ∷ rs) (ts ∷ tss) (pss ∷ psss)

-- The steps of all connections in all rounds are one run of the simple map, and the table left stands for the state behind it.
pub record LinearRounds (table : List ℕ) (rs : List Round) (tss : List (List Total)) : Type 0 where
  pub passed : List (List (List Passed))
  pub each : EachGets rs tss passed
  pub one-run : run (timed_of_all rs passed) (state_of table) ≡ steps_of_all passed
  pub state : state_of (table_after table tss) ≡ ends (state_of table) (steps_of_all passed)

-- a connection among those of a round
pub data In (input : List ℕ) (t : Total) (ps : List Passed) : List (List ℕ) → List Total → List (List Passed) → Type 0 where
  here : {is : List (List ℕ)} {ts : List Total} {pss : List (List Passed)} → In input t ps (input ∷ is) (t ∷ ts) (ps ∷ pss)
  there : {i : List ℕ} {is : List (List ℕ)} {u : Total} {ts : List Total} {qs : List Passed} {pss : List (List Passed)} → In input t ps is ts pss
      → In input t ps (i ∷ is) (u ∷ ts) (qs ∷ pss)

-- A connection over rounds. `rest` is what it has sent and no round took, and the chunks are what it sends then. It has no part in a round, or its input there is
-- what is left of its bytes and a chunk more, wherever that is cut. n bytes are taken of it in all, and ps is what is made of its requests.
pub data Connection : List ℕ → List (List ℕ) → List Round → List (List Total) → List (List (List Passed)) → ℕ → List Passed → Type 0 where
  over : {rest : List ℕ} → Connection rest [] [] [] [] 0 []
  elsewhere : {rest : List ℕ} {chunks : List (List ℕ)} {r : Round} {rs : List Round} {ts : List Total} {tss : List (List Total)} {pss : List (List Passed)}
      {psss : List (List (List Passed))} {n : ℕ} {ps : List Passed} → Connection rest chunks rs tss psss n ps → Connection rest chunks (r ∷ rs) (ts ∷ tss) (pss ∷ psss) n ps
  serves : {rest chunk : List ℕ} {chunks : List (List ℕ)} {r : Round} {rs : List Round} {t : Total} {ts : List Total} {tss : List (List Total)} {ps : List Passed}
      {pss : List (List Passed)} {psss : List (List (List Passed))} {n : ℕ} {qs : List Passed} → In (rest ++ chunk) t ps r.inputs ts pss
      → Connection (drop t.taken (rest ++ chunk)) chunks rs tss psss n qs
      → Connection rest (chunk ∷ chunks) (r ∷ rs) (ts ∷ tss) (pss ∷ psss) (t.taken + n) (ps ++ qs)

-- Its requests, written end to end, are the front of all bytes that it sent: none lost, none twice, in their order.
pub record TakenInOrder (row : List ℕ) (n : ℕ) (ps : List Passed) : Type 0 where
  pub within : n ≤ length row
  pub took : take n row ≡ written (map passed_request ps)
  pub well : WellFormed (map passed_request ps)
