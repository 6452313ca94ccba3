-- Worked cases of expiry: a board with one entry, whose deadline is 10. Assumes nothing.
use mathlib.Core.Path.{◌≡◌, refl}
use mathlib.Core.List.{List, [], ◌∷◌, map}
use Prim.Native.Nat.{ℕ}
use Rattle.wire.specs.Same.{same_list}
use Rattle.message.specs.declared.Operation.{Operation}
use Rattle.message.specs.declared.Operation.TheVariants.{Put, Get, Remove}
use Rattle.message.specs.Arguments.{args}
use Rattle.message.specs.Request.{Request}
use Rattle.message.specs.Edition.{edition_of}
use Rattle.message.specs.ReplyTable.{body_at, reply_status}
use Rattle.map.specs.History.{no_history}
use Rattle.map.specs.State.{Entry, State, find, without}
use Rattle.map.specs.Deadline.{deadline, expired}
use Rattle.map.specs.Plan.{plans, plan}
use Rattle.map.specs.Shown.{Shown, nothing, value, shows}
use Rattle.map.specs.Step.{Context, context_of, Outcome, refused, answered, Taken, entry, stored, held, full, planned, status_of, result, act, core, swept, noted, arrive, step, run}

abbrev ship : Entry
ship = record { key = 0x62 ∷ []; value = 0x49 ∷ []; version = 1; deadline = 10 }

abbrev board : State
board = record { entries = ship ∷ []; last = 1; history = no_history }

-- a request for the key, at a second, to a cache by its name, with a lifespan
abbrev asks : ℕ → Operation → List ℕ → ℕ → Context × Request
asks second op name lifespan = (
  context_of second,
  record {
    id = 1;
    version = 12;
    op = op;
    name = name;
    flags = 0;
    intelligence = 1;
    topology = 0;
    args = args (0x62 ∷ []) lifespan 0 0 0 (0x4a ∷ []);
  },
)

-- status and what is shown, or the refusal
abbrev told : Outcome → ℕ × Shown
told (refused k) = (k, nothing)
told (answered a st) = (a.status, a.shown)

abbrev replies : List (Context × Request) → List (ℕ × Shown)
replies xs = map (λ (x : Taken). told x.outcome) (run xs board)

-- A call at the deadline that is served takes the entry away: a call behind it at an earlier second does not see it.
pub served-takes : replies (asks 10 Get [] 0 ∷ asks 9 Get [] 0 ∷ []) ≡ (0x02, nothing) ∷ (0x02, nothing) ∷ []
unfolding run step core arrive noted swept act result status_of reply_status edition_of planned plan plans shows body_at held find without expired
served-takes = refl

-- One that is refused (9, another cache) leaves it, and leaves the latest second: the same call sees it.
pub refused-leaves : replies (asks 10 Get (0x78 ∷ []) 0 ∷ asks 9 Get [] 0 ∷ []) ≡ (9, nothing) ∷ (0x00, value ship) ∷ []
unfolding run step core arrive noted swept act result status_of reply_status edition_of planned plan plans shows body_at held find without expired same_list
refused-leaves = refl

-- A remove of an expired key: the key was not there.
pub remove_late : replies (asks 10 Remove [] 0 ∷ []) ≡ (0x02, nothing) ∷ []
unfolding run step core arrive noted swept act result status_of reply_status edition_of planned plan plans shows body_at held find without expired
remove_late = refl

-- A put with a past date takes effect, and its entry counts as absent from then on, at whatever second.
pub past_date : replies (asks 3_000_000 Put [] 2_592_001 ∷ asks 0 Get [] 0 ∷ []) ≡ (0x00, nothing) ∷ (0x02, nothing) ∷ []
unfolding run step core arrive noted swept act result status_of reply_status edition_of planned plan plans shows body_at held find without expired full stored entry deadline
past_date = refl
