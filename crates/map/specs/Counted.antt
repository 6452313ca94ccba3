-- What each count is the number of, over the steps of a run (document 02, C-11 and C-15). The law `counts-run` holds the map's counts to it.
use Rattle.std.specs.Prelude.{List, [], ◌∷◌, Bool, true, false, cond, not, ◌&&◌, ◌||◌, ℕ, suc, get_or, eqb, leb}
use Rattle.message.specs.declared.Operation.{Operation}
use Rattle.message.specs.declared.Operation.TheVariants.{Put, Get, Remove}
use Rattle.map.specs.History.{is}
use Rattle.message.specs.Request.{Request}
use Rattle.map.specs.State.{State, find}
use Rattle.map.specs.Deadline.{standing}
use Rattle.map.specs.Step.{Outcome, refused, answered, Taken, is_none, names, held}

-- the outcome is a result, and one of a status
abbrev pub is_answered : Outcome → Bool
is_answered (refused k) = false
is_answered (answered a st) = true

abbrev pub answers : Outcome → ℕ → Bool
answers (refused k) s = false
answers (answered a st) s = eqb a.status s

-- "C-11's counts take 03 as 00"
abbrev pub succeeds : Outcome → Bool
succeeds x = answers x 0x00 || answers x 0x03

-- Whether a step counts, for each count, by its operation, its outcome, and whether no entry that stood had its key before and none has it after.
unfoldable pub says : Operation → Outcome → Bool → Bool → List Bool
says o x before after =
    -- totalNumberOfEntries: "writes that added a key not held then"
    (is_answered x && (before && not after))
    -- stores: "put requests answered 00"
    ∷ (is Put o && succeeds x)
    -- "retrievals get requests served"
    ∷ (is Get o && is_answered x)
    -- "split into hits and misses"
    ∷ (is Get o && succeeds x)
    ∷ (is Get o && answers x 0x02)
    -- "as removes into removeHits and removeMisses"
    ∷ (is Remove o && succeeds x)
    ∷ (is Remove o && answers x 0x02)
    ∷ []

-- whether no entry that stands at a second has the key
abbrev pub absent_at : ℕ → Request → State → Bool
absent_at now r st = is_none (find (names r) (standing now st.entries))

-- behind a step that is answered the latest second is its present second
abbrev pub says_at : State → Taken → List Bool
says_at st x =
    says x.request.op x.outcome (absent_at x.state.history.latest x.request st) (is_none (held x.request x.state))

-- how many steps of a run count at a place; the first state is the one before the run
unfoldable pub number : ℕ → State → List Taken → ℕ
number i st [] = 0
number i st (x ∷ xs) = cond (get_or (says_at st x) i false) (suc (number i x.state xs)) (number i x.state xs)

-- the state behind a run
unfoldable pub ends : State → List Taken → State
ends st [] = st
ends st (x ∷ xs) = ends x.state xs

-- the lesser of two: a count stops
abbrev pub at_most : ℕ → ℕ → ℕ
at_most m n = cond (leb n m) n m
