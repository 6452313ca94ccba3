-- What expiry means over the steps of a run (document 02, C-15), and which seconds a run leaves.
use Rattle.std.specs.Prelude.{List, [], ◌∷◌, cond, ℕ, ◌≤◌, ◌<◌, max}
use Rattle.std.proofs.Math.Option.{Option, none, some}
use Rattle.message.specs.Request.{Request}
use Rattle.map.specs.State.{Entry}
use Rattle.map.specs.Shown.{Shown, nothing, no_value, value, versioned, counted, listed}
use Rattle.map.specs.Step.{Context, Outcome, refused, answered, Taken}
use Rattle.map.specs.Table.{Each}
use Rattle.map.specs.Counted.{is_answered}

-- "An entry whose deadline isn't 0 and isn't above the present second counts as absent": every other one stands
abbrev pub Stands : ℕ → Entry → Type 0
Stands now e = 0 < e.deadline → now < e.deadline

-- each entry that is shown has the property
abbrev pub ShowsEach : (Entry → Type 0) → Shown → Type 0
ShowsEach P nothing = Unit {0}
ShowsEach P no_value = Unit {0}
ShowsEach P (value e) = P e
ShowsEach P (versioned e) = P e
ShowsEach P (counted ns) = Unit {0}
ShowsEach P (listed values es) = Each P es

-- A result shows what stands at the latest second that its step left, which is its present second (`latest-step`).
abbrev pub InTime : Outcome → Type 0
InTime (refused k) = Unit {0}
InTime (answered a st) = ShowsEach (Stands st.history.latest) a.shown

abbrev pub AllInTime : List Taken → Type 0
AllInTime [] = Unit {0}
AllInTime (x ∷ xs) = InTime x.outcome × AllInTime xs

-- the latest second never falls, from n on
abbrev pub Rises : ℕ → List Taken → Type 0
Rises n [] = Unit {0}
Rises n (x ∷ xs) = (n ≤ x.state.history.latest) × Rises x.state.history.latest xs

-- "the greatest among .. those of earlier calls served": of n and the seconds of the calls that were answered
unfoldable pub greatest : ℕ → List (Context × Request) → List Taken → ℕ
greatest n [] ts = n
greatest n (x ∷ xs) [] = n
greatest n (x ∷ xs) (t ∷ ts) = greatest (cond (is_answered t.outcome) (max x.0.second n) n) xs ts

-- "the first call served": the one before the run where there is one, else the first of the calls that was answered
unfoldable pub first_served : Option ℕ → List (Context × Request) → List Taken → Option ℕ
first_served (some n) xs ts = some n
first_served none [] ts = none
first_served none (x ∷ xs) [] = none
first_served none (x ∷ xs) (t ∷ ts) = cond (is_answered t.outcome) (some x.0.second) (first_served none xs ts)
