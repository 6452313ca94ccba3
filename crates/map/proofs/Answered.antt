-- What a step that is answered says: its result, and the change of the state. Assumes nothing.
use mathlib.Core.Path.{◌≡◌, refl}
use mathlib.Core.Bool.{Bool, true, false, cond}
use Prim.Native.Nat.{ℕ, ◌<◌}
use lib.Dec.{ltb}
use borrow.Author.Tests.{ltb-true}
use Rattle.wire.proofs.Laws.{never}
use Rattle.message.specs.Arguments.{is_empty}
use Rattle.message.specs.Request.{Request}
use Rattle.map.specs.State.{State}
use Rattle.map.specs.Plan.{Change, keep, store, drop, empty}
use Rattle.map.specs.Step.{Context, Result, Outcome, refused, answered, last_version, stored, dropped, emptied, full, planned, result, act, core, arrive, step}

-- the state behind a change
unfoldable pub changed : Request → State → Change → State
changed r st keep = st
changed r st store = stored r st
changed r st drop = dropped r st
changed r st empty = emptied st

-- what is refused is not answered
unless : {a : Result} {t : State} (b : Bool) (k : ℕ) (o : Outcome) → cond b (refused k) o ≡ answered a t → (b ≡ false) × (o ≡ answered a t)
unless true k o e = never (cc)
unless false k o e = (refl, e)

if : {a : Result} {t : State} (b : Bool) (k : ℕ) (o : Outcome) → cond b o (refused k) ≡ answered a t → (b ≡ true) × (o ≡ answered a t)
if true k o e = (refl, e)
if false k o e = never (cc)

module _ (c : Context) (r : Request) (st : State) (a : Result) (t : State) where
  pub record Did (b : Result) (d : Change) : Type 0 where
    pub same : a ≡ b
    pub state : t ≡ changed r st d
    pub room : d ≡ store → (full r st ≡ false) × (st.last < last_version)

  act-did : (b : Result) (d : Change) → act r st b d ≡ answered a t → Did b d
  unfolding act changed
  act-did b keep e = record { same = cc; state = cc; room = λ q. never (cc) }
  act-did b drop e = record { same = cc; state = cc; room = λ q. never (cc) }
  act-did b empty e = record { same = cc; state = cc; room = λ q. never (cc) }
  act-did b store e =
      let x = unless (full r st) 10 _ e in
      let y = if (ltb st.last last_version) 11 _ x.1 in
      let q = y.1 in
      record { same = cc; state = cc; room = λ z. (x.0, ltb-true st.last last_version y.0) }

  core-did : core c r st ≡ answered a t → Did (result c r st) (planned r st).change
  unfolding core
  core-did e = act-did (result c r st) (planned r st).change (if (is_empty r.name) 9 _ e).1

-- the step does this to the state that the call left when it came
pub did : (c : Context) (r : Request) (st : State) (a : Result) (t : State) → step c r st ≡ answered a t
    → Did c r (arrive c r st) a t (result c r (arrive c r st)) (planned r (arrive c r st)).change
unfolding step
did c r st a t e = core-did c r (arrive c r st) a t e
