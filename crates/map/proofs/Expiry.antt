-- Expiry over every run. Assumes nothing.
use mathlib.Core.Path.{◌≡◌, refl, ap, ◌∙◌}
use mathlib.Core.List.{List, [], ◌∷◌}
use mathlib.Core.Bool.{Bool, true, false, cond}
use mathlib.Core.Option.{Option, none, some}
use Prim.Native.Nat.{ℕ, suc, ◌≤◌}
use native.Mathlib.Nat.{le_refl, le-max_right}
use native.Mathlib.Omega.{arith}
use lib.ListN.{length, get_or}
use lib.Dec.{eqb, ltb}
use borrow.Author.Tests.{leb-true}
use Rattle.wire.proofs.Laws.{never, both}
use Rattle.wire.proofs.Basics.{pick}
use Rattle.message.specs.declared.Form.{Form}
use Rattle.message.specs.declared.Form.TheVariants as form
use Rattle.message.specs.Arguments.{is_empty}
use Rattle.message.specs.Request.{Request}
use Rattle.map.specs.State.{Entry, State}
use Rattle.map.specs.Deadline.{standing}
use Rattle.map.specs.Plan.{Change, keep, store, drop, empty}
use Rattle.map.specs.Shown.{shows, by_version, wanted, lowest, listed_by}
use Rattle.map.specs.Step.{most_keys, last_version, Context, Result, Outcome, refused, answered, entry, stored, is_none, names, held, full, planned, statistics, result, act, core, present, swept, noted, arrive, step, state_after, Taken, run}
use Rattle.map.specs.Table.{Each}
use Rattle.map.specs.Counted.{ends}
use Rattle.map.specs.Expiry.{Stands, ShowsEach, InTime, AllInTime, Rises, greatest, first_served}
use Rattle.map.proofs.Each.{Maybe, each-find}
use Rattle.wire.proofs.SameLaws.{same_refl}
use Rattle.map.proofs.Answered.{changed, did}
use Rattle.map.proofs.Laws.{find-stored}
use Rattle.map.proofs.ListedLaws.{listed-each}
use Rattle.map.proofs.CountLaws.{latest-step, first_step}
use Rattle.map.proofs.Standing.{standing_stand, standing-all}

-- a result shows entries of the state that it is given from
shows-each : (P : Entry → Type 0) (g : Form) (ns : List ℕ) (es : List Entry) (f : Option Entry) → Each P es → Maybe P f → ShowsEach P (shows g ns es f)
unfolding shows
shows-each P form.Nothing ns es f h i = tt
shows-each P (form.Value lim) ns es none h i = tt
shows-each P (form.Value lim) ns es (some e) h i = pick (ShowsEach P) (eqb lim 0) (λ q. tt) i
shows-each P form.Versioned ns es none h i = tt
shows-each P form.Versioned ns es (some e) h i = i
shows-each P form.Statistics ns es f h i = tt
shows-each P form.Text ns es f h i = tt
shows-each P (form.Listed values) ns es f h i = h

result-each : (P : Entry → Type 0) (c : Context) (r : Request) (st : State) → Each P st.entries → ShowsEach P (result c r st).shown
unfolding result held
result-each P c r st h =
    shows-each P _ (statistics c st) (listed_by r st) (held r st) (listed-each r st P h) (each-find (names r) P st.entries h)

-- what is refused 10 is full
act_ten : (r : Request) (st : State) (a : Result) (d : Change) → act r st a d ≡ refused 10 → full r st ≡ true
unfolding act
act_ten r st a keep e = never (cc)
act_ten r st a drop e = never (cc)
act_ten r st a empty e = never (cc)
act_ten r st a store e = go (full r st) (ltb st.last last_version) e
  where
    go : (f l : Bool) → cond f (refused 10) (cond l (answered a (stored r st)) (refused 11)) ≡ refused 10 → f ≡ true
    go true l q = refl
    go false true q = never (cc)
    go false false q = let z : ◌≡◌ {A = ℕ} 11 10 = cc in absurd (omega arith)

core_ten : (c : Context) (r : Request) (st : State) → core c r st ≡ refused 10 → full r st ≡ true
unfolding core
core_ten c r st e = go (is_empty r.name) e
  where
    go : (b : Bool) → cond b (act r st (result c r st) (planned r st).change) (refused 9) ≡ refused 10 → full r st ≡ true
    go true q = act_ten r st (result c r st) (planned r st).change q
    go false q = let z : ◌≡◌ {A = ℕ} 9 10 = cc in absurd (omega arith)

module _ (c : Context) (r : Request) (st : State) where
  -- what a result shows stands at the present second
  pub shows-standing : (a : Result) (t : State) → step c r st ≡ answered a t → ShowsEach (Stands (present c st)) a.shown
  unfolding arrive noted swept
  shows-standing a t e =
      rw (did c r st a t e).same (result-each (Stands (present c st)) c r (arrive c r st) (standing_stand (present c st) st.entries))

  in-time : (o : Outcome) → step c r st ≡ o → InTime o
  in-time (refused k) e = tt
  in-time (answered a t) e = rw (latest-step c r st a t e) (shows-standing a t e)

  -- "The present second": behind a step that is answered it is the latest one, and a step that is refused leaves the latest one
  latest-after : (o : Outcome) → step c r st ≡ o → (state_after st o).history.latest ≡ greatest st.history.latest ((c, r) ∷ []) (record { request = r; outcome = o; state = state_after st o } ∷ [])
  unfolding greatest
  latest-after (refused k) e = refl
  latest-after (answered a t) e = latest-step c r st a t e

  pub rises-after : (o : Outcome) → step c r st ≡ o → st.history.latest ≤ (state_after st o).history.latest
  rises-after (refused k) e = le_refl _
  rises-after (answered a t) e = rw (latest-step c r st a t e) (le-max_right _ _)

  -- "Refusal 10 counts only entries that still stand."
  pub ten_stands : step c r st ≡ refused 10 → most_keys ≤ length (standing (present c st) st.entries)
  unfolding step arrive noted swept full
  ten_stands e = let f = core_ten c r (arrive c r st) e in leb-true most_keys _ (both (is_none (held r (arrive c r st))) _ f).1

  -- "counts as absent for every operation, listing and statistic": to drop what has expired before a call changes no outcome
  pub expired-absent : step c r (swept c st) ≡ step c r st
  unfolding step arrive noted swept
  expired-absent = rw (standing-all (present c st) (standing (present c st) st.entries) (standing_stand (present c st) st.entries))

  -- every listing and statistic is of what stands
  pub lists-standing : listed_by r (arrive c r st) ≡ lowest (wanted r) (by_version (standing (present c st) st.entries))
  unfolding listed_by arrive noted swept
  lists-standing = refl

  pub counts-standing : get_or (statistics c (arrive c r st)) 1 0 ≡ length (standing (present c st) st.entries)
  unfolding statistics arrive noted swept
  counts-standing = refl

-- "Deadlines are reckoned from it": what a step stores has the deadline from the present second
pub stores-from : (c : Context) (r : Request) (st : State) (a : Result) (t : State) → step c r st ≡ answered a t → (planned r (arrive c r st)).change ≡ store
    → held r t ≡ some (entry (present c st) r (suc st.last))
unfolding changed stored held entry arrive noted swept
stores-from c r st a t e q =
    rw (
      (did c r st a t e).state,
      q,
      find-stored r.args.key (standing (present c st) st.entries) (entry (present c st) r (suc st.last)),
      same_refl r.args.key,
    )

-- no reply of a run shows an entry at or behind its deadline
pub all_in_time : (xs : List (Context × Request)) (st : State) → AllInTime (run xs st)
unfolding run
all_in_time [] st = tt
all_in_time (x ∷ xs) st =
    let o = step x.0 x.1 st in
    (in-time x.0 x.1 st o refl, all_in_time xs (state_after st o))

-- the present second never falls on a run
pub rises : (xs : List (Context × Request)) (st : State) → Rises st.history.latest (run xs st)
unfolding run
rises [] st = tt
rises (x ∷ xs) st =
    let o = step x.0 x.1 st in
    (rises-after x.0 x.1 st o refl, rises xs (state_after st o))

-- "the greatest among this call's and those of earlier calls served": what is left by a run
pub latest-run : (xs : List (Context × Request)) (st : State) → (ends st (run xs st)).history.latest ≡ greatest st.history.latest xs (run xs st)
unfolding run ends greatest
latest-run [] st = refl
latest-run (x ∷ xs) st =
    let o = step x.0 x.1 st in
    latest-run xs (state_after st o) ∙ ap (λ (n : ℕ). greatest n xs (run xs (state_after st o))) (latest-after x.0 x.1 st o refl)

-- by whether a call was served before: nothing behind the first one moves it
first-none : (h : Option ℕ) → h ≡ first_served h [] []
unfolding first_served
first-none none = refl
first-none (some n) = refl

first-after : (h : Option ℕ) (c : Context) (r : Request) (st : State) (o : Outcome) → st.history.first ≡ h → step c r st ≡ o
    → (xs : List (Context × Request)) (ts : List Taken)
    → first_served (state_after st o).history.first xs ts ≡ first_served h ((c, r) ∷ xs) (record { request = r; outcome = o; state = state_after st o } ∷ ts)
unfolding first_served
first-after none c r st (refused k) q e xs ts = rw q
first-after none c r st (answered a t) q e xs ts = rw (first_step c r st a t e, q)
first-after (some n) c r st (refused k) q e xs ts = rw q
first-after (some n) c r st (answered a t) q e xs ts = rw (first_step c r st a t e, q)

-- "that of the first call served": what is left by a run
pub first_run : (xs : List (Context × Request)) (st : State) → (ends st (run xs st)).history.first ≡ first_served st.history.first xs (run xs st)
unfolding run ends
first_run [] st = first-none st.history.first
first_run (x ∷ xs) st =
    let o = step x.0 x.1 st in
    first_run xs (state_after st o) ∙ first-after st.history.first x.0 x.1 st o refl refl xs (run xs (state_after st o))
