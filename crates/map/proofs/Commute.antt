-- A step looks at no value: it commutes with another value for the entry of a version already issued; and of the value of the request
-- itself it only makes the value of the entry that it writes. Assumes nothing.
use mathlib.Core.Path.{◌≡◌, refl, sym, ap, ◌∙◌}
use mathlib.Core.List.{List}
use mathlib.Core.Option.{Option, none, some}
use mathlib.Core.Logic.{◌⊎◌, inl, inr}
use Prim.Native.Nat.{ℕ, suc, ◌≤◌}
use native.Mathlib.Omega.{arith}
use lib.Dec.{eqb, ltb}
use borrow.Author.Tests.{ne_eqb, eq-eqb}
use Rattle.message.specs.Arguments.{is_empty}
use Rattle.message.specs.Request.{Request}
use Rattle.message.specs.Value.{with_value}
use Rattle.message.specs.declared.Form.{Form}
use Rattle.message.specs.declared.Form.TheVariants as form
use Rattle.map.specs.State.{Entry, State, without}
use Rattle.map.specs.Deadline.{deadline, expired}
use Rattle.map.specs.Plan.{Change, keep, store, drop, empty}
use Rattle.map.specs.Shown.{shows, listed_by}
use Rattle.map.specs.Step.{Context, Result, answered, last_version, entry, stored, dropped, emptied, is_none, names, held, version_of, full, planned, statistics, status_of, result, act, core, present, swept, noted, arrive, step}
use Rattle.map.specs.Table.{Each}
use Rattle.map.specs.Revalue.{entries_with, state_with, found_with, shown_with, result_with, outcome_with, outcome_state}
use Rattle.map.proofs.Each.{each-without}
use Rattle.map.proofs.Answered.{changed, did}
use Rattle.map.proofs.ListedLaws.{listed_with}
use Rattle.map.proofs.Finding.{cond_of, find_with, without_with, length_with, append_with, fresh}

module _ (v : ℕ) (w : List ℕ) where
  version_with : (f : Option Entry) → version_of (found_with v w f) ≡ version_of f
  version_with none = refl
  version_with (some e) = refl

  shows_with : (g : Form) (ns : List ℕ) (es : List Entry) (f : Option Entry) → shows g ns (entries_with v w es) (found_with v w f) ≡ shown_with v w (shows g ns es f)
  unfolding shows shown_with
  shows_with form.Nothing ns es f = refl
  shows_with (form.Value lim) ns es none = refl
  shows_with (form.Value lim) ns es (some e) = rw (cond_of (shown_with v w) (eqb lim 0))
  shows_with form.Versioned ns es none = refl
  shows_with form.Versioned ns es (some e) = refl
  shows_with form.Statistics ns es f = refl
  shows_with form.Text ns es f = refl
  shows_with (form.Listed values) ns es f = refl

  none_with : (f : Option Entry) → is_none (found_with v w f) ≡ is_none f
  none_with none = refl
  none_with (some e) = refl

  module _ (c : Context) (r : Request) (st : State) where
    held_with : held r (state_with v w st) ≡ found_with v w (held r st)
    unfolding held state_with
    held_with = find_with v w (names r) (λ e. refl) st.entries

    planned_with : planned r (state_with v w st) ≡ planned r st
    unfolding planned
    planned_with = rw (held_with, version_with)

    full_with : full r (state_with v w st) ≡ full r st
    unfolding full state_with
    full_with = rw (held_with, none_with, length_with)

    statistics_with : statistics c (state_with v w st) ≡ statistics c st
    unfolding statistics state_with
    statistics_with = rw length_with

    result-with : result c r (state_with v w st) ≡ result_with v w (result c r st)
    unfolding result status_of result_with
    result-with = rw (planned_with, held_with, none_with, statistics_with, listed_with r v w st, shows_with)

    drops : dropped r (state_with v w st) ≡ state_with v w (dropped r st)
    unfolding dropped state_with
    drops = rw (without_with v w (names r) (λ e. refl) st.entries)

    stored_with : v ≤ st.last → stored r (state_with v w st) ≡ state_with v w (stored r st)
    unfolding stored state_with entries_with entry
    stored_with h =
        rw (without_with v w (names r) (λ e. refl) st.entries, append_with, ne_eqb (suc st.last) v (λ q. omega arith))

    act_with : v ≤ st.last → (a : Result) (d : Change) → act r (state_with v w st) (result_with v w a) d ≡ outcome_with v w (act r st a d)
    unfolding act outcome_with emptied state_with entries_with
    act_with h a keep = refl
    act_with h a drop = ap (answered (result_with v w a)) drops
    act_with h a empty = refl
    act_with h a store =
        rw (full_with, stored_with h, cond_of (outcome_with v w) (full r st), cond_of (outcome_with v w) (ltb st.last last_version))

    core_with : v ≤ st.last → core c r (state_with v w st) ≡ outcome_with v w (core c r st)
    unfolding core outcome_with
    core_with h =
        rw (planned_with, result-with, act_with h (result c r st) (planned r st).change, cond_of (outcome_with v w) (is_empty r.name))

    swept_with : swept c (state_with v w st) ≡ state_with v w (swept c st)
    unfolding swept state_with expired
    swept_with = rw (without_with v w (expired (present c st)) (λ e. refl) st.entries)

    noted_with : noted c r (state_with v w st) ≡ state_with v w (noted c r st)
    unfolding noted state_with
    noted_with = rw (held_with, none_with)

  arrive_with : (c : Context) (r : Request) (st : State) → arrive c r (state_with v w st) ≡ state_with v w (arrive c r st)
  unfolding arrive
  arrive_with c r st = rw (swept_with c r st) (noted_with c r (swept c st))

  -- a step commutes with another value for the entry of version v, if v was issued before it
  pub step_with : (c : Context) (r : Request) (st : State) → v ≤ st.last → step c r (state_with v w st) ≡ outcome_with v w (step c r st)
  unfolding step arrive noted swept
  step_with c r st h = rw (arrive_with c r st) (core_with c r (arrive c r st) h)

-- the value of the request itself: the two outcomes differ in that of the entry of the next version
module _ (w : List ℕ) (c : Context) (r : Request) (st : State) (h : Each (λ e. e.version ≤ st.last) st.entries) where
  none-there : entries_with (suc st.last) w st.entries ≡ st.entries
  none-there = fresh (suc st.last) w st.last st.entries h (omega arith)

  rest-there : entries_with (suc st.last) w (without (names r) st.entries) ≡ without (names r) st.entries
  rest-there = sym (without_with (suc st.last) w (names r) (λ e. refl) st.entries) ∙ rw none-there

  stores-value : stored (with_value w r) st ≡ state_with (suc st.last) w (stored r st)
  unfolding stored state_with entries_with entry deadline
  stores-value = rw (append_with, rest-there, eq-eqb (suc st.last) (suc st.last) refl)

  act-value : (a : Result) (d : Change) → act (with_value w r) st a d ≡ outcome_state (suc st.last) w (act r st a d)
  unfolding act outcome_state state_with entries_with dropped emptied full held
  act-value a keep = rw none-there
  act-value a drop = rw rest-there
  act-value a empty = refl
  act-value a store =
      rw (
        stores-value,
        cond_of (outcome_state (suc st.last) w) (full r st),
        cond_of (outcome_state (suc st.last) w) (ltb st.last last_version),
      )

  core-value : core c (with_value w r) st ≡ outcome_state (suc st.last) w (core c r st)
  unfolding core outcome_state planned result status_of held listed_by
  core-value =
      rw (act-value (result c r st) (planned r st).change, cond_of (outcome_state (suc st.last) w) (is_empty r.name))

pub step_value : (w : List ℕ) (c : Context) (r : Request) (st : State) → Each (λ e. e.version ≤ st.last) st.entries
    → step c (with_value w r) st ≡ outcome_state (suc st.last) w (step c r st)
unfolding step arrive noted swept held
step_value w c r st h = core-value w c r (arrive c r st) (each-without (expired (present c st)) (λ e. e.version ≤ st.last) st.entries h)

-- the last version issued behind a change: only what is stored gets one
abbrev last_behind : Change → ℕ → ℕ
last_behind keep n = n
last_behind store n = suc n
last_behind drop n = n
last_behind empty n = n

last-changed : (r : Request) (st : State) (d : Change) → (changed r st d).last ≡ last_behind d st.last
unfolding changed stored dropped emptied
last-changed r st keep = refl
last-changed r st store = refl
last-changed r st drop = refl
last-changed r st empty = refl

last_step : (n : ℕ) (d : Change) → (last_behind d n ≡ n) ⊎ (last_behind d n ≡ suc n)
last_step n keep = inl refl
last_step n store = inr refl
last_step n drop = inl refl
last_step n empty = inl refl

module _ (c : Context) (r : Request) (st : State) (a : Result) (t : State) (e : step c r st ≡ answered a t) where
  -- a step that is answered issues a version if it stores, and none if it removes, clears or keeps
  pub issues-by : t.last ≡ last_behind (planned r (arrive c r st)).change st.last
  unfolding arrive noted swept
  issues-by = rw (did c r st a t e).state (last-changed r (arrive c r st) (planned r (arrive c r st)).change)

  -- so it issues none, or the next one
  pub issues : (t.last ≡ st.last) ⊎ (t.last ≡ suc st.last)
  issues = rw issues-by (last_step st.last (planned r (arrive c r st)).change)
