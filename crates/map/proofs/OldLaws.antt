-- The laws of old values by version and flag (specs/OldValue.antt). Assumes nothing.
use mathlib.Core.Path.{◌≡◌, refl, ap, ◌∙◌}
use mathlib.Core.List.{List}
use mathlib.Core.Bool.{Bool, true, false, cond, not, ◌&&◌}
use mathlib.Core.Option.{Option, none, some}
use Prim.Native.Nat.{ℕ, suc, ◌%◌, ◌/◌, ◌≤◌}
use native.Mathlib.Omega.{arith}
use lib.Dec.{eqb, lit≤}
use Rattle.wire.proofs.Laws.{never, both}
use Rattle.wire.proofs.Basics.{pick}
use Rattle.message.specs.declared.Operation.{Operation}
use Rattle.message.specs.declared.Operation.TheVariants.{Put, Get, PutIfAbsent, Replace, ReplaceIfUnmodified, Remove, RemoveIfUnmodified, ContainsKey, GetWithVersion, Clear, Stats, Ping, BulkGet, BulkGetKeys}
use Rattle.message.specs.Arguments.{is_empty}
use Rattle.message.specs.Request.{Request}
use Rattle.message.specs.ReplyTable as m
use Rattle.message.specs.ReplyTable.{Body, table, body_at, allowed, has_old, status_with_old, reply_status}
use Rattle.message.specs.Payload.{form_of}
use Rattle.message.proofs.Editions.{old_statuses_is}
use Rattle.map.specs.State.{Entry, State}
use Rattle.map.specs.Deadline.{deadline}
use Rattle.map.specs.Plan.{Change, keep, store, drop, empty, Plan, plans, plan}
use Rattle.map.specs.Shown.{shows, listed_by}
use Rattle.map.specs.Step.{Context, Result, Outcome, refused, answered, wants_old, with_old, is_none, full, held, version_of, planned, statistics, status_of, result, swept, noted, arrive, entry, stored, dropped, act, core, step}
use Rattle.map.specs.OldValue.{held_then, planned_of, old_shown, may_follow, early_flags}
use Rattle.map.proofs.Answered.{did}

-- the row of a status by which an old value may follow: the value held before, or nothing
abbrev Row : Operation → Option Entry → ℕ → Type 0
Row o f s = body_at (reply_status true o (not (is_none f)) s) (table true o) ≡ some (cond (is_none f) m.nothing m.value)

old_row : (o : Operation) (x : ℕ) (f : Option Entry) → has_old o ≡ true → Row o f (plan o x (version_of f)).status
unfolding plan plans body_at reply_status
old_row Put x none h = refl
old_row Put x (some e) h = refl
old_row PutIfAbsent x none h = refl
old_row PutIfAbsent x (some e) h = refl
old_row Replace x none h = refl
old_row Replace x (some e) h = refl
old_row ReplaceIfUnmodified x none h = refl
old_row ReplaceIfUnmodified x (some e) h = pick (λ (p : Plan). Row ReplaceIfUnmodified (some e) p.status) (eqb e.version x) (λ q. refl) refl
old_row Remove x none h = refl
old_row Remove x (some e) h = refl
old_row RemoveIfUnmodified x none h = refl
old_row RemoveIfUnmodified x (some e) h = pick (λ (p : Plan). Row RemoveIfUnmodified (some e) p.status) (eqb e.version x) (λ q. refl) refl
old_row Get x f h = never (cc)
old_row GetWithVersion x f h = never (cc)
old_row ContainsKey x f h = never (cc)
old_row Clear x f h = never (cc)
old_row Stats x f h = never (cc)
old_row Ping x f h = never (cc)
old_row BulkGet x f h = never (cc)
old_row BulkGetKeys x f h = never (cc)

shows-row : (t : Bool) {b : Option Body} (ns : List ℕ) (es : List Entry) (f : Option Entry) → b ≡ some (cond (is_none f) m.nothing m.value)
    → shows (form_of t (allowed b)) ns es f ≡ old_shown f
unfolding shows
shows-row t ns es none q = rw q
shows-row t ns es (some e) q = rw q

-- the statuses planned are 00, 01 and 02
plan-small : (o : Operation) (x : ℕ) (h : Option ℕ) → (plan o x h).status ≤ 0x02
unfolding plan plans
plan-small Put x h = lit≤ tt
plan-small PutIfAbsent x none = lit≤ tt
plan-small PutIfAbsent x (some w) = lit≤ tt
plan-small Replace x none = lit≤ tt
plan-small Replace x (some w) = lit≤ tt
plan-small ReplaceIfUnmodified x none = lit≤ tt
plan-small ReplaceIfUnmodified x (some w) = pick (λ (p : Plan). p.status ≤ 0x02) (eqb w x) (λ q. lit≤ tt) (lit≤ tt)
plan-small Remove x none = lit≤ tt
plan-small Remove x (some w) = lit≤ tt
plan-small RemoveIfUnmodified x none = lit≤ tt
plan-small RemoveIfUnmodified x (some w) = pick (λ (p : Plan). p.status ≤ 0x02) (eqb w x) (λ q. lit≤ tt) (lit≤ tt)
plan-small Get x none = lit≤ tt
plan-small Get x (some w) = lit≤ tt
plan-small GetWithVersion x none = lit≤ tt
plan-small GetWithVersion x (some w) = lit≤ tt
plan-small ContainsKey x none = lit≤ tt
plan-small ContainsKey x (some w) = lit≤ tt
plan-small Clear x h = lit≤ tt
plan-small Stats x h = lit≤ tt
plan-small Ping x h = lit≤ tt
plan-small BulkGet x h = lit≤ tt
plan-small BulkGetKeys x h = lit≤ tt

-- without the statuses for it, and at an operation without an old value, the status is the one planned
plain-status : (o : Operation) (t d : Bool) (s : ℕ) → (has_old o && t) ≡ false → reply_status t o d s ≡ s
unfolding reply_status
plain-status o t d s h = go (has_old o) t h
  where
    go : (a b : Bool) → (a && b) ≡ false → cond (a && (b && d)) (status_with_old s) s ≡ s
    go true true q = never (cc)
    go true false q = refl
    go false b q = refl

-- the status and what is shown, of a step that is answered
module _ (c : Context) (r : Request) (st : State) (a : Result) (t : State) (e : step c r st ≡ answered a t) where
  of-result : a ≡ result c r (arrive c r st)
  of-result = (did c r st a t e).same

  may : with_old r ≡ (eqb r.version 20 && wants_old r)
  may = rw (old_statuses_is r.version)

  pub status-is : a.status ≡ reply_status (with_old r) r.op (not (is_none (held_then c r st))) (planned_of r (held_then c r st))
  unfolding result status_of planned held arrive noted swept
  status-is = ap (λ (b : Result). b.status) of-result

  pub follows-status : may_follow r ≡ true → a.status ≡ cond (is_none (held_then c r st)) (planned_of r (held_then c r st)) (status_with_old (planned_of r (held_then c r st)))
  unfolding reply_status
  follows-status h =
      let w = both (has_old r.op) (eqb r.version 20 && wants_old r) h in
      status-is ∙ rw (w.0, may ∙ w.1) (go (is_none (held_then c r st)) (planned_of r (held_then c r st)))
    where
      go : (b : Bool) (s : ℕ) → cond (not b) (status_with_old s) s ≡ cond b s (status_with_old s)
      go true s = refl
      go false s = refl

  pub follows-shown : may_follow r ≡ true → a.shown ≡ old_shown (held_then c r st)
  unfolding result status_of planned held arrive noted swept
  follows-shown h =
      let w = both (has_old r.op) (eqb r.version 20 && wants_old r) h in
      ap (λ (b : Result). b.shown) of-result
      ∙ rw (may ∙ w.1)
      (shows-row (wants_old r) (statistics c (arrive c r st)) (listed_by r (arrive c r st)) (held_then c r st) (old_row r.op r.args.entry_version (held_then c r st) w.0))

  pub neither : may_follow r ≡ false → a.status ≤ 0x02
  neither h =
      let q = status-is ∙ plain-status r.op (with_old r) (not (is_none (held_then c r st))) (planned_of r (held_then c r st)) (ap (λ (b : Bool). has_old r.op && b) may ∙ h) in
      omega (arith, q, plan-small r.op r.args.entry_version (version_of (held_then c r st)))

-- the flags 0x0001 and 0x0002 are those of the rest by 8
first-flag : (n : ℕ) → n % 8 % 2 ≡ n % 2
first-flag n = omega arith

second-flag : (n : ℕ) → n % 8 / 2 % 2 ≡ n / 2 % 2
second-flag n = omega arith

idle-entry : (now : ℕ) (r : Request) (v : ℕ) → entry now (early_flags r) v ≡ entry now r v
unfolding entry deadline
idle-entry now r v = rw (second-flag r.flags)

idle-result : (c : Context) (r : Request) (st : State) → result c (early_flags r) st ≡ result c r st
unfolding result status_of planned held listed_by
idle-result c r st = rw (first-flag r.flags)

idle-act : (r : Request) (st : State) (a : Result) (d : Change) → act (early_flags r) st a d ≡ act r st a d
unfolding act dropped stored full held
idle-act r st a keep = refl
idle-act r st a drop = refl
idle-act r st a empty = refl
idle-act r st a store = rw (idle-entry st.history.latest r (suc st.last))

pub idle-flags : (c : Context) (r : Request) (st : State) → step c (early_flags r) st ≡ step c r st
unfolding step core arrive noted planned held
idle-flags c r st =
    let x = arrive c r st in
    rw (idle-result c r x) (ap (λ (o : Outcome). cond (is_empty r.name) o (refused 9)) (idle-act r x (result c r x) (planned r x).change))
