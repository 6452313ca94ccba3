-- `server::act::perform` meets its contract: a step of the map, by what is planned. Assumes nothing.
use mathlib.Core.Path.{◌≡◌, sym, ap, subst, ◌∙◌}
use mathlib.Core.List.{List}
use mathlib.Core.Bool.{true}
use mathlib.Core.Option.{Option, none, some}
use Prim.Native.Nat.{ℕ, ◌≤◌, ◌<◌}
use native.Mathlib.Omega.{arith}
use lib.ListN.{length}
use borrow.Author.Tests.{eq-eqb, ne_eqb}
use Rattle.std.specs.Prelude as std
use Rattle.wire.specs.Codec.{Valid}
use Rattle.message.specs.Arguments.{is_empty}
use Rattle.message.specs.Request.{Request, request, request_in}
use Rattle.message.proofs.Sizes.{request-small}
use Rattle.map.specs.Plan.{Plan, plan}
use Rattle.map.specs.Step as map
use Rattle.map.specs.State.{State, find, has_key}
use Rattle.map.specs.Table.{IsTable}
use Rattle.map.proofs.Keeps.{keeps-table}
use Rattle.table.specs.Memory.{state_of, Sound}
use Rattle.service.proofs.Calls.{room-least}
use Rattle.plan.specs.declared.Held.{Held}
use Rattle.plan.specs.Plan.{as_judged, held_version, HoldsAt, judged_at, refusal_of}
use Rattle.plan.proofs.PlanLaws.{version-held}
use Rattle.server.specs.CallDone.{as_context}
use Rattle.server.specs.Act.{after, Planned, Agreed, Arrives}
use Rattle.server.proofs.StepLaws.{does-refused, does-answered, held-come, judged-come, step-named, step-refused, step-made}
use Rattle.server.proofs.act.perform.Goals as goal

module _ (k : map.Context) (q : Request) (t : List ℕ) where
  abbrev come : State
  come = map.arrive k q (state_of t)

  -- what the code has seen of a call: what is held of what stands, what is planned, and whether it is refused
  record Seen (x : std.Option Held) (p : Plan) (j : Option ℕ) : Type 0 where
    sound : Sound t
    holds : HoldsAt (map.present k (state_of t)) t q.args.key x
    plan : p ≡ plan q.op q.args.entry_version (held_version x)
    judged : j ≡ refusal_of (judged_at (map.present k (state_of t)) t) (held_version x) p.change
    unnamed : is_empty q.name ≡ true

  seen : {x : std.Option Held} {p : Plan} {j : Option ℕ} {key name : List ℕ} {n : ℕ} → Sound t → key ≡ q.args.key → n ≡ map.present k (state_of t) → HoldsAt n t key x
      → p ≡ plan q.op q.args.entry_version (held_version x) → j ≡ refusal_of (judged_at n t) (held_version x) p.change → name ≡ q.name → length name ≡ 0 → Seen x p j
  seen {x = x} {p = p} {j = j} {key = key} {name = name} s e f h d r u z =
      record {
        sound = s;
        holds = subst (λ y. HoldsAt (map.present k (state_of t)) t y x) e (subst (λ m. HoldsAt m t key x) f h);
        plan = d;
        judged = subst (λ m. j ≡ refusal_of (judged_at m t) (held_version x) p.change) f r;
        unnamed = rw (← u) (eq-eqb (length name) 0 z);
      }

  module _ {x : std.Option Held} {p : Plan} {j : Option ℕ} (c : Seen x p j) where
    same : held_version x ≡ map.version_of (map.held q come)
    same = held-come k q _ c.sound x c.holds

    planned : map.planned q come ≡ p
    unfolding map.planned
    planned = sym (c.plan ∙ rw same)

    judges : j ≡ refusal_of come (held_version x) p.change
    judges = c.judged ∙ judged-come k q t c.sound (held_version x) p.change

    refused : (i : ℕ) → j ≡ some i → (map.step k q (state_of t) ≡ map.refused i) × ((1 ≤ i) × (i ≤ 11))
    refused i e = step-refused k _ _ _ same p.change c.unnamed (rw planned) i (sym judges ∙ e)

    -- the call is not refused: the step, and what the code has of it on the table behind `arrive`
    module _ (f : j ≡ none) (v : Valid request q) (s : k.second < 0x1_0000_0000) where
      free : refusal_of come (held_version x) p.change ≡ none
      free = sym judges ∙ f

      made : map.step k q (state_of t) ≡ map.answered (map.result k q come) (after q come p.change)
      made = step-made k _ _ _ same p.change c.unnamed (rw planned) free

      fits : IsTable (after q come p.change)
      fits = keeps-table k q (state_of t) c.sound.table _ _ made v s

      module _ {u : List ℕ} {y : std.Option Held} (w : Arrives t q k u y) where
        same_on : held_version y ≡ held_version x
        unfolding map.held
        same_on =
            version-held u q.args.key y w.holds
            ∙ ap (λ (st : State). map.version_of (find (has_key q.args.key) st.entries)) w.table.0
            ∙ sym same

        given : Planned u q y p.status
        given = record { sound = w.table.1; valid = v; holds = w.holds; status = rw (w.table.0, planned) }

        agreed : Agreed u q y p.change
        agreed = record { sound = w.table.1; valid = v; holds = w.holds; free = rw (w.table.0, same_on) free; left = rw w.table.0 fits }

pub refuse-requires-clause-room_in_bounds : goal.refuse-requires-clause-room_in_bounds
refuse-requires-clause-room_in_bounds c = omega (arith, c.requires.room_in_bounds, room-least c.args.r.head.op)

pub refuse-requires-clause-id_bound : goal.refuse-requires-clause-id_bound
refuse-requires-clause-id_bound c = (request-small (request_in c.args.input.now c.args.r) c.requires.valid).id

pub returns-then-name_in-ne0 : goal.returns-then-name_in-ne0
returns-then-name_in-ne0 c =
    let q = request_in c.args.input.now c.args.r in
    does-refused q (step-named _ _ _ (rw (← c.name_in.ensures) (ne_eqb (length c.name_in.result.now) 0 c.if-name_in-ne0.true))) c.refuse.ensures

pub refuse-requires-in-Err-clause-room_in_bounds : goal.refuse-requires-in-Err-clause-room_in_bounds
refuse-requires-in-Err-clause-room_in_bounds c = omega (arith, c.requires.room_in_bounds, room-least c.args.r.head.op)

pub refuse-requires-in-Err-clause-id_bound : goal.refuse-requires-in-Err-clause-id_bound
refuse-requires-in-Err-clause-id_bound c = (request-small (request_in c.args.input.now c.args.r) c.requires.valid).id

pub refuse-requires-in-Err-clause-refusal_bound : goal.refuse-requires-in-Err-clause-refusal_bound
refuse-requires-in-Err-clause-refusal_bound c =
    let q = request_in c.args.input.now c.args.r in
    let e = seen (as_context c.args.context) q c.args.t.now c.requires.sound c.key_in-key.ensures c.present-present.ensures c.held_in-held.ensures c.plan_of-p.ensures c.refusal_of.ensures c.name_in.ensures c.if-name_in-ne0.false in
    (refused _ _ _ e _ (ap as_judged c.in-Err.is)).1.1

pub returns-in-Err : goal.returns-in-Err
returns-in-Err c =
    let q = request_in c.args.input.now c.args.r in
    let e = seen (as_context c.args.context) q c.args.t.now c.requires.sound c.key_in-key.ensures c.present-present.ensures c.held_in-held.ensures c.plan_of-p.ensures c.refusal_of.ensures c.name_in.ensures c.if-name_in-ne0.false in
    does-refused q (refused _ _ _ e _ (ap as_judged c.in-Err.is)).0 c.refuse-in-Err.ensures

pub change-requires : goal.change-requires
change-requires c =
    let q = request_in c.args.input.now c.args.r in
    let e = seen (as_context c.args.context) q c.args.t.now c.requires.sound c.key_in-key.ensures c.present-present.ensures c.held_in-held.ensures c.plan_of-p.ensures c.refusal_of.ensures c.name_in.ensures c.if-name_in-ne0.false in
    let w = c.arrive-held.ensures q.name q.args.key q.args.value c.key_in-key.ensures e.sound e.holds in
    agreed _ _ _ e (ap as_judged c.in_default.is) c.requires.valid c.args.context.admissible w

pub returns : goal.returns
returns c =
    let q = request_in c.args.input.now c.args.r in
    let e = seen (as_context c.args.context) q c.args.t.now c.requires.sound c.key_in-key.ensures c.present-present.ensures c.held_in-held.ensures c.plan_of-p.ensures c.refusal_of.ensures c.name_in.ensures c.if-name_in-ne0.false in
    let w = c.arrive-held.ensures q.name q.args.key q.args.value c.key_in-key.ensures e.sound e.holds in
    let f = ap as_judged c.in_default.is in
    let r = c.respond-a.ensures q.name q.args.key q.args.value (given _ _ _ e f c.requires.valid c.args.context.admissible w) in
    does-answered q (made _ _ _ e f c.requires.valid c.args.context.admissible) (fits _ _ _ e f c.requires.valid c.args.context.admissible) (rw w.table.0 at r)
    (rw w.table.0 at c.change.ensures)
