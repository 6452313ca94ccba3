-- The call that meets the request itself, at the front of both rows. Assumes that a sound table holds no version above the last issued.
use mathlib.Core.Path.{◌≡◌, refl, sym, ap, subst, subst₂, ◌∙◌}
use mathlib.Core.List.{List, [], ◌++◌}
use mathlib.Core.Bool.{Bool, true, false, cond}
use mathlib.Core.Option.{none}
use mathlib.Core.Logic.{⊎_elim}
use Prim.Native.Nat.{ℕ, suc}
use native.Mathlib.Omega.{arith}
use lib.ListN.{length}
use lib.Dec.{ltb}
use borrow.Author.Tests.{le-ltb, lt-ltb}
use Rattle.wire.specs.Codec.{Valid}
use Rattle.message.specs.Request.{Request, request}
use Rattle.message.specs.Value.{with_value}
use Rattle.message.proofs.Value.{value_length}
use Rattle.map.specs.State.{State}
use Rattle.map.specs.Step as map-step
use Rattle.map.specs.Step.{Context, Outcome, answered, step}
use Rattle.map.specs.Revalue.{state_with, entries_with, outcome_state}
use Rattle.map.specs.Reply.{pieces}
use Rattle.map.proofs.Finding.{fresh}
use Rattle.map.proofs.Commute.{step_value, issues}
use Rattle.table.specs.Memory.{state_of}
use Rattle.service.specs.Serve.{Answer, Effect, effect, refused, unchanged, on_step, room, room_of}
use Rattle.service.specs.Stream.{Call, Done, Does}
use Rattle.service.specs.Demand3.{ahead, wrote, gone, passes}
use Rattle.service.proofs.Decides.{is_sound}
use Rattle.service.proofs.Sounds.{is-sound, both-sound, bounded, effect_in}
use Rattle.service.proofs.Calls.{on_whole, serve-at}
use Rattle.service.proofs.Like.{answered-state, Like, Same, same_next}
use Rattle.service.proofs.After.{Wrote}

not_less : (a b : ℕ) → b ≡ a → passes 0 a b ≡ gone
not_less a b e = rw (le-ltb a b (omega arith))

less : (a b : ℕ) → b ≡ suc a → passes 0 a b ≡ wrote (suc a)
less a b e = rw (e, lt-ltb a (suc a) (omega arith))

step-taken : (r : Request) (n : ℕ) (o : Outcome) → (on_step r n o).answer.taken ≡ n
unfolding on_step
step-taken r n (map-step.refused k) = refl
step-taken r n (answered a st) = refl

pub whole-taken : (r : Request) (n : ℕ) (o : Outcome) (space : ℕ) → (on_whole space r n o).answer.taken ≡ n
whole-taken r n o space = go (ltb space (room_of r.op))
  where
    go : (x : Bool) → (cond x (effect n (refused 12) [] none) (on_step r n o)).answer.taken ≡ n
    go true = refl
    go false = step-taken r n o

module _ (r : Request) (w : List ℕ) (len : length w ≡ length r.args.value) where
  -- what came of it: it took nothing; it took the request, whose step issued no version; or one
  pub data Own (t : List ℕ) (d d' : Done) : Type 0 where
    idle : d.answer.taken ≡ 0 → Same d.table d'.table → Own t d d'
    past : d.answer.taken ≡ length (request.enc r) → passes 0 (state_of t).last (state_of d.table).last ≡ gone
        → Same d.table d'.table → Own t d d'
    new : d.answer.taken ≡ length (request.enc r) → passes 0 (state_of t).last (state_of d.table).last ≡ wrote (suc (state_of t).last)
        → Wrote r.args.value w len (suc (state_of t).last) d.table d'.table → Own t d d'

  module _ (t t' l l' : List ℕ) (d d' : Done) (g : Same t t') where
    at : (second : Context) (o : Outcome) → step second r (state_of t) ≡ o → outcome_state (suc (state_of t).last) r.args.value o ≡ o
        → Does (on_step r (length (request.enc r)) o) t l d
        → Does (on_step (with_value w r) (length (request.enc r)) (outcome_state (suc (state_of t).last) w o)) t' l' d'
        → Own t d d'
    unfolding on_step outcome_state state_with
    at second (map-step.refused k) e q x y =
        past (ap (λ (f : Answer). f.taken) x.answer) (not_less (state_of t).last (state_of d.table).last (ap (λ (s : List ℕ). (state_of s).last) x.table))
        (same_next t t' none none d.table d'.table g refl x.table y.table)
    at second (answered a s) e q x y = ⊎_elim kept issued (issues second r (state_of t) a s e)
      where
        next : ℕ
        next = suc (state_of t).last

        lasts : (state_of d.table).last ≡ s.last
        lasts = ap (λ (z : State). z.last) x.table.0

        taken : d.answer.taken ≡ length (request.enc r)
        taken = ap (λ (f : Answer). f.taken) x.answer

        kept : s.last ≡ (state_of t).last → Own t d d'
        kept h =
            let f : entries_with next w (state_of d.table).entries ≡ (state_of d.table).entries =
            fresh next w (state_of d.table).last (state_of d.table).entries (bounded d.table x.table.1) (omega (arith, lasts, h)) in
            let k : state_with next w (state_of d.table) ≡ state_of d.table = rw f in
            past taken (not_less (state_of t).last (state_of d.table).last (lasts ∙ h))
            (record { state = y.table.0 ∙ (ap (state_with next w) (sym x.table.0) ∙ k); sounds = both-sound d'.table d.table y.table.1 x.table.1 })

        issued : s.last ≡ next → Own t d d'
        issued h =
            new taken (less (state_of t).last (state_of d.table).last (lasts ∙ h))
            (record {
              sounds = both-sound d'.table d.table y.table.1 x.table.1;
              state = y.table.0 ∙ ap (state_with next w) (sym x.table.0);
              own = ap (state_with next r.args.value) x.table.0 ∙ (answered-state q ∙ sym x.table.0);
              issued = omega (arith, lasts, h);
            })

  -- the two effects
  like-step : (n v : ℕ) (o : Outcome) → Like r.args.value w len (ahead 0) (on_step r n o) (on_step (with_value w r) n (outcome_state v w o))
  unfolding on_step outcome_state pieces
  like-step n v (map-step.refused k) = record { answer = refl; sent = refl; shows = refl }
  like-step n v (answered a s) = record { answer = refl; sent = refl; shows = refl }

  module _ (v : Valid request r) (vw : Valid request (with_value w r)) where
    pub own : (rest t t' : List ℕ) (c c' : Call) (d d' : Done) → Same t t' → c'.context ≡ c.context → length c'.buffer ≡ length c.buffer
        → Does (effect_in (request.enc r ++ rest) t c) t c.buffer d
        → Does (effect_in (request.enc (with_value w r) ++ rest) t' c') t' c'.buffer d'
        → Like r.args.value w len (ahead 0) (effect_in (request.enc r ++ rest) t c) (effect_in (request.enc (with_value w r) ++ rest) t' c')
        × Own t d d'
    unfolding unchanged
    own rest t t' c c' d d' g k l x y =
        let p = serve-at r v rest (is_sound t) (state_of t) c.context (length c.buffer) in
        let q : effect_in (request.enc (with_value w r) ++ rest) t' c'
        ≡ cond (ltb (length c.buffer) room) (unchanged (refused 12)) (cond (is_sound t) (on_whole (length c.buffer) (with_value w r) n o') (unchanged (refused 13))) =
        serve-at (with_value w r) vw rest (is_sound t') (state_of t') c'.context (length c'.buffer) ∙ rw (g.sounds, g.state, k, l, value_length r w v len) in
        let z = go (ltb (length c.buffer) room) (is_sound t) (ltb (length c.buffer) (room_of r.op)) refl (subst (λ (f : Effect). Does f t c.buffer d) p x)
        (subst (λ (f : Effect). Does f t' c'.buffer d') q y) in
        (subst₂ (λ (f f' : Effect). Like r.args.value w len (ahead 0) f f') (sym p) (sym q) z.0, z.1)
      where
        n : ℕ
        n = length (request.enc r)

        o : Outcome
        o = step c.context r (state_of t)

        o' : Outcome
        o' = step c.context (with_value w r) (state_of t)

        short : Effect
        short = effect n (refused 12) [] none

        go : (a b k : Bool) → is_sound t ≡ b
            → Does (cond a (unchanged (refused 12)) (cond b (cond k short (on_step r n o)) (unchanged (refused 13)))) t c.buffer d
            → Does (cond a (unchanged (refused 12)) (cond b (cond k short (on_step (with_value w r) n o')) (unchanged (refused 13)))) t' c'.buffer d'
            → Like r.args.value w len (ahead 0) (cond a (unchanged (refused 12)) (cond b (cond k short (on_step r n o)) (unchanged (refused 13))))
            (cond a (unchanged (refused 12)) (cond b (cond k short (on_step (with_value w r) n o')) (unchanged (refused 13)))) × Own t d d'
        go true b k s x y = (
          record { answer = refl; sent = refl; shows = refl },
          idle (ap (λ (f : Answer). f.taken) x.answer) (same_next t t' none none d.table d'.table g refl x.table y.table),
        )
        go false false k s x y = (
          record { answer = refl; sent = refl; shows = refl },
          idle (ap (λ (f : Answer). f.taken) x.answer) (same_next t t' none none d.table d'.table g refl x.table y.table),
        )
        go false true true s x y = (
          record { answer = refl; sent = refl; shows = refl },
          past (ap (λ (f : Answer). f.taken) x.answer) (not_less (state_of t).last (state_of d.table).last (ap (λ (s : List ℕ). (state_of s).last) x.table))
              (same_next t t' none none d.table d'.table g refl x.table y.table),
        )
        go false true false s x y =
            let next = suc (state_of t).last in
            let h = bounded t (is-sound t s) in
            let j : o' ≡ outcome_state next w o = step_value w c.context r (state_of t) h in (
              subst (λ (f : Outcome). Like r.args.value w len (ahead 0) (on_step r n o) (on_step (with_value w r) n f)) (sym j) (like-step n next o),
              at t t' c.buffer c'.buffer d d' g c.context o refl (sym (step_value r.args.value c.context r (state_of t) h)) x
                  (subst (λ (f : Outcome). Does (on_step (with_value w r) n f) t' c'.buffer d') j y),
            )
