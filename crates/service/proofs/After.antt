-- The calls after the one that served the request: the same bytes follow in both rows. Assumes nothing.
use mathlib.Core.Path.{◌≡◌, refl, sym, ap, subst, ◌∙◌}
use mathlib.Core.List.{List, [], ◌∷◌}
use mathlib.Core.Bool.{Bool, true, false, cond}
use mathlib.Core.Option.{Option, none, some}
use mathlib.Core.Logic.{⊎_elim}
use Prim.Native.Nat.{ℕ, ◌≤◌}
use native.Mathlib.Omega.{arith}
use lib.ListN.{length, drop}
use lib.Dec.{ltb}
use Rattle.wire.specs.Codec as wire
use Rattle.wire.specs.Codec.{Read}
use Rattle.message.specs.Request.{Request, request}
use Rattle.map.specs.State.{State}
use Rattle.map.specs.Step as map-step
use Rattle.map.specs.Step.{Context, Outcome, answered, step}
use Rattle.map.specs.Revalue.{state_with, outcome_with, pieces_with}
use Rattle.map.proofs.Commute.{step_with, issues}
use Rattle.map.proofs.Sent as sent
use Rattle.map.proofs.Sent.{pieces-with}
use Rattle.table.specs.Memory.{state_of}
use Rattle.service.specs.Serve.{Answer, Effect, effect, refused, unchanged, on_step, on_read, serve, room, room_of, within}
use Rattle.service.specs.Stream.{Call, Done, Becomes, Run, run_end}
use Rattle.service.specs.Demand3.{wrote, gone, SameCalls, same_end, same-call, Independent, end, call}
use Rattle.service.proofs.Decides.{is_sound}
use Rattle.service.proofs.Sounds.{tells-sound, both-sound, effect_in, first-of, rest_of}
use Rattle.service.proofs.Like.{answered-answer, answered-state, Like, like-gone, same_answer, alike, Same, same_next}

-- once the request wrote the entry of version v, an effect keeps the difference
module _ (u w : List ℕ) (len : length w ≡ length u) (v : ℕ) where
  abbrev Moved : Option State → Option State → Type 0
  Moved none none = Unit {0}
  Moved none (some t) = ⊥
  Moved (some t) none = ⊥
  Moved (some t) (some t') = (t' ≡ state_with v w t) × (state_with v u t ≡ t) × (v ≤ t.last)

  record Tracks (e e' : Effect) : Type 0 where
    like : Like u w len (wrote v) e e'
    next : Moved e.next e'.next

  track-within : (space : ℕ) (x : Read Request) (e e' : Effect) → Tracks e e' → Tracks (within space x e) (within space x e')
  unfolding within pieces_with
  track-within space (wire.whole r n) e e' t = go (ltb space (room_of r.op))
    where
      go : (k : Bool) → Tracks (cond k (effect n (refused 12) [] none) e) (cond k (effect n (refused 12) [] none) e')
      go true = record { like = record { answer = refl; sent = refl; shows = refl }; next = tt }
      go false = t
  track-within space wire.more e e' t = t
  track-within space (wire.refused k) e e' t = t

  module _ (st : State) (own : state_with v u st ≡ st) (h : v ≤ st.last) where
    track-step : (second : Context) (r : Request) (n : ℕ) → Tracks (on_step r n (step second r st)) (on_step r n (step second r (state_with v w st)))
    unfolding on_step outcome_with pieces_with
    track-step second r n =
        rw (step_with v w second r st h) (go (step second r st) refl (sym (step_with v u second r st h) ∙ ap (step second r) own))
      where
        go : (o : Outcome) → step second r st ≡ o → outcome_with v u o ≡ o → Tracks (on_step r n o) (on_step r n (outcome_with v w o))
        go (map-step.refused k) e q = record { like = record { answer = refl; sent = refl; shows = refl }; next = tt }
        go (answered a t) e q =
            let z = answered-answer q in
            record {
              like = record { answer = refl; sent = pieces-with v u w len r a z; shows = sent.own v u r a z };
              next = (refl, answered-state q, ⊎_elim (λ i. omega arith) (λ i. omega arith) (issues second r st a t e));
            }

    track-read : (input : List ℕ) (second : Context) (x : Read Request) → Tracks (on_read input second st x) (on_read input second (state_with v w st) x)
    unfolding on_read unchanged pieces_with
    track-read input second (wire.whole r n) = track-step second r n
    track-read input second wire.more = record { like = record { answer = refl; sent = refl; shows = refl }; next = tt }
    track-read input second (wire.refused k) = record { like = record { answer = refl; sent = refl; shows = refl }; next = tt }

    track : (input : List ℕ) (ok : Bool) (second : Context) (space : ℕ) → Tracks (serve input ok st second space) (serve input ok (state_with v w st) second space)
    unfolding serve unchanged pieces_with
    track input ok second space = go (ltb space room) ok
      where
        x : Read Request
        x = request.dec input

        go : (a b : Bool) → Tracks (cond a (unchanged (refused 12)) (cond b (within space x (on_read input second st x)) (unchanged (refused 13))))
            (cond a (unchanged (refused 12)) (cond b (within space x (on_read input second (state_with v w st) x)) (unchanged (refused 13))))
        go true b = record { like = record { answer = refl; sent = refl; shows = refl }; next = tt }
        go false true = track-within space x (on_read input second st x) (on_read input second (state_with v w st) x) (track-read input second x)
        go false false = record { like = record { answer = refl; sent = refl; shows = refl }; next = tt }

module _ (u w : List ℕ) (len : length w ≡ length u) where
  -- the request wrote nothing
  pub gone_independent : (input t t' : List ℕ) (cs cs' : List Call) (ds ds' : List Done) → Same t t' → SameCalls cs cs'
      → Run input t cs ds → Run input t' cs' ds' → Independent u w gone input t cs cs' ds ds'
  gone_independent input t t' [] [] [] [] g same_end run_end run_end = end
  gone_independent input t t' (c ∷ cs) (c' ∷ cs') (d ∷ ds) (d' ∷ ds') g (same-call i j m) x y =
      let e = effect_in input t c in
      let e' = effect_in input t' c' in
      let q : e' ≡ e = rw (g.sounds, g.state, i, j) in
      let k = like-gone u w len e e' q in
      let s = same_next t t' e.next e'.next d.table d'.table g (ap (λ (f : Effect). f.next) q) (first-of x).table (first-of y).table in
      call (tells-sound t) (alike u w len gone gone e e' t t' c c' d d' k (first-of x) (first-of y) s.state refl)
      (gone_independent (drop d.answer.taken input) d.table d'.table cs cs' ds ds' s m (rest_of x)
      (subst (λ (a : Answer). Run (drop a.taken input) d'.table cs' ds')
      (same_answer u w len gone e e' t t' c.buffer c'.buffer d d' k (first-of x) (first-of y)) (rest_of y)))
  gone_independent input t t' [] [] [] (d' ∷ ds') g _ x y = elim y [ ]
  gone_independent input t t' [] [] (d ∷ ds) _ g _ x y = elim x [ ]
  gone_independent input t t' [] (c' ∷ cs') ds _ g x10 x y = elim x10 [ ]
  gone_independent input t t' (c ∷ cs) [] ds _ g x9 x y = elim x9 [ ]
  gone_independent input t t' (c ∷ cs) (c' ∷ cs') [] _ g _ x y = elim x [ ]
  gone_independent input t t' (c ∷ cs) (c' ∷ cs') (d ∷ ds) [] g _ x y = elim y [ ]

  module _ (v : ℕ) where
    -- the request wrote the entry of version v
    pub record Wrote (t t' : List ℕ) : Type 0 where
      pub sounds : is_sound t' ≡ is_sound t
      pub state : state_of t' ≡ state_with v w (state_of t)
      pub own : state_with v u (state_of t) ≡ state_of t
      pub issued : v ≤ (state_of t).last

    wrote-next : (t t' s s' : List ℕ) (n n' : Option State) → Wrote t t' → Moved u w len v n n' → Becomes t n s → Becomes t' n' s' → Wrote s s'
    wrote-next t t' s s' none none g z p q = rw (p, q) g
    wrote-next t t' s s' none (some b) g z p q = absurd z
    wrote-next t t' s s' (some a) none g z p q = absurd z
    wrote-next t t' s s' (some a) (some b) g z p q =
        record {
          sounds = both-sound s' s q.1 p.1;
          state = q.0 ∙ (z.0 ∙ ap (state_with v w) (sym p.0));
          own = ap (state_with v u) p.0 ∙ (z.1 ∙ sym p.0);
          issued = rw p.0 z.2;
        }

    wrote_tracks : (input t t' : List ℕ) (c c' : Call) → Wrote t t' → c'.context ≡ c.context → length c'.buffer ≡ length c.buffer
        → Tracks u w len v (effect_in input t c) (effect_in input t' c')
    wrote_tracks input t t' c c' g k l =
        let q : effect_in input t' c' ≡ serve input (is_sound t) (state_with v w (state_of t)) c.context (length c.buffer) = rw (g.sounds, g.state, k, l) in
        subst (λ (f : Effect). Tracks u w len v (effect_in input t c) f) (sym q)
        (track u w len v (state_of t) g.own g.issued input (is_sound t) c.context (length c.buffer))

    pub wrote_independent : (input t t' : List ℕ) (cs cs' : List Call) (ds ds' : List Done) → Wrote t t' → SameCalls cs cs'
        → Run input t cs ds → Run input t' cs' ds' → Independent u w (wrote v) input t cs cs' ds ds'
    wrote_independent input t t' [] [] [] [] g same_end run_end run_end = end
    wrote_independent input t t' (c ∷ cs) (c' ∷ cs') (d ∷ ds) (d' ∷ ds') g (same-call i j m) x y =
        let e = effect_in input t c in
        let e' = effect_in input t' c' in
        let z = wrote_tracks input t t' c c' g i j in
        let s = wrote-next t t' d.table d'.table e.next e'.next g z.next (first-of x).table (first-of y).table in
        call (tells-sound t) (alike u w len (wrote v) (wrote v) e e' t t' c c' d d' z.like (first-of x) (first-of y) s.state s.own)
        (wrote_independent (drop d.answer.taken input) d.table d'.table cs cs' ds ds' s m (rest_of x)
        (subst (λ (a : Answer). Run (drop a.taken input) d'.table cs' ds')
        (same_answer u w len (wrote v) e e' t t' c.buffer c'.buffer d d' z.like (first-of x) (first-of y)) (rest_of y)))
    wrote_independent input t t' [] [] [] (d' ∷ ds') g _ x y = elim y [ ]
    wrote_independent input t t' [] [] (d ∷ ds) _ g _ x y = elim x [ ]
    wrote_independent input t t' [] (c' ∷ cs') ds _ g x10 x y = elim x10 [ ]
    wrote_independent input t t' (c ∷ cs) [] ds _ g x9 x y = elim x9 [ ]
    wrote_independent input t t' (c ∷ cs) (c' ∷ cs') [] _ g _ x y = elim x [ ]
    wrote_independent input t t' (c ∷ cs) (c' ∷ cs') (d ∷ ds) [] g _ x y = elim y [ ]
