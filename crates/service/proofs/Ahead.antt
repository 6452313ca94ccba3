-- The calls up to the request, and then on. Assumes that a sound table holds no version above the last issued.
use mathlib.Core.Path.{◌≡◌, refl, sym, ap, subst, subst₂, ◌∙◌}
use mathlib.Core.List.{List, [], ◌∷◌, ◌++◌, append_assoc}
use mathlib.Core.Bool.{Bool, true, false, cond}
use mathlib.Core.Logic.{◌⊎◌, inl, inr, ⊎_elim}
use Prim.Native.Nat.{ℕ, suc}
use lib.ListN.{length, drop}
use lib.Seq.{drop-append_seam}
use lib.Dec.{eqb, ltb}
use Rattle.wire.specs.Codec.{Valid}
use Rattle.message.specs.Request.{Request, request}
use Rattle.message.specs.Value.{with_value}
use Rattle.message.specs.Written.{written, WellFormed}
use Rattle.message.proofs.Value.{value_length}
use Rattle.map.specs.Step.{Outcome, step}
use Rattle.table.specs.Memory.{state_of}
use Rattle.service.specs.Serve.{Answer, Effect, refused, unchanged, room}
use Rattle.service.specs.Stream.{Call, Done, Does, Run, run_end}
use Rattle.service.specs.Demand3.{Progress, ahead, wrote, gone, passes, after, state_but, SameCalls, same_end, same-call, Alike, progress, Independent, end, call}
use Rattle.service.proofs.Decides.{is_sound}
use Rattle.service.proofs.Sounds.{tells-sound, effect_in, first-of, rest_of}
use Rattle.service.proofs.Calls.{on_whole, serve-at, some-taken}
use Rattle.service.proofs.Like.{Like, like-ahead, same_answer, alike, Same, same_next}
use Rattle.service.proofs.After.{gone_independent, wrote_independent}
use Rattle.service.proofs.Own.{whole-taken, Own, idle, past, new, own}

mark_idle : (n taken l l' : ℕ) → taken ≡ 0 → after (ahead n) taken l l' ≡ ahead n
mark_idle n taken l l' e = rw e

mark_took : (n taken l l' k : ℕ) → taken ≡ k → eqb k 0 ≡ false → after (ahead n) taken l l' ≡ passes n l l'
mark_took n taken l l' k e f = rw (e, f)

drop_idle : (k : ℕ) (input : List ℕ) → k ≡ 0 → drop k input ≡ input
drop_idle k input e = rw e

drop_took : (k : ℕ) (a b : List ℕ) → k ≡ length a → drop k (a ++ b) ≡ b
drop_took k a b e = rw e (drop-append_seam a b)

-- a call on a request that both rows have takes it, or nothing
took : (r : Request) (n : ℕ) (o : Outcome) (space : ℕ) (a b : Bool)
    → ((cond a (unchanged (refused 12)) (cond b (on_whole space r n o) (unchanged (refused 13)))).answer.taken ≡ 0)
    ⊎ ((cond a (unchanged (refused 12)) (cond b (on_whole space r n o) (unchanged (refused 13)))).answer.taken ≡ n)
unfolding unchanged
took r n o space true b = inl refl
took r n o space false true = inr (whole-taken r n o space)
took r n o space false false = inl refl

both : (r : Request) → Valid request r → (a b t t' : List ℕ) (c c' : Call) → Same t t' → c'.context ≡ c.context → length c'.buffer ≡ length c.buffer
    → effect_in (request.enc r ++ b) t' c' ≡ effect_in (request.enc r ++ a) t c
both r v a b t t' c c' g k l =
    serve-at r v b (is_sound t') (state_of t') c'.context (length c'.buffer) ∙ (rw (g.sounds, g.state, k, l)
    (sym (serve-at r v a (is_sound t) (state_of t) c.context (length c.buffer))))

taken : (r : Request) → Valid request r → (a t : List ℕ) (c : Call) (d : Done) → Does (effect_in (request.enc r ++ a) t c) t c.buffer d
    → (d.answer.taken ≡ 0) ⊎ (d.answer.taken ≡ length (request.enc r))
taken r v a t c d x =
    subst (λ (f : Answer). (f.taken ≡ 0) ⊎ (f.taken ≡ length (request.enc r)))
    (sym (x.answer ∙ ap (λ (f : Effect). f.answer) (serve-at r v a (is_sound t) (state_of t) c.context (length c.buffer))))
    (took r (length (request.enc r)) (step c.context r (state_of t)) (length c.buffer) (ltb (length c.buffer) room) (is_sound t))

-- one call, and the rest at the mark and the input that it leaves
finish : {u w : List ℕ} {p : Progress} {input t : List ℕ} {c c' : Call} {cs cs' : List Call} {d d' : Done} {ds ds' : List Done} (q : Progress) (next : List ℕ)
    → progress p t d ≡ q → drop d.answer.taken input ≡ next → Alike u w p q (effect_in input t c) c c' d d'
    → Independent u w q next d.table cs cs' ds ds' → Independent u w p input t (c ∷ cs) (c' ∷ cs') (d ∷ ds) (d' ∷ ds')
finish {u} {w} {p} {input} {t} {c} {c'} {cs} {cs'} {d} {d'} {ds} {ds'} q next e k a b =
    call (tells-sound t) (subst (λ (m : Progress). Alike u w p m (effect_in input t c) c c' d d') (sym e) a)
    (subst₂ (λ (m : Progress) (s : List ℕ). Independent u w m s d.table cs cs' ds ds') (sym e) (sym k) b)

on-run : (input next t : List ℕ) (cs : List Call) (ds : List Done) (k : ℕ) → drop k input ≡ next → Run (drop k input) t cs ds → Run next t cs ds
on-run input next t cs ds k e x = subst (λ (s : List ℕ). Run s t cs ds) e x

module _ (r : Request) (w : List ℕ) (len : length w ≡ length r.args.value) (v : Valid request r)
    (vw : Valid request (with_value w r)) where
  module _ (t t' : List ℕ) (c c' : Call) (cs cs' : List Call) (d d' : Done) (ds ds' : List Done) (k : c'.context ≡ c.context)
      (l : length c'.buffer ≡ length c.buffer) (m : SameCalls cs cs') (g : Same t t') where
    -- the request's own call, given what comes after one that takes nothing
    own_independent : (rest : List ℕ)
        → (Same d.table d'.table → Run (request.enc r ++ rest) d.table cs ds
        → Run (request.enc (with_value w r) ++ rest) d'.table cs' ds'
        → Independent r.args.value w (ahead 0) (request.enc r ++ rest) d.table cs cs' ds ds')
        → Run (request.enc r ++ rest) t (c ∷ cs) (d ∷ ds)
        → Run (request.enc (with_value w r) ++ rest) t' (c' ∷ cs') (d' ∷ ds')
        → Independent r.args.value w (ahead 0) (request.enc r ++ rest) t (c ∷ cs) (c' ∷ cs') (d ∷ ds) (d' ∷ ds')
    own_independent rest ih x y = go z.1
      where
        u : List ℕ
        u = r.args.value

        A : List ℕ
        A = request.enc r

        B : List ℕ
        B = request.enc (with_value w r)

        e : Effect
        e = effect_in (A ++ rest) t c

        e' : Effect
        e' = effect_in (B ++ rest) t' c'

        z : Like u w len (ahead 0) e e' × Own r w len t d d'
        z = own r w len v vw rest t t' c c' d d' g k l (first-of x) (first-of y)

        answers : d'.answer ≡ d.answer
        answers = same_answer u w len (ahead 0) e e' t t' c.buffer c'.buffer d d' z.0 (first-of x) (first-of y)

        same : (k : ℕ) → d.answer.taken ≡ k → d'.answer.taken ≡ k
        same k q = ap (λ (f : Answer). f.taken) answers ∙ q

        x' : d.answer.taken ≡ length A → Run rest d.table cs ds
        x' k = on-run (A ++ rest) rest d.table cs ds d.answer.taken (drop_took d.answer.taken A rest k) (rest_of x)

        y' : d.answer.taken ≡ length A → Run rest d'.table cs' ds'
        y' k =
            on-run (B ++ rest) rest d'.table cs' ds' d'.answer.taken
            (drop_took d'.answer.taken B rest (same (length A) k ∙ sym (value_length r w v len))) (rest_of y)

        here : (q : Progress) → state_of d'.table ≡ state_but q w (state_of d.table) → state_but q u (state_of d.table) ≡ state_of d.table
            → Alike u w (ahead 0) q e c c' d d'
        here q i j = alike u w len (ahead 0) q e e' t t' c c' d d' z.0 (first-of x) (first-of y) i j

        go : Own r w len t d d'
            → Independent u w (ahead 0) (A ++ rest) t (c ∷ cs) (c' ∷ cs') (d ∷ ds) (d' ∷ ds')
        go (idle k s) =
            finish (ahead 0) (A ++ rest) (mark_idle 0 d.answer.taken (state_of t).last (state_of d.table).last k) (drop_idle d.answer.taken (A ++ rest) k)
            (here (ahead 0) s.state refl)
            (ih s (on-run (A ++ rest) (A ++ rest) d.table cs ds d.answer.taken (drop_idle d.answer.taken (A ++ rest) k) (rest_of x))
            (on-run (B ++ rest) (B ++ rest) d'.table cs' ds' d'.answer.taken (drop_idle d'.answer.taken (B ++ rest) (same 0 k)) (rest_of y)))
        go (past k q s) =
            finish gone rest (mark_took 0 d.answer.taken (state_of t).last (state_of d.table).last (length A) k (some-taken r v) ∙ q)
            (drop_took d.answer.taken A rest k) (here gone s.state refl)
            (gone_independent u w len rest d.table d'.table cs cs' ds ds' s m (x' k) (y' k))
        go (new k q s) =
            finish (wrote (suc (state_of t).last)) rest
            (mark_took 0 d.answer.taken (state_of t).last (state_of d.table).last (length A) k (some-taken r v) ∙ q)
            (drop_took d.answer.taken A rest k) (here (wrote (suc (state_of t).last)) s.state s.own)
            (wrote_independent u w len (suc (state_of t).last) rest d.table d'.table cs cs' ds ds' s m (x' k) (y' k))

    -- a call on a request before it, given what comes after one that takes nothing, and after one that takes it
    pass_independent : (r₀ : Request) → Valid request r₀ → (n : ℕ) (a b : List ℕ)
        → (Same d.table d'.table → Run (request.enc r₀ ++ a) d.table cs ds
        → Run (request.enc r₀ ++ b) d'.table cs' ds'
        → Independent r.args.value w (ahead (suc n)) (request.enc r₀ ++ a) d.table cs cs' ds ds')
        → (Same d.table d'.table → Run a d.table cs ds → Run b d'.table cs' ds'
        → Independent r.args.value w (ahead n) a d.table cs cs' ds ds')
        → Run (request.enc r₀ ++ a) t (c ∷ cs) (d ∷ ds)
        → Run (request.enc r₀ ++ b) t' (c' ∷ cs') (d' ∷ ds')
        → Independent r.args.value w (ahead (suc n)) (request.enc r₀ ++ a) t (c ∷ cs) (c' ∷ cs') (d ∷ ds) (d' ∷ ds')
    pass_independent r₀ v₀ n a b ih on x y = ⊎_elim stays goes (taken r₀ v₀ a t c d (first-of x))
      where
        u : List ℕ
        u = r.args.value

        A : List ℕ
        A = request.enc r₀

        e : Effect
        e = effect_in (A ++ a) t c

        e' : Effect
        e' = effect_in (A ++ b) t' c'

        q : e' ≡ e
        q = both r₀ v₀ a b t t' c c' g k l

        z : Like u w len (ahead (suc n)) e e'
        z = like-ahead u w len (suc n) e e' (ap (λ (f : Effect). f.answer) q) (ap (λ (f : Effect). f.sent) q)

        s : Same d.table d'.table
        s = same_next t t' e.next e'.next d.table d'.table g (ap (λ (f : Effect). f.next) q) (first-of x).table (first-of y).table

        same : (k : ℕ) → d.answer.taken ≡ k → d'.answer.taken ≡ k
        same k i = ap (λ (f : Answer). f.taken) (same_answer u w len (ahead (suc n)) e e' t t' c.buffer c'.buffer d d' z (first-of x) (first-of y)) ∙ i

        here : (p : ℕ) → Alike u w (ahead (suc n)) (ahead p) e c c' d d'
        here p = alike u w len (ahead (suc n)) (ahead p) e e' t t' c c' d d' z (first-of x) (first-of y) s.state refl

        stays : d.answer.taken ≡ 0 → Independent u w (ahead (suc n)) (A ++ a) t (c ∷ cs) (c' ∷ cs') (d ∷ ds) (d' ∷ ds')
        stays k =
            finish (ahead (suc n)) (A ++ a) (mark_idle (suc n) d.answer.taken (state_of t).last (state_of d.table).last k) (drop_idle d.answer.taken (A ++ a) k)
            (here (suc n))
            (ih s (on-run (A ++ a) (A ++ a) d.table cs ds d.answer.taken (drop_idle d.answer.taken (A ++ a) k) (rest_of x))
            (on-run (A ++ b) (A ++ b) d'.table cs' ds' d'.answer.taken (drop_idle d'.answer.taken (A ++ b) (same 0 k)) (rest_of y)))

        goes : d.answer.taken ≡ length A → Independent u w (ahead (suc n)) (A ++ a) t (c ∷ cs) (c' ∷ cs') (d ∷ ds) (d' ∷ ds')
        goes k =
            finish (ahead n) a (mark_took (suc n) d.answer.taken (state_of t).last (state_of d.table).last (length A) k (some-taken r₀ v₀))
            (drop_took d.answer.taken A a k) (here n)
            (on s (on-run (A ++ a) a d.table cs ds d.answer.taken (drop_took d.answer.taken A a k) (rest_of x))
            (on-run (A ++ b) b d'.table cs' ds' d'.answer.taken (drop_took d'.answer.taken A b (same (length A) k)) (rest_of y)))

  pub ahead_independent : (rest : List ℕ) (bf : List Request) → WellFormed bf → (t t' : List ℕ) (cs cs' : List Call) (ds ds' : List Done)
      → Same t t' → SameCalls cs cs'
      → Run (written bf ++ (request.enc r ++ rest)) t cs ds
      → Run (written bf ++ (request.enc (with_value w r) ++ rest)) t' cs' ds'
      → Independent r.args.value w (ahead (length bf)) (written bf ++ (request.enc r ++ rest)) t cs cs' ds ds'
  unfolding written
  ahead_independent rest bf f t t' [] [] [] [] g same_end run_end run_end = end
  ahead_independent rest [] f t t' (c ∷ cs) (c' ∷ cs') (d ∷ ds) (d' ∷ ds') g (same-call k l m) x y =
      own_independent t t' c c' cs cs' d d' ds ds' k l m g rest (λ s p q. ahead_independent rest [] f d.table d'.table cs cs' ds ds' s m p q) x y
  ahead_independent rest (r₀ ∷ bf) f t t' (c ∷ cs) (c' ∷ cs') (d ∷ ds) (d' ∷ ds') g (same-call k l m) x y =
      let a = written bf ++ (request.enc r ++ rest) in
      let b = written bf ++ (request.enc (with_value w r) ++ rest) in
      let e : (request.enc r₀ ++ written bf) ++ (request.enc r ++ rest) ≡ request.enc r₀ ++ a = append_assoc (request.enc r₀) (written bf) (request.enc r ++ rest) in
      let h : (request.enc r₀ ++ written bf) ++ (request.enc (with_value w r) ++ rest) ≡ request.enc r₀ ++ b =
      append_assoc (request.enc r₀) (written bf) (request.enc (with_value w r) ++ rest) in
      subst (λ (input : List ℕ). Independent r.args.value w (ahead (suc (length bf))) input t (c ∷ cs) (c' ∷ cs') (d ∷ ds) (d' ∷ ds')) (sym e)
      (pass_independent t t' c c' cs cs' d d' ds ds' k l m g r₀ f.0 (length bf) a b
      (λ s p q. subst (λ (input : List ℕ). Independent r.args.value w (ahead (suc (length bf))) input d.table cs cs' ds ds') e
      (ahead_independent rest (r₀ ∷ bf) f d.table d'.table cs cs' ds ds' s m
      (subst (λ (input : List ℕ). Run input d.table cs ds) (sym e) p) (subst (λ (input : List ℕ). Run input d'.table cs' ds') (sym h) q)))
      (λ s p q. ahead_independent rest bf f.1 d.table d'.table cs cs' ds ds' s m p q)
      (subst (λ (input : List ℕ). Run input t (c ∷ cs) (d ∷ ds)) e x)
      (subst (λ (input : List ℕ). Run input t' (c' ∷ cs') (d' ∷ ds')) h y))
  ahead_independent rest bf f t t' [] [] [] (d' ∷ ds') g _ x y = elim y [ ]
  ahead_independent rest bf f t t' [] [] (d ∷ ds) _ g _ x y = elim x [ ]
  ahead_independent rest bf f t t' [] (c' ∷ cs') ds _ g x11 x y = elim x11 [ ]
  ahead_independent rest [] f t t' (c ∷ cs) [] ds _ g x13 x y = elim x13 [ ]
  ahead_independent rest [] f t t' (c ∷ cs) (c' ∷ cs') [] _ g _ x y = elim x [ ]
  ahead_independent rest [] f t t' (c ∷ cs) (c' ∷ cs') (d ∷ ds) [] g _ x y = elim y [ ]
  ahead_independent rest (r₀ ∷ bf) f t t' (c ∷ cs) [] ds _ g x14 x y = elim x14 [ ]
  ahead_independent rest (r₀ ∷ bf) f t t' (c ∷ cs) (c' ∷ cs') [] _ g _ x y = elim x [ ]
  ahead_independent rest (r₀ ∷ bf) f t t' (c ∷ cs) (c' ∷ cs') (d ∷ ds) [] g _ x y = elim y [ ]
