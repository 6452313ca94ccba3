-- Two servings of several connections that differ in one request's value are alike. Assumes that a sound table holds no version above the last issued.
use mathlib.Core.Path.{◌≡◌, refl, sym, ap, ap₂, subst, ◌∙◌}
use mathlib.Core.List.{List, [], ◌∷◌, ◌++◌}
use mathlib.Core.Bool.{Bool, true, false, cond, ◌&&◌, ◌||◌}
use mathlib.Core.Logic.{⊎_elim}
use Prim.Native.Nat.{ℕ, zero, suc, ◌+◌, ◌≤◌}
use native.Mathlib.Omega.{arith}
use lib.ListN.{length, take, drop, length-drop, length-append, take-append-drop}
use lib.Seq.{length-sets}
use lib.Dec.{eqb, ltb}
use Rattle.wire.specs.Codec.{Bytes}
use Rattle.wire.proofs.Laws.{never}
use Rattle.message.specs.Request.{Request}
use Rattle.message.specs.Value.{with_value}
use Rattle.message.specs.Written.{written, WellFormed}
use Rattle.map.specs.Step.{Context}
use Rattle.map.specs.Reply.{flat}
use Rattle.table.specs.Memory.{state_of, Sound}
use Rattle.service.specs.Serve.{Answer, Verdict}
use Rattle.service.specs.Stream.{Call, Done, Serves, Run, run_end, run_call}
use Rattle.service.specs.Many.{goes_on, is_short, Total, at, behind, Streams, waits, last, then}
use Rattle.service.specs.Demand3.{Progress, ahead, wrote, gone, after, passes, progress, state_but, SameCalls, same_end, same-call, Independent, call}
use Rattle.service.specs.Shares.{Shares, no_more, share}
use Rattle.service.specs.Made.{EndToEnd, total_by, Made}
use Rattle.service.specs.Paired.{PairedStreams, progress_behind, for_others, PairedShares, nobody, other, own}
use Rattle.service.proofs.Sounds.{effect_in, does_in, both-sound}
use Rattle.service.proofs.Bounds.{stays-sound}
use Rattle.service.proofs.Like.{Same}
use Rattle.service.proofs.After.{gone_independent, wrote_independent}
use Rattle.service.proofs.Once.{call_next}
use Rattle.service.proofs.Demand3.{values-from}
use Rattle.service.proofs.Made.{waits-made, last_made, then-made}

-- whatever calls are made, the same of both, they are alike
abbrev Related : List ℕ → List ℕ → Progress → List ℕ → List ℕ → List ℕ → List ℕ → Type 0
Related u w p input input' t t' =
    (cs cs' : List Call) (ds ds' : List Done) → SameCalls cs cs' → Run input t cs ds → Run input' t' cs' ds' → Independent u w p input t cs cs' ds ds'

module _ {u w : List ℕ} where
  -- the first of calls, and those behind it
  first_alike : {p : Progress} {input t : List ℕ} {c c' : Call} {cs cs' : List Call} {d d' : Done} {ds ds' : List Done}
      → Independent u w p input t (c ∷ cs) (c' ∷ cs') (d ∷ ds) (d' ∷ ds') → (d'.answer ≡ d.answer) × (d'.size ≡ d.size)
  first_alike (call k a i) = (a.answer, a.size)

  rest-alike : {p : Progress} {input t : List ℕ} {c c' : Call} {cs cs' : List Call} {d d' : Done} {ds ds' : List Done}
      → Independent u w p input t (c ∷ cs) (c' ∷ cs') (d ∷ ds) (d' ∷ ds') → Independent u w (progress p t d) (drop d.answer.taken input) d.table cs cs' ds ds'
  rest-alike (call k a i) = i

-- a version that was issued is not above the last one
abbrev Issued : Progress → ℕ → Type 0
Issued (ahead n) l = Unit {0}
Issued (wrote v) l = v ≤ l
Issued gone l = Unit {0}

issued-next : (p : Progress) (taken l l' : ℕ) → l ≤ l' → Issued p l → Issued (after p taken l l') l'
issued-next (ahead n) taken l l' h i = go (eqb taken 0) n
  where
    now : (k : Bool) → Issued (cond k (wrote l') gone) l'
    now true = omega arith
    now false = tt

    go : (k : Bool) (n : ℕ) → Issued (cond k (ahead n) (passes n l l')) l'
    go true n = tt
    go false zero = now (ltb l l')
    go false (suc n) = tt
issued-next (wrote v) taken l l' h i = omega arith
issued-next gone taken l l' h i = tt

last-rises : {input t : List ℕ} {c : Call} {d : Done} → Serves input t c d → (state_of t).last ≤ (state_of d.table).last
last-rises x = ⊎_elim (λ e. omega arith) (λ e. omega arith) (call_next x)

-- calls of other connections don't move it
abbrev Settled : Progress → Type 0
Settled (ahead n) = ⊥
Settled (wrote v) = Unit {0}
Settled gone = Unit {0}

settled : (p : Progress) → Settled (for_others p)
settled (ahead n) = tt
settled (wrote v) = tt
settled gone = tt

stays : (p : Progress) → Settled p → (table : List ℕ) (ds : List Done) → progress_behind p table ds ≡ p
stays p z table [] = refl
stays (ahead n) z table (d ∷ ds) = absurd z
stays (wrote v) z table (d ∷ ds) = stays (wrote v) z d.table ds
stays gone z table (d ∷ ds) = stays gone z d.table ds

-- what is known of two tables while they differ at most in the entry that the request wrote
record Tables (u w : List ℕ) (p : Progress) (t t' : List ℕ) : Type 0 where
  sound : Sound t
  sound' : Sound t'
  state : state_of t' ≡ state_but p w (state_of t)
  holds : state_but p u (state_of t) ≡ state_of t
  issued : Issued p (state_of t).last

-- two streams, and the tables that they leave
record Pair (u w : List ℕ) (c : Context) (p : Progress) (input input' table table' lent lent' : List ℕ) (t t' : Total) : Type 0 where
  paired : PairedStreams u w c p input input' table table' lent lent' t t'
  tables : Tables u w (progress_behind p table paired.dones) t.table t'.table

tables-next : {u w : List ℕ} {p : Progress} {input input' t t' : List ℕ} {k k' : Call} {d d' : Done} → Tables u w p t t' → Serves input t k d → Serves input' t' k' d'
    → Independent u w p input t (k ∷ []) (k' ∷ []) (d ∷ []) (d' ∷ []) → Tables u w (progress p t d) d.table d'.table
tables-next {p = p} {input = input} {input' = input'} {t = t} {t' = t'} {k = k} {k' = k'} {d = d} {d' = d'} g x x' (call i a j) =
    record {
      sound = stays-sound input t k d g.sound x;
      sound' = stays-sound input' t' k' d' g.sound' x';
      state = a.state;
      holds = a.holds;
      issued = issued-next p d.answer.taken (state_of t).last (state_of d.table).last (last-rises x) g.issued;
    }

tables-others : {u w : List ℕ} (p : Progress) {t t' : List ℕ} → Tables u w p t t' → Tables u w (for_others p) t t'
tables-others (ahead n) g = record { sound = g.sound; sound' = g.sound'; state = g.state; holds = refl; issued = tt }
tables-others (wrote v) g = g
tables-others gone g = g

related : (u w : List ℕ) → length w ≡ length u → (p : Progress) → Settled p → (input : List ℕ) {t t' : List ℕ} → Tables u w p t t' → Related u w p input input t t'
related u w len (ahead n) z input g = absurd z
related u w len gone z input {t = t} {t' = t'} g =
    λ cs cs' ds ds' m x y.
    gone_independent u w len input t t' cs cs' ds ds' (record { state = g.state; sounds = both-sound t' t g.sound' g.sound }) m x y
related u w len (wrote v) z input {t = t} {t' = t'} g =
    λ cs cs' ds ds' m x y.
    wrote_independent u w len v input t t' cs cs' ds ds' (record { sounds = both-sound t' t g.sound' g.sound; state = g.state; own = g.holds; issued = g.issued }) m x y

call_long : {input table : List ℕ} {k : Call} {d : Done} → Serves input table k d → length d.buffer ≡ length k.buffer
call_long {input} {table} {k} x = ap length (does_in x).buffer ∙ length-sets k.buffer 0 (flat (effect_in input table k).sent)

total-long : (c : Context) (v : Verdict) {input table : List ℕ} (lent : List ℕ) {cs : List Call} {ds : List Done} → Run input table cs ds → EndToEnd c lent cs ds
    → length (total_by v lent table ds).buffer ≡ length lent
unfolding total_by
total-long c v lent run_end p = refl
total-long c v {table = table} lent (run_call {d = d} {ds = ds} x xs) p =
    let n : length d.buffer ≡ length lent = call_long x ∙ ap (λ (k : Call). length k.buffer) p.0 in
    let f = ap length (take-append-drop d.size d.buffer) in
    let g = length-append (take d.size d.buffer) (drop d.size d.buffer) in
    let h = length-append (take d.size d.buffer) (total_by v (drop d.size d.buffer) d.table ds).buffer in
    omega (arith, n, f, g, h, total-long c v (drop d.size d.buffer) xs p.1)

made-long : {c : Context} {input table lent : List ℕ} {t : Total} {cs : List Call} {ds : List Done} → Made c input table lent t cs ds → length t.buffer ≡ length lent
made-long {c = c} {lent = lent} {t = t} m = ap (λ (x : Total). length x.buffer) m.total ∙ total-long c t.verdict lent m.run m.placed

module _ {u w : List ℕ} {c : Context} where
  -- the two first calls of a stream
  module _ {p : Progress} {input input' table table' lent lent' : List ℕ} {d d' : Done} (H : Related u w p input input' table table') (n : length lent' ≡ length lent)
      (x : Serves input table (at c lent) d) (x' : Serves input' table' (at c lent') d') where
    once : Independent u w p input table (at c lent ∷ []) (at c lent' ∷ []) (d ∷ []) (d' ∷ [])
    once = H (at c lent ∷ []) (at c lent' ∷ []) (d ∷ []) (d' ∷ []) (same-call refl n same_end) (run_call x run_end) (run_call x' run_end)

    pair : (d'.answer ≡ d.answer) × (d'.size ≡ d.size)
    pair = first_alike once

    next : Related u w (progress p table d) (drop d.answer.taken input) (drop d'.answer.taken input') d.table d'.table
    next cs cs' ds ds' m y y' = rest-alike (H (at c lent ∷ cs) (at c lent' ∷ cs') (d ∷ ds) (d' ∷ ds') (same-call refl n m) (run_call x y) (run_call x' y'))

    same_wait : (used : Bool) → (is_short d'.answer.verdict && used) ≡ (is_short d.answer.verdict && used)
    same_wait used = ap (λ (y : Answer). is_short y.verdict && used) pair.0

    same-on : goes_on d'.answer ≡ goes_on d.answer
    same-on = ap goes_on pair.0

    module _ {t t' : Total} (cs cs' : List Call) (ds ds' : List Done) (m : Made c (drop d.answer.taken input) d.table (drop d.size d.buffer) t cs ds)
        (m' : Made c (drop d'.answer.taken input') d'.table (drop d'.size d'.buffer) t' cs' ds') (s : SameCalls cs cs')
        (a : t'.taken ≡ t.taken) (b : t'.size ≡ t.size) (k : t'.calls ≡ t.calls) (v : t'.verdict ≡ t.verdict) where
      both-then : PairedStreams u w c p input input' table table' lent lent' (behind d.answer.taken d.size 1 d.buffer t)
          (behind d'.answer.taken d'.size 1 d'.buffer t')
      both-then =
          record {
            taken = ap₂ ◌+◌ (ap (λ (y : Answer). y.taken) pair.0) a;
            size = ap₂ ◌+◌ pair.1 b;
            count = ap (◌+◌ 1) k;
            verdict = v;
            calls = at c lent ∷ cs;
            dones = d ∷ ds;
            calls' = at c lent' ∷ cs';
            dones' = d' ∷ ds';
            made = then-made x m;
            made' = then-made x' m';
            same = same-call refl n s;
            alike = H (at c lent ∷ cs) (at c lent' ∷ cs') (d ∷ ds) (d' ∷ ds') (same-call refl n s) (run_call x m.run) (run_call x' m'.run);
          }

    then-paired : {t t' : Total}
        → Pair u w c (progress p table d) (drop d.answer.taken input) (drop d'.answer.taken input') d.table d'.table (drop d.size d.buffer) (drop d'.size d'.buffer) t t'
        → Pair u w c p input input' table table' lent lent' (behind d.answer.taken d.size 1 d.buffer t) (behind d'.answer.taken d'.size 1 d'.buffer t')
    unfolding both-then
    then-paired o =
        let r = o.paired in
        record {
          paired = both-then r.calls r.calls' r.dones r.dones' r.made r.made' r.same r.taken r.size r.count r.verdict;
          tables = o.tables;
        }

  stream-paired : {used : Bool} {p : Progress} {input input' table table' lent lent' : List ℕ} {t t' : Total} → Related u w p input input' table table' → Tables u w p table table'
      → length lent' ≡ length lent → Streams c used input table lent t → Streams c used input' table' lent' t' → Pair u w c p input input' table table' lent lent' t t'
  stream-paired H g n (waits x e) (waits x' e') =
      record {
        paired = record {
          taken = refl;
          size = refl;
          count = refl;
          verdict = refl;
          calls = [];
          dones = [];
          calls' = [];
          dones' = [];
          made = waits-made;
          made' = waits-made;
          same = same_end;
          alike = H [] [] [] [] same_end run_end run_end;
        };
        tables = g;
      }
  stream-paired {used} H g n (waits x e) (last x' e' f') = let z = sym e ∙ (sym (same_wait H n x x' used) ∙ e') in never (cc)
  stream-paired {used} H g n (waits x e) (then x' e' f' s') = let z = sym e ∙ (sym (same_wait H n x x' used) ∙ e') in never (cc)
  stream-paired {used} H g n (last x e f) (waits x' e') = let z = sym e' ∙ (same_wait H n x x' used ∙ e) in never (cc)
  stream-paired {used} H g n (then x e f s) (waits x' e') = let z = sym e' ∙ (same_wait H n x x' used ∙ e) in never (cc)
  stream-paired H g n (last x e f) (then x' e' f' s') = let z = sym f ∙ (sym (same-on H n x x') ∙ f') in never (cc)
  stream-paired H g n (then x e f s) (last x' e' f') = let z = sym f ∙ (sym (same-on H n x x') ∙ f') in never (cc)
  stream-paired H g n (last {d = d} x e f) (last {d = d'} x' e' f') =
      let k = once H n x x' in
      let q = pair H n x x' in
      record {
        paired = record {
          taken = ap (λ (y : Answer). y.taken) q.0;
          size = q.1;
          count = refl;
          verdict = ap (λ (y : Answer). y.verdict) q.0;
          calls = _;
          dones = d ∷ [];
          calls' = _;
          dones' = d' ∷ [];
          made = last_made x;
          made' = last_made x';
          same = same-call refl n same_end;
          alike = k;
        };
        tables = tables-next g x x' k;
      }
  stream-paired {used} {input' = input'} H g n (then {d = d} {t = t} x e f s) (then {d = d'} {t = t'} x' e' f' s') =
      let q = pair H n x x' in
      let m : length (drop d'.size d'.buffer) ≡ length (drop d.size d.buffer) =
      omega (arith, n, q.1, call_long x, call_long x', length-drop d.size d.buffer, length-drop d'.size d'.buffer) in
      then-paired H n x x'
      (stream-paired (next H n x x') (tables-next g x x' (once H n x x')) m s
      (subst (λ (y : ℕ). Streams c (used || ltb 0 y) (drop d'.answer.taken input') d'.table (drop d'.size d'.buffer) t') q.1 s'))

  -- the rooms that two streams leave
  left-long : {p : Progress} {input input' table table' lent lent' : List ℕ} {t t' : Total} → PairedStreams u w c p input input' table table' lent lent' t t' → length lent' ≡ length lent
      → length (drop t'.size t'.buffer) ≡ length (drop t.size t.buffer)
  left-long {t = t} {t' = t'} x n =
      omega (arith, n, x.size, made-long x.made, made-long x.made', length-drop t.size t.buffer, length-drop t'.size t'.buffer)

  module _ (len : length w ≡ length u) where
    others-paired : (n : ℕ) {used : Bool} (p : Progress) → Settled p → {inputs : List (List ℕ)} {table table' lent lent' : List ℕ} {ts ts' : List Total} → Tables u w p table table'
        → length lent' ≡ length lent → Shares c used inputs table lent ts → Shares c used inputs table' lent' ts'
        → PairedShares u w c n p inputs inputs table table' lent lent' ts ts'
    others-paired n p z g h no_more no_more = nobody
    others-paired n {used} p z {inputs = input ∷ inputs} {table = table} g h (share {t = t} x xs) (share {t = t'} {ts = ts'} x' xs') =
        let o = stream-paired (related u w len p z input g) g h x x' in
        let r = o.paired in
        other r (others-paired n p z (subst (λ (q : Progress). Tables u w q t.table t'.table) (stays p z table r.dones) o.tables) (left-long r h) xs
        (subst (λ (y : ℕ). Shares c (used || ltb 0 y) inputs t'.table (drop t'.size t'.buffer) ts') r.size xs'))

-- "let bytes of one request's value in the row change, but not its length": whichever connection sent it, wherever its bytes stand among those of others, and
-- whether or not there was room to serve it, all connections are told the same numbers, every reply keeps all its bytes but those of that value, and after each
-- call the tables differ at most in the entry that the request wrote, and there in the value alone.
module _ (c : Context) (before behind : List Request) (r : Request) (w tail : List ℕ) (v : WellFormed (before ++ (r ∷ behind))) (len : length w ≡ length r.args.value) (b : Bytes w) where
  values-shares-from : {used : Bool} (first others : List (List ℕ)) (table table' lent lent' : List ℕ) (ts ts' : List Total)
      → Tables r.args.value w gone table table' → length lent' ≡ length lent
      → Shares c used (first ++ ((written (before ++ (r ∷ behind)) ++ tail) ∷ others)) table lent ts
      → Shares c used (first ++ ((written (before ++ (with_value w r ∷ behind)) ++ tail) ∷ others)) table' lent' ts'
      → PairedShares r.args.value w c (length before) gone (first ++ ((written (before ++ (r ∷ behind)) ++ tail) ∷ others))
      (first ++ ((written (before ++ (with_value w r ∷ behind)) ++ tail) ∷ others)) table table' lent lent' ts ts'
  values-shares-from {used} [] others table table' lent lent' (t ∷ ts) (t' ∷ ts') g h (share x xs) (share x' xs') =
      let s : Same table table' = record { state = g.state; sounds = both-sound table' table g.sound' g.sound } in
      let o = stream-paired (λ cs cs' ds ds' m y y'. values-from before behind r w tail table table' cs cs' ds ds' v len b s m y y')
      (record { sound = g.sound; sound' = g.sound'; state = g.state; holds = refl; issued = tt }) h x x' in
      let q = o.paired in
      let p = progress_behind (ahead (length before)) table q.dones in
      own q (others-paired len (length before) (for_others p) (settled p) (tables-others p o.tables) (left-long q h) xs
      (subst (λ (y : ℕ). Shares c (used || ltb 0 y) others t'.table (drop t'.size t'.buffer) ts') q.size xs'))
  values-shares-from {used} (i ∷ is) others table table' lent lent' (t ∷ ts) (t' ∷ ts') g h (share x xs) (share x' xs') =
      let o = stream-paired (related r.args.value w len gone tt i g) g h x x' in
      let q = o.paired in
      other q (values-shares-from {used = used || ltb 0 t.size} is others t.table t'.table _ _ ts ts' (subst (λ (y : Progress). Tables r.args.value w y t.table t'.table) (stays gone tt table q.dones) o.tables) (left-long q h) xs
      (subst (λ (y : ℕ). Shares c (used || ltb 0 y) (is ++ ((written (before ++ (with_value w r ∷ behind)) ++ tail) ∷ others)) t'.table (drop t'.size t'.buffer) ts') q.size xs'))
  values-shares-from {used = used} [] others table table' lent lent' [] _ g h x8 _ = elim x8 [ ]
  values-shares-from {used = used} [] others table table' lent lent' (t ∷ ts) [] g h _ x14 = elim x14 [ ]
  values-shares-from {used = used} (i ∷ is) others table table' lent lent' [] _ g h x9 _ = elim x9 [ ]
  values-shares-from {used = used} (i ∷ is) others table table' lent lent' (t ∷ ts) [] g h _ x15 = elim x15 [ ]

  pub values-shares : (first others : List (List ℕ)) (table lent lent' : List ℕ) (ts ts' : List Total) → Sound table → length lent' ≡ length lent
      → Shares c false (first ++ ((written (before ++ (r ∷ behind)) ++ tail) ∷ others)) table lent ts
      → Shares c false (first ++ ((written (before ++ (with_value w r ∷ behind)) ++ tail) ∷ others)) table lent' ts'
      → PairedShares r.args.value w c (length before) gone (first ++ ((written (before ++ (r ∷ behind)) ++ tail) ∷ others))
      (first ++ ((written (before ++ (with_value w r ∷ behind)) ++ tail) ∷ others)) table table lent lent' ts ts'
  values-shares first others table lent lent' ts ts' s h x y =
      values-shares-from first others table table lent lent' ts ts' (record { sound = s; sound' = s; state = refl; holds = refl; issued = tt }) h x y
