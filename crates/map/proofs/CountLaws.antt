-- Over every run each count is the number of steps that it counts, up to the largest. Assumes nothing.
use mathlib.Core.Path.{◌≡◌, refl, sym, ap, ◌∙◌}
use mathlib.Core.List.{List, [], ◌∷◌}
use mathlib.Core.Bool.{Bool, true, false, cond, not, ◌&&◌, ◌||◌}
use mathlib.Core.Option.{Option, none, some}
use mathlib.Core.Logic.{◌⊎◌, inl, inr}
use Prim.Native.Nat.{ℕ, zero, suc, ◌+◌, ◌-◌, ◌≤◌, ◌<◌}
use native.Mathlib.Nat.{add-zero, zero-add, add-suc, suc-add}
use native.Mathlib.Omega.{arith}
use native.Mathlib.Decide.{dec_lt}
use lib.ListN.{get_or, replicate}
use lib.Dec.{eqb, ltb}
use borrow.Author.Tests.{ltb-false, le-leb, lt-leb}
use Rattle.wire.proofs.Laws.{and_false}
use Rattle.message.specs.declared.Operation.{Operation}
use Rattle.message.specs.declared.Operation.TheVariants.{Put, Get, PutIfAbsent, Replace, ReplaceIfUnmodified, Remove, RemoveIfUnmodified, ContainsKey, GetWithVersion, Clear, Stats, Ping, BulkGet, BulkGetKeys}
use Rattle.message.specs.Request.{Request}
use Rattle.message.specs.ReplyTable.{body_at, reply_status}
use Rattle.map.specs.History.{counts_held, most_count, onward, is, adds, marked, tally, retrievals, hits, misses, no_history, start_of}
use Rattle.map.specs.State.{Entry, State, fresh, find, without}
use Rattle.map.specs.Plan.{Change, keep, store, drop, empty, plans, plan}
use Rattle.map.specs.Shown.{shows, counted}
use Rattle.map.specs.Step.{Context, Result, Outcome, refused, answered, entry, stored, dropped, emptied, is_none, names, held, version_of, with_old, planned, statistics, status_of, result, present, swept, noted, arrive, step, state_after, run}
use Rattle.map.specs.Table.{Counts}
use Rattle.map.specs.Counted.{says, absent_at, number, ends, at_most}
use Rattle.map.proofs.Each.{each_left}
use Rattle.map.proofs.Answered.{changed, did}
use Rattle.map.proofs.Counting.{marked-at, arrive-counts}
use Rattle.wire.proofs.SameLaws.{same_refl}
use Rattle.map.proofs.Laws.{find_none, find-stored}

-- whether no entry has the key behind a change
abbrev after : Change → Bool → Bool
after keep b = b
after store b = false
after drop b = true
after empty b = true

gone-after : (r : Request) (st : State) (d : Change) → is_none (held r (changed r st d)) ≡ after d (is_none (held r st))
unfolding changed stored dropped emptied held find entry
gone-after r st keep = refl
gone-after r st store = rw (find-stored r.args.key st.entries (entry st.history.latest r (suc st.last)), same_refl r.args.key)
gone-after r st drop = ap is_none (find_none (names r) (without (names r) st.entries) (each_left (names r) st.entries))
gone-after r st empty = refl

-- what a result of a status says
abbrev says_of : Operation → ℕ → Bool → Bool → List Bool
says_of o s before after =
    (before && not after)
    ∷ (is Put o && (eqb s 0x00 || eqb s 0x03))
    ∷ (is Get o && true)
    ∷ (is Get o && (eqb s 0x00 || eqb s 0x03))
    ∷ (is Get o && eqb s 0x02)
    ∷ (is Remove o && (eqb s 0x00 || eqb s 0x03))
    ∷ (is Remove o && eqb s 0x02)
    ∷ []

-- a plan's status, told or not, and its change say what is counted
plan-says : (t : Bool) (o : Operation) (v : ℕ) (h : Option ℕ)
    → says_of o (reply_status t o (not (is_none h)) (plan o v h).status) (is_none h) (after (plan o v h).change (is_none h)) ≡ adds o (is_none h)
unfolding plan plans adds reply_status
plan-says true Put v none = refl
plan-says true Put v (some w) = refl
plan-says false Put v none = refl
plan-says false Put v (some w) = refl
plan-says t Get v none = refl
plan-says t Get v (some w) = refl
plan-says t PutIfAbsent v none = refl
plan-says t PutIfAbsent v (some w) = refl
plan-says t Replace v none = refl
plan-says t Replace v (some w) = refl
plan-says t ReplaceIfUnmodified v none = refl
plan-says t ReplaceIfUnmodified v (some w) = refl
plan-says true Remove v none = refl
plan-says true Remove v (some w) = refl
plan-says false Remove v none = refl
plan-says false Remove v (some w) = refl
plan-says t RemoveIfUnmodified v none = refl
plan-says t RemoveIfUnmodified v (some w) = refl
plan-says t ContainsKey v none = refl
plan-says t ContainsKey v (some w) = refl
plan-says t GetWithVersion v none = refl
plan-says t GetWithVersion v (some w) = refl
plan-says t Clear v none = refl
plan-says t Clear v (some w) = refl
plan-says t Stats v none = refl
plan-says t Stats v (some w) = refl
plan-says t Ping v none = refl
plan-says t Ping v (some w) = refl
plan-says t BulkGet v none = refl
plan-says t BulkGet v (some w) = refl
plan-says t BulkGetKeys v none = refl
plan-says t BulkGetKeys v (some w) = refl

none-version : (h : Option Entry) → is_none (version_of h) ≡ is_none h
none-version none = refl
none-version (some e) = refl

-- a change keeps the history, so behind a step that is answered it is the one with which the call came
history-changed : (r : Request) (st : State) (d : Change) → (changed r st d).history ≡ st.history
unfolding changed stored dropped emptied
history-changed r st keep = refl
history-changed r st store = refl
history-changed r st drop = refl
history-changed r st empty = refl

module _ (c : Context) (r : Request) (st : State) (a : Result) (t : State) (e : step c r st ≡ answered a t) where
  history-step : t.history ≡ (arrive c r st).history
  history-step = rw (did c r st a t e).state (history-changed r (arrive c r st) (planned r (arrive c r st)).change)

  -- its present second is the latest one, and nothing but what stands then is held
  pub latest-step : t.history.latest ≡ present c st
  unfolding arrive noted swept
  latest-step = rw history-step

  result_says : says r.op (answered a t) (absent_at t.history.latest r st) (is_none (held r t)) ≡ adds r.op (is_none (held r (swept c st)))
  unfolding says result status_of planned held arrive noted swept
  result_says =
      let d = did c r st a t e in
      let x = arrive c r st in
      rw (latest-step, d.same, d.state, gone-after r x (planned r x).change)
      (rw (none-version (held r x)) at (plan-says (with_old r) r.op r.args.entry_version (version_of (held r x))))

-- what is refused counts nowhere
abbrev nowhere : List Bool
nowhere = false ∷ false ∷ false ∷ false ∷ false ∷ false ∷ false ∷ []

refused_says : (o : Operation) (k : ℕ) (before after : Bool) → says o (refused k) before after ≡ nowhere
unfolding says
refused_says o k before after = rw (and_false (is Put o), and_false (is Get o), and_false (is Remove o))

nowhere-at : (i : ℕ) → get_or nowhere i false ≡ false
nowhere-at zero = refl
nowhere-at (suc zero) = refl
nowhere-at (suc (suc zero)) = refl
nowhere-at (suc (suc (suc zero))) = refl
nowhere-at (suc (suc (suc (suc zero)))) = refl
nowhere-at (suc (suc (suc (suc (suc zero))))) = refl
nowhere-at (suc (suc (suc (suc (suc (suc zero)))))) = refl
nowhere-at (suc (suc (suc (suc (suc (suc (suc i))))))) = refl

-- a count and what is still to come
full_at : (m n : ℕ) → m ≤ n → at_most m n ≡ m
full_at m n h = go (dec_lt m n)
  where
    go : Dec (m < n) → at_most m n ≡ m
    go (yes p) = rw (lt-leb n m p)
    go (no p) = let e : n ≡ m = omega arith in rw (e, le-leb m m (omega arith))

onward-sum : (n k : ℕ) → n ≤ most_count → at_most most_count (onward n + k) ≡ at_most most_count (n + suc k)
onward-sum n k h = go (ltb n most_count) refl
  where
    go : (b : Bool) → ltb n most_count ≡ b → at_most most_count (onward n + k) ≡ at_most most_count (n + suc k)
    go true q = let e : suc n + k ≡ n + suc k = omega arith in rw q (ap (at_most most_count) e)
    go false q =
        let l = ltb-false n most_count q in
        rw q (full_at most_count (n + k) (omega arith) ∙ sym (full_at most_count (n + suc k) (omega arith)))

step_sum : (b : Bool) (n k : ℕ) → n ≤ most_count → at_most most_count (cond b (onward n) n + k) ≡ at_most most_count (n + cond b (suc k) k)
step_sum true n k h = onward-sum n k h
step_sum false n k h = refl

-- the count at i behind a step, answered or refused, with k more to come
module _ (i : ℕ) (l : i < counts_held) (c : Context) (r : Request) (st : State) (s : Counts st.history) where
  at-step : (o : Outcome) → step c r st ≡ o → (k : ℕ)
      → at_most most_count (get_or (state_after st o).history.counts i 0 + k)
      ≡ at_most most_count (get_or st.history.counts i 0 + cond (get_or (says r.op o (absent_at (state_after st o).history.latest r st) (is_none (held r (state_after st o)))) i false) (suc k) k)
  unfolding arrive noted swept tally
  at-step (refused j) e k = rw (refused_says r.op j, nowhere-at i)
  at-step (answered a t) e k =
      rw (
        result_says c r st a t e,
        history-step c r st a t e,
        marked-at (adds r.op (is_none (held r (swept c st)))) st.history.counts i (omega (arith, s.long)),
      )
      (step_sum (get_or (adds r.op (is_none (held r (swept c st)))) i false) (get_or st.history.counts i 0) k (s.most i))

counts-after : (c : Context) (r : Request) (st : State) → Counts st.history → (o : Outcome) → step c r st ≡ o → Counts (state_after st o).history
counts-after c r st s (refused k) e = s
counts-after c r st s (answered a t) e = rw (history-step c r st a t e) (arrive-counts c r st s)

-- Behind every run each count is what it was before and one for each step that counts there, up to the largest.
pub counts-run : (i : ℕ) → i < counts_held → (xs : List (Context × Request)) (st : State) → Counts st.history
    → get_or (ends st (run xs st)).history.counts i 0 ≡ at_most most_count (get_or st.history.counts i 0 + number i st (run xs st))
unfolding run ends number
counts-run i l [] st s = rw (add-zero, le-leb (get_or st.history.counts i 0) most_count (s.most i))
counts-run i l (x ∷ xs) st s =
    let o = step x.0 x.1 st in
    counts-run i l xs (state_after st o) (counts-after x.0 x.1 st s o refl)
    ∙ at-step i l x.0 x.1 st s o refl (number i (state_after st o) (run xs (state_after st o)))

-- each retrieval is a hit or a miss, and nothing else is one
abbrev Split : List Bool → Type 0
Split bs = (h m : ℕ) → cond (get_or bs hits false) (suc h) h + cond (get_or bs misses false) (suc m) m ≡ cond (get_or bs retrievals false) (suc (h + m)) (h + m)

adds-split : (o : Operation) (absent : Bool) → Split (adds o absent)
unfolding adds
adds-split o absent h m = go (is Get o) absent
  where
    go : (g b : Bool) → cond (g && not b) (suc h) h + cond (g && b) (suc m) m ≡ cond g (suc (h + m)) (h + m)
    go true true = add-suc h m
    go true false = suc-add h m
    go false b = refl

says-split : (c : Context) (r : Request) (st : State) (o : Outcome) → step c r st ≡ o
    → Split (says r.op o (absent_at (state_after st o).history.latest r st) (is_none (held r (state_after st o))))
says-split c r st (refused k) e h m = rw (refused_says r.op k)
says-split c r st (answered a t) e h m = rw (result_says c r st a t e) (adds-split r.op (is_none (held r (swept c st))) h m)

number-split : (xs : List (Context × Request)) (st : State) → number hits st (run xs st) + number misses st (run xs st) ≡ number retrievals st (run xs st)
unfolding run number
number-split [] st = refl
number-split (x ∷ xs) st =
    let o = step x.0 x.1 st in
    let t = state_after st o in
    says-split x.0 x.1 st o refl (number hits t (run xs t)) (number misses t (run xs t))
    ∙ ap (λ (n : ℕ). cond (get_or (says x.1.op o (absent_at t.history.latest x.1 st) (is_none (held x.1 t))) retrievals false) (suc n) n) (number-split xs t)

abbrev at : ℕ → State → ℕ
at i st = get_or st.history.counts i 0

under_at : (m n : ℕ) → n ≤ m → at_most m n ≡ n
under_at m n h = rw (le-leb n m h)

-- "retrievals .. split into hits and misses": where they were before a run and the count of retrievals is not to pass the largest, they are behind it
pub hits-misses : (xs : List (Context × Request)) (st : State) → Counts st.history → at hits st + at misses st ≡ at retrievals st
    → at retrievals st + number retrievals st (run xs st) ≤ most_count
    → at hits (ends st (run xs st)) + at misses (ends st (run xs st)) ≡ at retrievals (ends st (run xs st))
hits-misses xs st s e l =
    let f = run xs st in
    let n = number-split xs st in
    let r = counts-run retrievals (omega arith) xs st s ∙ under_at most_count (at retrievals st + number retrievals st f) l in
    let h = counts-run hits (omega arith) xs st s ∙ under_at most_count (at hits st + number hits st f) (omega (arith, n)) in
    let m = counts-run misses (omega arith) xs st s ∙ under_at most_count (at misses st + number misses st f) (omega (arith, n)) in
    omega (arith, r, h, m, n, e)

-- with no history each count is 0
zeros : (i : ℕ) → get_or no_history.counts i 0 ≡ 0
zeros zero = refl
zeros (suc zero) = refl
zeros (suc (suc zero)) = refl
zeros (suc (suc (suc zero))) = refl
zeros (suc (suc (suc (suc zero)))) = refl
zeros (suc (suc (suc (suc (suc zero))))) = refl
zeros (suc (suc (suc (suc (suc (suc zero)))))) = refl
zeros (suc (suc (suc (suc (suc (suc (suc i))))))) = refl

pub fresh-counts : Counts fresh.history
fresh-counts = record { long = refl; most = λ i. omega (arith, zeros i) }

-- "of the history since start or the last load", for a fresh table and a loaded one have none
module _ (xs : List (Context × Request)) (st : State) (e : st.history ≡ no_history) where
  none-at : (i : ℕ) → at i st ≡ 0
  none-at i = rw e (zeros i)

  -- each count is the number of steps that it counts, up to the largest
  pub since-start : (i : ℕ) → i < counts_held → at i (ends st (run xs st)) ≡ at_most most_count (number i st (run xs st))
  since-start i l = counts-run i l xs st (rw e fresh-counts) ∙ rw (none-at i, zero-add)

  -- and the retrievals are the hits and the misses
  pub split-since-start : number retrievals st (run xs st) ≤ most_count
      → at hits (ends st (run xs st)) + at misses (ends st (run xs st)) ≡ at retrievals (ends st (run xs st))
  split-since-start l = hits-misses xs st (rw e fresh-counts) (rw e) (omega (arith, none-at retrievals))

-- a clear counts nothing, and neither do stats and the bulk requests
marked-none : (n : ℕ) (ns : List ℕ) → marked (replicate n false) ns ≡ ns
unfolding marked
marked-none zero ns = refl
marked-none (suc n) [] = refl
marked-none (suc n) (x ∷ ns) = ap (λ (l : List ℕ). x ∷ l) (marked-none n ns)

module _ (c : Context) (r : Request) (st : State) (a : Result) (t : State) (e : step c r st ≡ answered a t) where
  same-counts : adds r.op (is_none (held r (swept c st))) ≡ replicate counts_held false → t.history.counts ≡ st.history.counts
  unfolding arrive noted swept tally
  same-counts h = rw (history-step c r st a t e, h) (marked-none counts_held st.history.counts)

  pub clear_counts : r.op ≡ Clear → t.history.counts ≡ st.history.counts
  unfolding adds
  clear_counts q = same-counts (rw q)

  pub stats-counts : r.op ≡ Stats → t.history.counts ≡ st.history.counts
  unfolding adds
  stats-counts q = same-counts (rw q)

  pub bulk-counts : (r.op ≡ BulkGet) ⊎ (r.op ≡ BulkGetKeys) → t.history.counts ≡ st.history.counts
  unfolding adds
  bulk-counts (inl q) = same-counts (rw q)
  bulk-counts (inr q) = same-counts (rw q)

  -- a stats reply shows the statistics behind the arrival of its own call
  pub stats-shown : r.op ≡ Stats → a.shown ≡ counted (statistics c (arrive c r st))
  unfolding result status_of reply_status planned plan plans shows body_at
  stats-shown q = rw ((did c r st a t e).same, q)

  -- "the first call served": the first one that is answered
  pub first_step : t.history.first ≡ some (start_of st.history.first c.second)
  unfolding arrive noted swept
  first_step = rw (history-step c r st a t e)

-- "timeSinceStart is the call's second less that of the first call served, 0 if it is that call or the clock went back"
abbrev time_in : List ℕ → ℕ
time_in ns = get_or ns 0 0

module _ (c : Context) (r : Request) (st : State) where
  pub time-first : st.history.first ≡ none → time_in (statistics c (arrive c r st)) ≡ 0
  unfolding statistics arrive noted swept
  time-first e = rw e (omega arith)

  pub time-since : (f : ℕ) → st.history.first ≡ some f → time_in (statistics c (arrive c r st)) ≡ c.second - f
  unfolding statistics arrive noted swept
  time-since f e = rw e
