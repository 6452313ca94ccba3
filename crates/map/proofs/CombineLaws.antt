-- What may be combined: five laws. Assumes nothing.
use mathlib.Core.Path.{◌≡◌, refl, sym, ap, ap₂, ◌∙◌}
use mathlib.Core.List.{List, [], ◌∷◌, ◌++◌, append-nil}
use mathlib.Core.Bool.{Bool, true, false, cond, ◌&&◌}
use mathlib.Core.Option.{Option, none, some}
use Prim.Native.Nat.{ℕ, suc, ◌≤◌, ◌<◌, max}
use native.Mathlib.Nat.{le-max_left, max-eq_right}
use native.Mathlib.Omega.{arith}
use lib.ListN.{length}
use lib.Dec.{ltb, leb}
use borrow.Author.Tests.{leb-false, lt-leb}
use Rattle.wire.specs.Same.{same_list}
use Rattle.wire.proofs.Laws.{never, and_false}
use Rattle.wire.proofs.SameLaws.{same_true, same_refl}
use Rattle.message.specs.Arguments.{is_empty}
use Rattle.message.specs.declared.Operation.{Operation}
use Rattle.message.specs.declared.Operation.TheVariants.{Put, Remove, Clear}
use Rattle.message.specs.Request.{Request}
use Rattle.map.specs.State.{Entry, State, find, without, has_key}
use Rattle.map.specs.Deadline.{expired, standing, still}
use Rattle.map.specs.Plan.{Change, keep, store, drop, empty, plans, plan}
use Rattle.map.specs.Step.{most_keys, last_version, Context, Result, Outcome, refused, answered, entry, stored, dropped, emptied, is_none, names, held, version_of, full, planned, result, act, core, present, swept, noted, arrive, step, state_after, run}
use Rattle.map.specs.Table.{In, Pairs, OtherKey, IsTable}
use Rattle.map.specs.Counted.{is_answered, ends}
use Rattle.map.specs.Update.{same_key, final_state}
use Rattle.map.specs.Combine.{Content, content_of, content, Only10, AllOnly10, AllAnswered, in_context, SameStanding, Equal, Combines}
use Rattle.map.proofs.Each.{fewer, each_left, pairs-without}
use Rattle.map.proofs.Answered.{changed, did}
use Rattle.map.proofs.Laws.{or_else, find_none, find_append, find-without, find-stored}
use Rattle.map.proofs.CountLaws.{latest-step}
use Rattle.map.proofs.Standing.{standing_stand, standing-all, find-still}
use Rattle.map.proofs.Keeps.{less}
use Rattle.map.proofs.Members.{find_in, in_find}
use Rattle.map.proofs.UpdateLaws.{Differs, table_differs, differs_arrive, differs_changed, differs_step}

-- what is found behind a removal
find-dropped : (k j : List ℕ) (es : List Entry) → find (has_key k) (without (has_key j) es) ≡ cond (same_list j k) none (find (has_key k) es)
find-dropped k j es = go (same_list j k) refl
  where
    go : (t : Bool) → same_list j k ≡ t → find (has_key k) (without (has_key j) es) ≡ cond t none (find (has_key k) es)
    go true q = rw (same_true j k q) (find_none (has_key k) (without (has_key k) es) (each_left (has_key k) es))
    go false q = find-without (has_key k) (has_key j) (λ e i. rw (same_true e.key j i) q) es

-- what stands under a key, by the one entry that has it
content-is : (now : ℕ) (k : List ℕ) (st : State) → Differs st → content now k st ≡ content_of (still now (find (has_key k) st.entries))
unfolding content
content-is now k st s = ap content_of (find-still k now st.entries s.keys)

-- what a request writes, as far as it stands at the second of its call
abbrev written : ℕ → Request → Option Content
written now r = content_of (still now (some (entry now r 0)))

-- what stands under a key behind a change, by what stood before
abbrev afterwards : ℕ → List ℕ → Request → Change → Option Content → Option Content
afterwards now k r keep o = o
afterwards now k r store o = cond (same_list r.args.key k) (written now r) o
afterwards now k r drop o = cond (same_list r.args.key k) none o
afterwards now k r empty o = none

still_cond : (now : ℕ) (t : Bool) (x y : Option Entry) → content_of (still now (cond t x y)) ≡ cond t (content_of (still now x)) (content_of (still now y))
still_cond now true x y = refl
still_cond now false x y = refl

-- the version does not matter
written_is : (now n : ℕ) (r : Request) → content_of (still now (some (entry now r n))) ≡ written now r
unfolding entry expired
written_is now n r = go (expired now (entry now r 0))
  where
    go : (b : Bool) → content_of (cond b none (some (entry now r n))) ≡ content_of (cond b none (some (entry now r 0)))
    go true = refl
    go false = refl

content-changed : (now : ℕ) (k : List ℕ) (r : Request) (st : State) (d : Change) → Differs st → st.history.latest ≡ now
    → content now k (changed r st d) ≡ afterwards now k r d (content now k st)
unfolding changed stored dropped emptied entry content find without
content-changed now k r st keep s h = refl
content-changed now k r st store s h =
    let x = entry st.history.latest r (suc st.last) in
    content-is now k (stored r st) (differs_changed r st store s)
    ∙ ap (λ (o : Option Entry). content_of (still now o)) (find-stored k st.entries x)
    ∙ still_cond now (has_key k x) (some x) (find (has_key k) st.entries)
    ∙ ap₂ (cond (has_key k x)) (rw h (written_is now (suc st.last) r)) (sym (content-is now k st s))
content-changed now k r st drop s h =
    content-is now k (dropped r st) (differs_changed r st drop s)
    ∙ ap (λ (o : Option Entry). content_of (still now o)) (find-dropped k r.args.key st.entries)
    ∙ still_cond now (same_list r.args.key k) none (find (has_key k) st.entries)
    ∙ ap (cond (same_list r.args.key k) none) (sym (content-is now k st s))
content-changed now k r st empty s h = refl

latest-arrive : (c : Context) (r : Request) (st : State) → (arrive c r st).history.latest ≡ present c st
unfolding arrive noted swept
latest-arrive c r st = refl

-- a call that comes drops nothing that stands
content-arrive : (c : Context) (r : Request) (st : State) (k : List ℕ) → content (present c st) k (arrive c r st) ≡ content (present c st) k st
unfolding content arrive noted swept
content-arrive c r st k = rw (standing-all (present c st) (standing (present c st) st.entries) (standing_stand (present c st) st.entries))

-- what stands under a key behind a step that is answered
content-step : (c : Context) (r : Request) (st : State) (a : Result) (t : State) (k : List ℕ) → Differs st → step c r st ≡ answered a t
    → content (present c st) k t ≡ afterwards (present c st) k r (planned r (arrive c r st)).change (content (present c st) k st)
content-step c r st a t k s e =
    let x = arrive c r st in
    let d = (planned r x).change in
    rw (did c r st a t e).state (content-changed (present c st) k r x d (differs_arrive c r st s) (latest-arrive c r st))
    ∙ ap (afterwards (present c st) k r d) (content-arrive c r st k)

-- at one second the present second stays
present-after : (c : Context) (r : Request) (st : State) (o : Outcome) → step c r st ≡ o → present c (state_after st o) ≡ present c st
present-after c r st (refused k) e = refl
present-after c r st (answered a t) e = rw (latest-step c r st a t e) (max-eq_right (le-max_left c.second st.history.latest))

-- plans
put-change : (r : Request) (st : State) → r.op ≡ Put → (planned r st).change ≡ store
unfolding planned plan plans
put-change r st q = ap (λ (o : Operation). (plan o r.args.entry_version (version_of (held r st))).change) q

clear_change : (r : Request) (st : State) → r.op ≡ Clear → (planned r st).change ≡ empty
unfolding planned plan plans
clear_change r st q = ap (λ (o : Operation). (plan o r.args.entry_version (version_of (held r st))).change) q

-- by what is held: a removal where an entry is, and else nothing
abbrev if_found : Option Entry → Change
if_found none = keep
if_found (some e) = drop

remove_change : (r : Request) (st : State) → r.op ≡ Remove → (planned r st).change ≡ if_found (held r st)
unfolding planned plan plans
remove_change r st q = ap (λ (o : Operation). (plan o r.args.entry_version (version_of (held r st))).change) q ∙ go (held r st)
  where
    go : (h : Option Entry) → (plan Remove r.args.entry_version (version_of h)).change ≡ if_found h
    go none = refl
    go (some e) = refl

-- what is refused 10 would store, and is full
act-refused : (r : Request) (st : State) (a : Result) (d : Change) → act r st a d ≡ refused 10 → (d ≡ store) × (full r st ≡ true)
unfolding act
act-refused r st a keep e = never (cc)
act-refused r st a drop e = never (cc)
act-refused r st a empty e = never (cc)
act-refused r st a store e = (refl, go (full r st) (ltb st.last last_version) e)
  where
    go : (f l : Bool) → cond f (refused 10) (cond l (answered a (stored r st)) (refused 11)) ≡ refused 10 → f ≡ true
    go true l q = refl
    go false true q = never (cc)
    go false false q = let z : ◌≡◌ {A = ℕ} 11 10 = cc in absurd (omega arith)

step-refused : (c : Context) (r : Request) (st : State) → step c r st ≡ refused 10
    → ((planned r (arrive c r st)).change ≡ store) × (full r (arrive c r st) ≡ true)
unfolding step core
step-refused c r st e = go (is_empty r.name) e
  where
    x : State
    x = arrive c r st

    go : (b : Bool) → cond b (act r x (result c r x) (planned r x).change) (refused 9) ≡ refused 10 → ((planned r x).change ≡ store) × (full r x ≡ true)
    go true q = act-refused r x (result c r x) (planned r x).change q
    go false q = let z : ◌≡◌ {A = ℕ} 9 10 = cc in absurd (omega arith)

no_store : (h : Option Entry) → if_found h ≡ store → ⊥
no_store none e = never (cc)
no_store (some x) e = never (cc)

if-found : (c : Context) (r : Request) (st : State) (k : List ℕ) (h : Option Entry) → held r (arrive c r st) ≡ h
    → afterwards (present c st) k r (if_found h) (content (present c st) k st) ≡ cond (same_list r.args.key k) none (content (present c st) k st)
unfolding held arrive noted swept content
if-found c r st k (some e) q = refl
if-found c r st k none q = go (same_list r.args.key k) refl
  where
    go : (b : Bool) → same_list r.args.key k ≡ b → content (present c st) k st ≡ cond b none (content (present c st) k st)
    go true i = rw (← (same_true r.args.key k i)) (ap content_of q)
    go false i = refl

-- what stands under a key behind a put that is not full, and behind a remove
module _ (c : Context) (r : Request) (st : State) (s : Differs st) (now : ℕ) (p : present c st ≡ now) (k : List ℕ) where
  put-after : r.op ≡ Put → full r (arrive c r st) ≡ false → Only10 (step c r st)
      → content now k (state_after st (step c r st)) ≡ cond (same_list r.args.key k) (written now r) (content now k st)
  put-after q f h = go (step c r st) refl h
    where
      go : (o : Outcome) → step c r st ≡ o → Only10 o → content now k (state_after st o) ≡ cond (same_list r.args.key k) (written now r) (content now k st)
      go (refused j) e i = let g = (step-refused c r st (rw i at e)).1 in never (cc)
      go (answered a t) e i =
          rw (← p) (content-step c r st a t k s e ∙ ap (λ (d : Change). afterwards (present c st) k r d (content (present c st) k st)) (put-change r (arrive c r st) q))

  remove_after : r.op ≡ Remove → Only10 (step c r st) → content now k (state_after st (step c r st)) ≡ cond (same_list r.args.key k) none (content now k st)
  remove_after q h = go (step c r st) refl h
    where
      go : (o : Outcome) → step c r st ≡ o → Only10 o → content now k (state_after st o) ≡ cond (same_list r.args.key k) none (content now k st)
      go (refused j) e i = absurd (no_store (held r (arrive c r st)) (sym (remove_change r (arrive c r st) q) ∙ (step-refused c r st (rw i at e)).0))
      go (answered a t) e i =
          rw (← p)
          (content-step c r st a t k s e
          ∙ ap (λ (d : Change). afterwards (present c st) k r d (content (present c st) k st)) (remove_change r (arrive c r st) q)
          ∙ if-found c r st k (held r (arrive c r st)) refl)

clear_after : (c : Context) (r : Request) (st : State) (now : ℕ) (k : List ℕ) → r.op ≡ Clear → Only10 (step c r st) → content now k (state_after st (step c r st)) ≡ none
unfolding changed emptied content find without
clear_after c r st now k q h = go (step c r st) refl h
  where
    go : (o : Outcome) → step c r st ≡ o → Only10 o → content now k (state_after st o) ≡ none
    go (refused j) e i = let g = (step-refused c r st (rw i at e)).0 in let z = clear_change r (arrive c r st) q in never (cc)
    go (answered a t) e i = rw ((did c r st a t e).state, clear_change r (arrive c r st) q)

-- rooms: what is left of entries that are not full behind a removal
room : (r : Request) (es : List Entry) (n : Bool) → is_none (find (names r) es) ≡ n → (n && leb most_keys (length es)) ≡ false → length es ≤ most_keys
    → length (without (names r) es) < most_keys
room r es true e h l = omega (arith, leb-false most_keys (length es) h, fewer (names r) es)
room r es false e h l = omega (arith, less (names r) es e)

standing_add : (now : ℕ) (x : Entry) (es : List Entry) → standing now (es ++ (x ∷ [])) ≡ standing now es ++ cond (expired now x) [] (x ∷ [])
unfolding without
standing_add now x [] = refl
standing_add now x (e ∷ es) = go (expired now e) (standing_add now x es)
  where
    go : (b : Bool) → standing now (es ++ (x ∷ [])) ≡ standing now es ++ cond (expired now x) [] (x ∷ [])
        → cond b (standing now (es ++ (x ∷ []))) (e ∷ standing now (es ++ (x ∷ []))) ≡ cond b (standing now es) (e ∷ standing now es) ++ cond (expired now x) [] (x ∷ [])
    go true ih = ih
    go false ih = ap (λ (l : List Entry). e ∷ l) ih

-- full goes by the key
full-same : (c : Context) (r s : Request) (st : State) → same_key r s ≡ true → full r (arrive c r st) ≡ full s (arrive c s st)
unfolding full held arrive noted swept
full-same c r s st q = rw (same_true r.args.key s.args.key q)

or_some : (o : Option Entry) (x : Entry) → is_none (or_else o (some x)) ≡ false
or_some none x = refl
or_some (some e) x = refl

not_full : (s : Request) (b : Bool) (x : Entry) (ys : List Entry) → names s x ≡ true → length ys < most_keys
    → (is_none (find (names s) (ys ++ cond b [] (x ∷ []))) && leb most_keys (length (ys ++ cond b [] (x ∷ [])))) ≡ false
not_full s true x ys i m = rw (append-nil ys, lt-leb most_keys (length ys) m) (and_false (is_none (find (names s) ys)))
not_full s false x ys i m = rw (find_append (names s) ys x, i, or_some (find (names s) ys) x)

-- behind a put another to its key is not full
full-next : (c : Context) (r s : Request) (st : State) → length st.entries ≤ most_keys → same_key r s ≡ true → full r (arrive c r st) ≡ false
    → full s (arrive c s (stored r (arrive c r st))) ≡ false
unfolding full held stored arrive noted swept entry
full-next c r s st l q h =
    let es = standing (present c st) st.entries in
    let x = entry (present c st) r (suc st.last) in
    let now = max c.second (present c st) in
    let rest = without (names r) es in
    let m = room r es (is_none (find (names r) es)) refl h (omega (arith, fewer (expired (present c st)) st.entries)) in
    rw (standing_add now x rest)
    (not_full s (expired now x) x (standing now rest) (rw (same_true r.args.key s.args.key q) (same_refl s.args.key))
    (omega (arith, fewer (expired now) rest)))

twice : {A : Type 0} (t : Bool) (x y z : A) → cond t x (cond t y z) ≡ cond t x z
twice true x y z = refl
twice false x y z = refl

-- what stands under a key behind a put that is answered
put-served : (c : Context) (r : Request) (st : State) (a : Result) (t : State) (k : List ℕ) → Differs st → r.op ≡ Put → step c r st ≡ answered a t
    → content (present c st) k t ≡ cond (same_list r.args.key k) (written (present c st) r) (content (present c st) k st)
put-served c r st a t k s q e =
    content-step c r st a t k s e ∙ ap (λ (d : Change). afterwards (present c st) k r d (content (present c st) k st)) (put-change r (arrive c r st) q)

-- a put that is answered was not full, and stores
put-stored : (c : Context) (r : Request) (st : State) (a : Result) (t : State) → r.op ≡ Put → step c r st ≡ answered a t
    → (full r (arrive c r st) ≡ false) × (t ≡ stored r (arrive c r st))
unfolding changed
put-stored c r st a t q e =
    let d = did c r st a t e in
    let z = put-change r (arrive c r st) q in
    ((d.room z).0, d.state ∙ rw z)

-- two puts change places
exchanged : {A : Type 0} (x y : Bool) → (x ≡ true → y ≡ true → ⊥) → (a b z : A) → cond x a (cond y b z) ≡ cond y b (cond x a z)
exchanged true true h a b z = absurd (h refl refl)
exchanged true false h a b z = refl
exchanged false y h a b z = refl

differ-keys : (r s : Request) (k : List ℕ) → same_key r s ≡ false → same_list s.args.key k ≡ true → same_list r.args.key k ≡ true → ⊥
differ-keys r s k h p q =
    let z : same_key r s ≡ true = rw (same_true r.args.key k q, same_true s.args.key k p) (same_refl k) in never (cc)

module _ (c : Context) (st : State) (h : IsTable st) where
  s₀ : Differs st
  s₀ = table_differs st h

  puts : (r s : Request) → r.op ≡ Put → s.op ≡ Put → same_key r s ≡ true → Equal c st (r ∷ s ∷ []) (s ∷ [])
  unfolding run ends
  puts r s pr ps q hr hs k = go (step c r st) refl hr.1.0
    where
      go : (o : Outcome) → step c r st ≡ o → Only10 (step c s (state_after st o))
          → content (present c st) k (state_after (state_after st o) (step c s (state_after st o))) ≡ content (present c st) k (state_after st (step c s st))
      go (refused j) e i = refl
      go (answered a t) e i =
          let f = put-stored c r st a t pr e in
          put-after c s t (differs_step c r st s₀ (answered a t) e) (present c st) (present-after c r st (answered a t) e) k ps
          (rw f.1 (full-next c r s st h.few q f.0)) i
          ∙ ap (cond (same_list s.args.key k) (written (present c st) s)) (put-served c r st a t k s₀ pr e)
          ∙ rw (same_true r.args.key s.args.key q) (twice (same_list s.args.key k) _ _ _)
          ∙ sym (put-after c s st s₀ (present c st) refl k ps (sym (full-same c r s st q) ∙ f.0) hs.0)

  removes : (r s : Request) → r.op ≡ Remove → s.op ≡ Remove → same_key r s ≡ true → Equal c st (r ∷ s ∷ []) (s ∷ [])
  unfolding run ends
  removes r s pr ps q hr hs k =
      let t = state_after st (step c r st) in
      remove_after c s t (differs_step c r st s₀ (step c r st) refl) (present c st) (present-after c r st (step c r st) refl) k ps hr.1.0
      ∙ ap (cond (same_list s.args.key k) none) (remove_after c r st s₀ (present c st) refl k pr hr.0)
      ∙ rw (same_true r.args.key s.args.key q) (twice (same_list s.args.key k) _ _ _)
      ∙ sym (remove_after c s st s₀ (present c st) refl k ps hs.0)

  put_remove : (r s : Request) → r.op ≡ Put → s.op ≡ Remove → same_key r s ≡ true → Equal c st (r ∷ s ∷ []) (s ∷ [])
  unfolding run ends
  put_remove r s pr ps q hr hs k = go (step c r st) refl hr.1.0
    where
      go : (o : Outcome) → step c r st ≡ o → Only10 (step c s (state_after st o))
          → content (present c st) k (state_after (state_after st o) (step c s (state_after st o))) ≡ content (present c st) k (state_after st (step c s st))
      go (refused j) e i = refl
      go (answered a t) e i =
          remove_after c s t (differs_step c r st s₀ (answered a t) e) (present c st) (present-after c r st (answered a t) e) k ps i
          ∙ ap (cond (same_list s.args.key k) none) (put-served c r st a t k s₀ pr e)
          ∙ rw (same_true r.args.key s.args.key q) (twice (same_list s.args.key k) _ _ _)
          ∙ sym (remove_after c s st s₀ (present c st) refl k ps hs.0)

  -- what stands under a key behind two puts that are answered
  both-puts : (r s : Request) → r.op ≡ Put → s.op ≡ Put → AllAnswered (run (in_context c (r ∷ s ∷ [])) st) → (k : List ℕ)
      → content (present c st) k (final_state (in_context c (r ∷ s ∷ [])) st)
      ≡ cond (same_list s.args.key k) (written (present c st) s) (cond (same_list r.args.key k) (written (present c st) r) (content (present c st) k st))
  unfolding run ends
  both-puts r s pr ps h k = one (step c r st) refl h.0 h.1.0
    where
      two : (t : State) → Differs t → present c t ≡ present c st → (o : Outcome) → step c s t ≡ o → is_answered o ≡ true
          → content (present c st) k (state_after t o) ≡ cond (same_list s.args.key k) (written (present c st) s) (content (present c st) k t)
      two t d p (refused j) e i = never (cc)
      two t d p (answered a u) e i = rw p at (put-served c s t a u k d ps e)

      one : (o : Outcome) → step c r st ≡ o → is_answered o ≡ true → is_answered (step c s (state_after st o)) ≡ true
          → content (present c st) k (state_after (state_after st o) (step c s (state_after st o)))
          ≡ cond (same_list s.args.key k) (written (present c st) s) (cond (same_list r.args.key k) (written (present c st) r) (content (present c st) k st))
      one (refused j) e i l = never (cc)
      one (answered a t) e i l =
          two t (differs_step c r st s₀ (answered a t) e) (present-after c r st (answered a t) e) (step c s t) refl l
          ∙ ap (cond (same_list s.args.key k) (written (present c st) s)) (put-served c r st a t k s₀ pr e)

  exchange : (r s : Request) → r.op ≡ Put → s.op ≡ Put → same_key r s ≡ false → AllAnswered (run (in_context c (r ∷ s ∷ [])) st) → AllAnswered (run (in_context c (s ∷ r ∷ [])) st)
      → SameStanding c st (r ∷ s ∷ []) (s ∷ r ∷ [])
  unfolding run ends
  exchange r s pr ps q hr hs k =
      both-puts r s pr ps hr k
      ∙ exchanged (same_list s.args.key k) (same_list r.args.key k) (differ-keys r s k q) _ _ _
      ∙ sym (both-puts s r ps pr hs k)

-- whatever was before it, behind a clear nothing stands
clear_last : (c : Context) (now : ℕ) (k : List ℕ) (s : Request) → s.op ≡ Clear → (rs : List Request) (st : State) → AllOnly10 (run (in_context c (rs ++ (s ∷ []))) st)
    → content now k (final_state (in_context c (rs ++ (s ∷ []))) st) ≡ none
unfolding run ends
clear_last c now k s q [] st h = clear_after c s st now k q h.0
clear_last c now k s q (r ∷ rs) st h = clear_last c now k s q rs (state_after st (step c r st)) h.1

-- what `content` says of an entry that is found
found-content : (o : Option Entry) (x : Content) → content_of o ≡ some x → (f : Entry) × (o ≡ some f) × (f.value ≡ x.value) × (f.deadline ≡ x.deadline)
found-content none x e = never (cc)
found-content (some f) x e = (f, refl, ap (λ (o : Option Content). value_in o) e, ap (λ (o : Option Content). deadline_in o) e)
  where
    value_in : Option Content → List ℕ
    value_in none = []
    value_in (some y) = y.value

    deadline_in : Option Content → ℕ
    deadline_in none = 0
    deadline_in (some y) = y.deadline

-- Where the same stands under each key, each entry that stands in the one state has one of the same key, value and deadline that stands in the other.
pub same_entries : (now : ℕ) (st t : State) → Pairs OtherKey st.entries → ((k : List ℕ) → content now k st ≡ content now k t) → (e : Entry)
    → In e (standing now st.entries) → (f : Entry) × In f (standing now t.entries) × (f.key ≡ e.key) × (f.value ≡ e.value) × (f.deadline ≡ e.deadline)
unfolding content
same_entries now st t d h e i =
    let k = e.key in
    let a = in_find k e (standing now st.entries) (pairs-without (expired now) OtherKey st.entries d) i (same_refl k) in
    let b = found-content (find (has_key k) (standing now t.entries)) (record { value = e.value; deadline = e.deadline }) (sym (h k) ∙ ap content_of a) in
    let j = find_in (has_key k) b.0 (standing now t.entries) b.1 in
    (b.0, j.0, same_true b.0.key k j.1, b.2, b.3)

pub combines : Combines
combines =
    record {
      puts = λ c st r s h. puts c st h r s;
      removes = λ c st r s h. removes c st h r s;
      put_remove = λ c st r s h. put_remove c st h r s;
      clears = λ c st rs s h q hr hs k. clear_last c (present c st) k s q rs st hr ∙ sym (clear_last c (present c st) k s q [] st hs);
      exchange = λ c st r s h. exchange c st h r s;
    }
