-- What is found in a list of entries behind a write, that a refused step changes nothing, and that no version is issued twice. Assumes nothing.
use mathlib.Core.Path.{◌≡◌, refl, sym, ap, subst, ◌∙◌}
use mathlib.Core.List.{List, [], ◌∷◌, ◌++◌, map}
use mathlib.Core.Bool.{Bool, true, false, cond}
use mathlib.Core.Option.{Option, none, some}
use mathlib.Core.Logic.{◌⊎◌, inl, inr}
use Prim.Native.Nat.{ℕ, suc, ◌<◌}
use native.Mathlib.Omega.{arith}
use borrow.Author.Tests.{lt-ltb, le-ltb}
use Rattle.wire.proofs.SameLaws.{same_true}
use Rattle.message.specs.Request.{Request}
use Rattle.map.specs.State.{Entry, State, find, without, has_key}
use Rattle.map.specs.Deadline.{expired}
use Rattle.map.specs.Plan.{Change, keep, store, drop, empty}
use Rattle.map.specs.Step.{Context, Outcome, refused, answered, entry, stored, dropped, emptied, names, planned, present, swept, noted, arrive, step, state_after, Taken, run}
use Rattle.map.specs.Table.{Each, In}
use Rattle.map.specs.Issued.{issued, Above, WritesIssued, lasts_of, IssuedOnce}
use Rattle.map.proofs.Each.{each_left}
use Rattle.map.proofs.Members.{in_without, in_add}
use Rattle.map.proofs.Answered.{changed, did}
use Rattle.map.proofs.Commute.{issues}

-- what is found behind a removal, and behind a write
abbrev pub or_else : Option Entry → Option Entry → Option Entry
or_else none b = b
or_else (some e) b = some e

or-none : (o : Option Entry) → or_else o none ≡ o
or-none none = refl
or-none (some e) = refl

module _ (p : Entry → Bool) where
  pub find-without : (q : Entry → Bool) → ((e : Entry) → q e ≡ true → p e ≡ false) → (es : List Entry) → find p (without q es) ≡ find p es
  unfolding find without
  find-without q h [] = refl
  find-without q h (e ∷ es) = go (q e) refl (find-without q h es)
    where
      go : (t : Bool) → q e ≡ t → find p (without q es) ≡ find p es → find p (cond t (without q es) (e ∷ without q es)) ≡ cond (p e) (some e) (find p es)
      go true i ih = rw (h e i, ih)
      go false i ih = rw ih

  pub find_none : (es : List Entry) → Each (λ e. p e ≡ false) es → find p es ≡ none
  unfolding find
  find_none [] h = refl
  find_none (e ∷ es) h = rw (h.0, find_none es h.1)

  pub find_append : (es : List Entry) (e : Entry) → find p (es ++ (e ∷ [])) ≡ or_else (find p es) (cond (p e) (some e) none)
  unfolding find
  find_append [] e = refl
  find_append (x ∷ es) e = go (p x) (find_append es e)
    where
      go : (t : Bool) → find p (es ++ (e ∷ [])) ≡ or_else (find p es) (cond (p e) (some e) none)
          → cond t (some x) (find p (es ++ (e ∷ []))) ≡ or_else (cond t (some x) (find p es)) (cond (p e) (some e) none)
      go true ih = refl
      go false ih = ih

pub find-stored : (k : List ℕ) (es : List Entry) (e : Entry)
    → find (has_key k) (without (has_key e.key) es ++ (e ∷ [])) ≡ cond (has_key k e) (some e) (find (has_key k) es)
find-stored k es e = find_append (has_key k) (without (has_key e.key) es) e ∙ go (has_key k e) refl
  where
    go : (t : Bool) → has_key k e ≡ t
        → or_else (find (has_key k) (without (has_key e.key) es)) (cond t (some e) none) ≡ cond t (some e) (find (has_key k) es)
    go true i = rw (same_true e.key k i, find_none (has_key k) (without (has_key k) es) (each_left (has_key k) es))
    go false i =
        or-none (find (has_key k) (without (has_key e.key) es))
        ∙ find-without (has_key k) (has_key e.key) (λ f j. rw (same_true f.key e.key j) i) es

-- "a refused step leaves the map and the latest second served as they were before it": the steps behind it go on from there
pub refused-keeps : (c : Context) (r : Request) (st : State) (k : ℕ) → step c r st ≡ refused k → (xs : List (Context × Request))
    → run ((c, r) ∷ xs) st ≡ record { request = r; outcome = refused k; state = st } ∷ run xs st
unfolding run
refused-keeps c r st k e xs = rw e

above-less : (n m : ℕ) → n < m → (vs : List ℕ) → Above m vs → Above n vs
above-less n m l [] h = tt
above-less n m l (v ∷ vs) h = (omega (arith, h.0), above-less n m l vs h.1)

-- a step issues none, or the next one
abbrev pub Next : ℕ → ℕ → Type 0
Next n m = (m ≡ n) ⊎ (m ≡ suc n)

-- the state behind a step, answered or refused
pub issues-after : (c : Context) (r : Request) (st : State) (o : Outcome) → step c r st ≡ o → Next st.last (state_after st o).last
issues-after c r st (refused k) e = inl refl
issues-after c r st (answered a t) e = issues c r st a t e

-- what a change writes has the version that it issues
changed-writes : (r : Request) (st : State) (d : Change) → WritesIssued st (changed r st d)
unfolding changed stored dropped emptied entry
changed-writes r st keep e i = inl i
changed-writes r st drop e i = inl (in_without (names r) e st.entries i).0
changed-writes r st empty e i = absurd i
changed-writes r st store e i = go (in_add e (entry st.history.latest r (suc st.last)) (without (names r) st.entries) i)
  where
    go : In e (without (names r) st.entries) ⊎ (entry st.history.latest r (suc st.last) ≡ e)
        → In e st.entries ⊎ ((st.last < suc st.last) × (e.version ≡ suc st.last))
    go (inl j) = inl (in_without (names r) e st.entries j).0
    go (inr s) = inr (omega arith, sym (ap (λ (y : Entry). y.version) s))

-- an entry that is there when a call has come was there before, and stands
pub arrive_had : (c : Context) (r : Request) (st : State) (e : Entry) → In e (arrive c r st).entries → In e st.entries × (expired (present c st) e ≡ false)
unfolding arrive noted swept
arrive_had c r st e i = in_without (expired (present c st)) e st.entries i

pub arrive-last : (c : Context) (r : Request) (st : State) → (arrive c r st).last ≡ st.last
unfolding arrive noted swept
arrive-last c r st = refl

pub writes-after : (c : Context) (r : Request) (st : State) (o : Outcome) → step c r st ≡ o → WritesIssued st (state_after st o)
unfolding arrive noted swept
writes-after c r st (refused k) p e i = inl i
writes-after c r st (answered a t) p e i =
    let q = (did c r st a t p).state in
    go (rw (sym q) at (changed-writes r (arrive c r st) (planned r (arrive c r st)).change) e i)
  where
    go : In e (arrive c r st).entries ⊎ ((st.last < t.last) × (e.version ≡ t.last)) → In e st.entries ⊎ ((st.last < t.last) × (e.version ≡ t.last))
    go (inl j) = inl (arrive_had c r st e j).0
    go (inr h) = inr h

pub once-none : (st : State) → IssuedOnce st []
unfolding issued
once-none st = record { above = tt; ascends = tt; writes = tt }

pub once-next : (st t : State) (ts : List State) → Next st.last t.last → WritesIssued st t → IssuedOnce t ts → IssuedOnce st (t ∷ ts)
unfolding issued
once-next st t ts (inl e) w h =
    let z : issued st.last (t.last ∷ lasts_of ts) ≡ issued t.last (lasts_of ts) = rw (e, le-ltb st.last st.last (omega arith)) in
    record { above = rw z (subst (λ (n : ℕ). Above n (issued t.last (lasts_of ts))) e h.above); ascends = rw z h.ascends; writes = (w, h.writes) }
once-next st t ts (inr e) w h =
    let z : issued st.last (t.last ∷ lasts_of ts) ≡ t.last ∷ issued t.last (lasts_of ts) = rw (lt-ltb st.last t.last (omega arith)) in
    record {
      above = rw z (omega arith, above-less st.last t.last (omega arith) (issued t.last (lasts_of ts)) h.above);
      ascends = rw z (h.above, h.ascends);
      writes = (w, h.writes);
    }

-- of the steps of a run
pub never-twice : (xs : List (Context × Request)) (st : State) → IssuedOnce st (map (λ (x : Taken). x.state) (run xs st))
unfolding run
never-twice [] st = once-none st
never-twice (x ∷ xs) st =
    let o = step x.0 x.1 st in
    once-next st (state_after st o) _ (issues-after x.0 x.1 st o refl) (writes-after x.0 x.1 st o refl) (never-twice xs (state_after st o))
