-- A step does not look at the order of the entries. Assumes nothing.
use mathlib.Core.Path.{◌≡◌, refl, sym, ap, subst₂, ◌∙◌}
use mathlib.Core.List.Permᴰ
use mathlib.Core.List.Permᴰ.{cons}
use mathlib.Core.List.Permᴰ.{nil}
use mathlib.Core.List.Permᴰ.{swap}
use mathlib.Core.List.Permᴰ.{trans}
use mathlib.Core.List.{List, ◌∷◌, Permᴰ as Perm}
use mathlib.Core.Bool.{Bool, true, false, cond}
use mathlib.Core.Option.{Option, some}
use Prim.Native.Nat.{ℕ}
use lib.Dec.{ltb}
use Rattle.message.specs.Arguments.{is_empty}
use Rattle.message.specs.Request.{Request}
use Rattle.map.specs.State.{Entry, State, find, without, has_key}
use Rattle.map.specs.Deadline.{expired}
use Rattle.map.specs.Plan.{Change, keep, store, drop, empty}
use Rattle.map.specs.Step.{Context, Result, Outcome, last_version, stored, dropped, emptied, names, held, full, planned, statistics, status_of, result, act, core, present, swept, noted, arrive, step}
use Rattle.map.specs.Table.{Pairs, OtherKey, OtherVersion, IsTable}
use Rattle.map.specs.Order.{SameState, SameOutcome}
use Rattle.wire.proofs.SameLaws.{same_true}
use Rattle.map.proofs.Each.{pairs-without, same-pairs, same_length}
use Rattle.map.proofs.ListedLaws.{same-listed}

without_cons : (b : Bool) (e : Entry) {es fs : List Entry} → Perm es fs → Perm (cond b es (e ∷ es)) (cond b fs (e ∷ fs))
without_cons true e s = s
without_cons false e s = cons refl s

without_swap : (a b : Bool) (e f : Entry) (es : List Entry)
    → Perm (cond a (cond b es (f ∷ es)) (e ∷ cond b es (f ∷ es))) (cond b (cond a es (e ∷ es)) (f ∷ cond a es (e ∷ es)))
without_swap true true e f es = Permᴰ.refl es
without_swap true false e f es = Permᴰ.refl (f ∷ es)
without_swap false true e f es = Permᴰ.refl (e ∷ es)
without_swap false false e f es = swap refl refl

module _ (p : Entry → Bool) where
  same-without : {es fs : List Entry} → Perm es fs → Perm (without p es) (without p fs)
  unfolding without
  same-without nil = nil
  same-without (cons {b = e} q s) = rw q (without_cons (p e) e (same-without s))
  same-without (swap {a' = f} {b' = e} {l = es} q r) = rw (q, r) (without_swap (p e) (p f) e f (without p es))
  same-without (trans s t) = trans (same-without s) (same-without t)

other-turn : (e f : Entry) → OtherKey e f → OtherKey f e
other-turn e f h q = h (sym q)

-- one entry has a key, so it is found in any order
module _ (k : List ℕ) where
  find_swap : (e f : Entry) (o : Option Entry) → OtherKey e f
      → cond (has_key k e) (some e) (cond (has_key k f) (some f) o) ≡ cond (has_key k f) (some f) (cond (has_key k e) (some e) o)
  find_swap e f o h = go (has_key k e) (has_key k f) refl refl
    where
      go : (a b : Bool) → has_key k e ≡ a → has_key k f ≡ b → cond a (some e) (cond b (some f) o) ≡ cond b (some f) (cond a (some e) o)
      go true true p q = absurd (h (same_true e.key k p ∙ sym (same_true f.key k q)))
      go true false p q = refl
      go false true p q = refl
      go false false p q = refl

  same-find : {es fs : List Entry} → Perm es fs → Pairs OtherKey es → find (has_key k) es ≡ find (has_key k) fs
  unfolding find
  same-find nil h = refl
  same-find (cons {b = e} p s) h = rw p (ap (cond (has_key k e) (some e)) (same-find s h.1))
  same-find (swap {a' = f} {b' = e} {l = es} p q) h = rw (p, q) (find_swap e f (find (has_key k) es) (subst₂ OtherKey p q h.0.0))
  same-find (trans s t) h = same-find s h ∙ same-find t (same-pairs OtherKey other-turn s h)

-- two outcomes by one test
same_if : (b : Bool) (x y u v : Outcome) → SameOutcome x u → SameOutcome y v → SameOutcome (cond b x y) (cond b u v)
same_if true x y u v p q = p
same_if false x y u v p q = q

module _ (c : Context) (r : Request) (st us : State) (s : SameState st us) (keys : Pairs OtherKey st.entries) (versions : Pairs OtherVersion st.entries) where
  same-held : held r st ≡ held r us
  unfolding held
  same-held = same-find r.args.key s.entries keys

  same_full : full r st ≡ full r us
  unfolding full
  same_full = rw (same-held, same_length s.entries)

  same-planned : planned r st ≡ planned r us
  unfolding planned
  same-planned = rw same-held

  same-statistics : statistics c st ≡ statistics c us
  unfolding statistics
  same-statistics = rw (s.history, same_length s.entries)

  same-result : result c r st ≡ result c r us
  unfolding result status_of
  same-result = rw (same-planned, same-held, same-statistics, same-listed r st us s versions)

  same_rest : Perm (without (names r) st.entries) (without (names r) us.entries)
  same_rest = same-without (names r) s.entries

  same-stored : SameState (stored r st) (stored r us)
  unfolding stored
  same-stored = rw (s.last, s.history) (record { entries = Permᴰ.append_right _ same_rest; last = refl; history = refl })

  same-act : (a : Result) (d : Change) → SameOutcome (act r st a d) (act r us a d)
  unfolding act dropped emptied
  same-act a keep = (refl, s)
  same-act a drop = (refl, record { entries = same_rest; last = s.last; history = s.history })
  same-act a empty = (refl, record { entries = nil; last = s.last; history = s.history })
  same-act a store =
      let e : ltb st.last last_version ≡ ltb us.last last_version = rw s.last in
      rw (same_full, e)
      (same_if (full r us) _ _ _ _ refl (same_if (ltb us.last last_version) _ _ _ _ (refl, same-stored) refl))

  core-order : SameOutcome (core c r st) (core c r us)
  unfolding core
  core-order = rw (same-planned, same-result) (same_if (is_empty r.name) _ _ _ _ (same-act (result c r us) (planned r us).change) refl)

  same_noted : SameState (noted c r st) (noted c r us)
  unfolding noted
  same_noted = rw (same-held, s.history) (record { entries = s.entries; last = s.last; history = refl })

module _ (c : Context) (st us : State) (s : SameState st us) where
  same-swept : SameState (swept c st) (swept c us)
  unfolding swept
  same-swept = rw s.history (record { entries = same-without (expired (present c us)) s.entries; last = s.last; history = refl })

pub order : (c : Context) (r : Request) (st us : State) → SameState st us → IsTable st → SameOutcome (step c r st) (step c r us)
unfolding step arrive noted swept
order c r st us s h =
    let p = expired (present c st) in
    let keys = pairs-without p OtherKey st.entries h.keys in
    let versions = pairs-without p OtherVersion st.entries h.versions in
    core-order c r (arrive c r st) (arrive c r us) (same_noted c r (swept c st) (swept c us) (same-swept c st us s) keys versions) keys versions
