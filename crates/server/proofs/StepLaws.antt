-- What a step of the map makes of an answer and of the table. Assumes nothing.
use mathlib.Core.Path.{◌≡◌, refl, sym, ap, ap₂, subst, ◌∙◌}
use mathlib.Core.List.{List, [], ◌∷◌}
use mathlib.Core.Bool.{Bool, true, false, cond, not}
use mathlib.Core.Option.{Option, none, some}
use Prim.Native.Nat.{ℕ, suc, ◌≤◌, ◌<◌, ◌^◌}
use native.Mathlib.Omega.{arith}
use lib.ListN.{length, length-append}
use lib.Dec.{ltb}
use borrow.Author.Tests.{lt-ltb, le-ltb, ltb-true}
use Rattle.wire.specs.Codec.{Read, Valid}
use Rattle.wire.proofs.Laws.{never}
use Rattle.message.specs.Arguments.{is_empty}
use Rattle.message.specs.Request.{Request, request}
use Rattle.message.proofs.Sizes.{small}
use Rattle.map.specs.State.{Entry, State, find, without, has_key}
use Rattle.map.specs.Deadline.{deadline, standing}
use Rattle.map.specs.Step as map
use Rattle.map.specs.Plan.{Change, keep, store, drop, empty}
use Rattle.map.specs.Step.{Context, Outcome, answered, last_version, entry, stored, is_none, held, version_of, full, planned, result, act, core, present, swept, noted, arrive, step}
use Rattle.map.specs.Table.{Each, IsTable}
use Rattle.map.specs.Expiry.{Stands}
use Rattle.map.proofs.Standing.{standing_stand}
use Rattle.map.specs.Reply.{flat, pieces}
use Rattle.table.specs.Memory as memory
use Rattle.table.specs.Memory.{bound_index, number_of, state_of, Sound}
use Rattle.table.specs.Sweep.{is_due}
use Rattle.table.specs.Found.{entry_at}
use Rattle.table.specs.Change.{Changed, Left, added, renewed, removed, arrived}
use Rattle.std.specs.Prelude as std
use Rattle.table.proofs.Lists.{says_yes, says_no}
use Rattle.table.proofs.Keys.{found-without, found-less}
use Rattle.table.proofs.Sweeps.{below-bound, not_due}
use Rattle.table.proofs.Order.{each_all}
use Rattle.table.proofs.Changes.{added-changed, renewed-changed, removed-changed, arrived-sound}
use Rattle.service.specs.Serve as stream
use Rattle.service.specs.Serve.{effect, error_pieces, on_step, served}
use Rattle.service.specs.Stream as stream-of
use Rattle.service.specs.Stream.{Done, Does, Serves}
use Rattle.service.specs.Many.{at}
use Rattle.service.proofs.Decides.{is_sound}
use Rattle.service.proofs.Sounds.{tells-sound}
use Rattle.service.proofs.Calls.{within-fits, within-short}
use Rattle.plan.specs.declared.Held.{Held}
use Rattle.plan.specs.Plan.{is_full, refusal_of, Holds, HoldsAt, held_version, held_at, judged_at}
use Rattle.plan.proofs.PlanLaws.{row-found, none_found, held-some, all_stand, version-stands, holds_same, judged-stands}
use Rattle.server.specs.declared.Answer.{Answer}
use Rattle.server.specs.CallDone.{done_of, Says, Sends}
use Rattle.server.specs.Act.{less, replaced, Storable, after, Performs, PerformsWithin}

-- what is sent, with the table that is left
pub does : {ps : _} {n : ℕ} {v : stream.Verdict} {old new : List ℕ} {a : Answer} {o : _} {t t' : List ℕ}
    → Sends ps n v old new a → stream-of.Becomes t o t' → Does (effect n v ps o) t old (done_of a new t')
does s l =
    let e = s.says in
    record { answer = ap₂ (λ (x : ℕ) (y : stream.Verdict). record { taken = x; verdict = y }) e.taken e.verdict; size = e.size; buffer = s.buffer; table = l }

-- nothing sent
pub does-still : {v : stream.Verdict} {t old : List ℕ} {a : Answer} → Says 0 0 v a → Does (stream.unchanged v) t old (done_of a old t)
unfolding stream.unchanged flat
does-still s = does (record { says = s; buffer = refl }) refl

-- a request that is refused
pub does-refused : (q : Request) {n k : ℕ} {o : Outcome} {old new t : List ℕ} {a : Answer} → o ≡ map.refused k
    → Sends (error_pieces k q.id) n (stream.refused k) old new a → Does (on_step q n o) t old (done_of a new t)
unfolding on_step
does-refused q e s = rw e (does s refl)

-- the table without the row held, and with a value under a key
module _ (t k : List ℕ) {x : std.Option Held} (g : Holds t k x) where
  pub row_dropped : {t' : List ℕ} (h : Held) → Sound t → x ≡ std.Some h → Left t (removed h.row t) t' → Changed t t' (less k (state_of t))
  row_dropped h s e l =
      let f = (row-found t k e g).0 in
      rw (found-less t k h.row s.table.keys f) at (removed-changed s h.row f.0 l)

  pub none_dropped : Sound t → x ≡ std.None → Changed t t (less k (state_of t))
  none_dropped s e = record { long = refl; state = rw (found-without t k (none_found t k e g)); layout = s.layout }

module _ {t k v : List ℕ} {x : std.Option Held} {t' : List ℕ} (d : ℕ) (s : Storable t k v x) (l : d < 2 ^ 64) where
  pub row_stored : (h : Held) → x ≡ std.Some h → Left t (renewed h.row v d t) t' → Changed t t' (replaced k v d (state_of t))
  unfolding entry_at
  row_stored h e w =
      let f = (row-found t k e s.holds).0 in
      rw (found-less t k h.row s.sound.table.keys f, f.1) at (renewed-changed s.sound h.row v d s.value l f.0 s.version w)

  pub none_stored : x ≡ std.None → Left t (added k v d t) t' → Changed t t' (replaced k v d (state_of t))
  unfolding entry_at
  none_stored e w =
      let f = none_found t k e s.holds in
      let n = found-without t k f in
      rw n (added-changed s.sound k v d s.key s.value l (rw n at s.room) s.version (each_all (λ y. y.key ≡ k → ⊥) (state_of t).entries (memory.entry [] [] 0 0) f) w)

-- a request that is answered: the table is the one behind its change
pub does-answered : (q : Request) {o : Outcome} {b : map.Result} {st : State} {n : ℕ} {old new t u t' : List ℕ} {a : Answer} → o ≡ answered b st → IsTable st
    → Sends (pieces q b) n served old new a → Changed u t' st → Does (on_step q n o) t old (done_of a new t')
unfolding on_step
does-answered q e i w d = rw e (does w (d.state, record { layout = d.layout; table = rw d.state i }))

-- the refusal of a store, by its two tests
abbrev number : Bool → Bool → Option ℕ
number full left = cond full (some 10) (cond left none (some 11))

-- a version is held where an entry is
none-version : (f : Option Entry) → is_none (version_of f) ≡ is_none f
none-version none = refl
none-version (some e) = refl

module _ (c : Context) (q : Request) (st : State) where
  -- the change that is planned, by what the code holds: it is refused, or it is made
  module _ (o : Option ℕ) (n : o ≡ version_of (held q st)) where
    full-same : is_full st o ≡ full q st
    unfolding is_full full
    full-same = rw (n, none-version)

    act-refused : (d : Change) (k : ℕ) → refusal_of st o d ≡ some k → (act q st (result c q st) d ≡ map.refused k) × ((1 ≤ k) × (k ≤ 11))
    unfolding refusal_of act
    act-refused keep k h = never (cc)
    act-refused drop k h = never (cc)
    act-refused empty k h = never (cc)
    act-refused store k h = go (full q st) (ltb st.last last_version) (rw full-same at h)
      where
        go : (x y : Bool) → number x y ≡ some k
            → (cond x (map.refused 10) (cond y (answered (result c q st) (stored q st)) (map.refused 11)) ≡ map.refused k) × ((1 ≤ k) × (k ≤ 11))
        go true y h = let e : ◌≡◌ {A = ℕ} 10 k = cc in rw (← e) (refl, (omega arith, omega arith))
        go false true h = never (cc)
        go false false h = let e : ◌≡◌ {A = ℕ} 11 k = cc in rw (← e) (refl, (omega arith, omega arith))

    act-made : (d : Change) → refusal_of st o d ≡ none → act q st (result c q st) d ≡ answered (result c q st) (after q st d)
    unfolding refusal_of act
    act-made keep e = refl
    act-made drop e = refl
    act-made empty e = refl
    act-made store e = go (full q st) (ltb st.last last_version) (rw full-same at e)
      where
        go : (x y : Bool) → number x y ≡ none
            → cond x (map.refused 10) (cond y (answered (result c q st) (stored q st)) (map.refused 11)) ≡ answered (result c q st) (stored q st)
        go true y e = never (cc)
        go false true e = refl
        go false false e = never (cc)

-- a call on a sound table: what the code holds of what stands is what the map finds behind `arrive`
module _ (c : Context) (q : Request) (t : List ℕ) (s : Sound t) (x : std.Option Held) (g : HoldsAt (present c (state_of t)) t q.args.key x) where
  pub held-come : held_version x ≡ version_of (held q (arrive c q (state_of t)))
  unfolding held arrive noted swept
  held-come = version-stands (present c (state_of t)) t q.args.key x s.table.keys g

  -- and the table does before the step what the map does
  pub call_noted : c.second < 0x1_0000_0000 → {u : List ℕ} (absent : Bool) → std.is_some x ≡ not absent → Left t (arrived q.op absent c.second t) u
      → stream-of.Becomes t (some (arrive c q (state_of t))) u
  unfolding held swept
  call_noted h {u} absent e l = let z = arrived-sound s c q (omega arith) {u = u} (rw same l) in (z.1, z.0)
    where
      twice : (b : Bool) → not (not b) ≡ b
      twice true = refl
      twice false = refl

      same : is_none (held q (swept c (state_of t))) ≡ absent
      same =
          sym (none-version (held q (swept c (state_of t))))
          ∙ (ap (λ (o : Option ℕ). is_none o) (sym (version-stands (present c (state_of t)) t q.args.key x s.table.keys g))
          ∙ (held-some x (std.is_some x) refl ∙ (ap not e ∙ twice absent)))

-- what is held of the table that is left: all entries there stand at the present second
module _ (c : Context) (q : Request) (t : List ℕ) {u : List ℕ} (w : stream-of.Becomes t (some (arrive c q (state_of t))) u) (x : std.Option Held) where
  entries-left : (state_of u).entries ≡ standing (present c (state_of t)) (state_of t).entries
  unfolding arrive noted swept
  entries-left = ap (λ (st : State). st.entries) w.0

  pub held_on : Sound t → is_due (present c (state_of t)) t ≡ false → HoldsAt (present c (state_of t)) t q.args.key x → Holds u q.args.key x
  held_on s d g =
      let n = present c (state_of t) in
      let es = (state_of t).entries in
      let e = below-bound n (number_of t bound_index) es (not_due n t s.layout.long d) s.layout.bound in
      holds_same t u q.args.key (entries-left ∙ e) x (all_stand n t q.args.key x (subst (Each (Stands n)) e (standing_stand n es)) g)

  pub held-left : Sound t → HoldsAt (present c (state_of t)) t q.args.key x → held_version x ≡ version_of (held_at u q.args.key)
  unfolding held
  held-left s g = held-come c q t s x g ∙ ap (λ (st : State). version_of (find (has_key q.args.key) st.entries)) (sym w.0)

-- a change is judged by what stands, as the step judges it
pub judged-come : (c : Context) (q : Request) (t : List ℕ) → Sound t → (o : Option ℕ) (d : Change)
    → refusal_of (judged_at (present c (state_of t)) t) o d ≡ refusal_of (arrive c q (state_of t)) o d
unfolding refusal_of is_full arrive noted swept
judged-come c q t s o keep = refl
judged-come c q t s o store = rw (judged-stands (present c (state_of t)) t s)
judged-come c q t s o drop = refl
judged-come c q t s o empty = refl

-- a step goes by what the code finds before the call is noted
module _ (c : Context) (q : Request) (st : State) where
  pub step-named : is_empty q.name ≡ false → step c q st ≡ map.refused 9
  unfolding step core
  step-named e = rw e

  abbrev come : State
  come = arrive c q st

  module _ (o : Option ℕ) (n : o ≡ version_of (held q come)) (d : Change) (e : is_empty q.name ≡ true) (p : (planned q come).change ≡ d) where
    step_acts : step c q st ≡ act q come (result c q come) d
    unfolding step core
    step_acts = rw (e, p)

    pub step-refused : (k : ℕ) → refusal_of come o d ≡ some k → (step c q st ≡ map.refused k) × ((1 ≤ k) × (k ≤ 11))
    step-refused k h = let z = act-refused c q come o n d k h in (step_acts ∙ z.0, z.1)

    pub step-made : refusal_of come o d ≡ none → step c q st ≡ answered (result c q come) (after q come d)
    step-made h = step_acts ∙ act-made c q come o n d h

-- a store that is not refused has a version left
pub version-left : (st : State) (o : Option ℕ) → refusal_of st o store ≡ none → st.last < last_version
unfolding refusal_of
version-left st o e = go (is_full st o) (ltb st.last last_version) refl e
  where
    go : (x y : Bool) → ltb st.last last_version ≡ y → number x y ≡ none → st.last < last_version
    go true y z e = never (cc)
    go false true z e = ltb-true st.last last_version z
    go false false z e = never (cc)

-- the request's value can be stored, and storing it is the map's change
pub storable : (q : Request) (t : List ℕ) {held : std.Option Held} → Sound t → Valid request q → IsTable (stored q (state_of t)) → Holds t q.args.key held
    → (state_of t).last < last_version → Storable t q.args.key q.args.value held
unfolding stored
storable q t s v i g l =
    let x = i.few in
    let es = without (has_key q.args.key) (state_of t).entries in
    record {
      sound = s;
      holds = g;
      key = (small q v).key;
      value = (small q v).value;
      room = omega (arith, length-append es (entry (state_of t).history.latest q (suc (state_of t).last) ∷ []));
      version = l;
    }

pub replaced-is : (q : Request) (st : State) {d : ℕ} → d ≡ deadline st.history.latest q → replaced q.args.key q.args.value d st ≡ stored q st
unfolding stored entry memory.entry
replaced-is q st e = rw e

-- a call on a sound table, with room for an error reply: what is read says what it does
pub serves-read : (input t out : List ℕ) (c : Context) {d : Done} {x : Read Request} → Sound t → stream.room ≤ length out → request.dec input ≡ x
    → Does (stream.within (length out) x (stream.on_read input c (state_of t) x)) t out d → Serves input t (at c out) d
unfolding stream.serve
serves-read input t out c s l e d = record { ok = true; tells = says_yes s; does = rw (le-ltb (length out) stream.room l, e) d }

-- and one that is refused before it is read
pub serves-short : (input t out : List ℕ) (c : Context) {a : Answer} → length out < stream.room → Says 0 0 (stream.refused 12) a → Serves input t (at c out) (done_of a out t)
unfolding stream.serve
serves-short input t out c l s =
    record { ok = is_sound t; tells = tells-sound t; does = rw (lt-ltb (length out) stream.room l) (does-still s) }

pub serves-unsound : (input t out : List ℕ) (c : Context) {a : Answer} → stream.room ≤ length out → (Sound t → ⊥) → Says 0 0 (stream.refused 13) a
    → Serves input t (at c out) (done_of a out t)
unfolding stream.serve
serves-unsound input t out c l e s =
    record { ok = false; tells = says_no e; does = rw (le-ltb (length out) stream.room l) (does-still s) }

-- a request, by whether there is the room that it asks for
module _ (t : List ℕ) (q : Request) (c : Context) (n : ℕ) (out : List ℕ) where
  pub performs_short : length out < stream.room_of q.op → {a : Answer} → Says n 0 (stream.refused 12) a → PerformsWithin t q c n out (done_of a out t)
  unfolding flat
  performs_short l s = rw (within-short (length out) q n (on_step q n (step c q (state_of t))) l) (does (record { says = s; buffer = refl }) refl)

  pub performs_fits : {d : Done} → stream.room_of q.op ≤ length out → Performs t q c n out d → PerformsWithin t q c n out d
  performs_fits l e = rw (within-fits (length out) q n (on_step q n (step c q (state_of t))) l) e
