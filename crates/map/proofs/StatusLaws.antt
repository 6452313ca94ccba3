-- Each status of the reply table is given by some step, and no other is. Assumes nothing.
use mathlib.Core.Path.{◌≡◌, refl, sym, ap, subst, ◌∙◌}
use mathlib.Core.List.{List, [], ◌∷◌}
use mathlib.Core.Bool.{Bool, true, false, cond, not, ◌&&◌, ◌||◌}
use mathlib.Core.Option.{Option, none, some}
use Prim.Native.Nat.{ℕ, ◌%◌, ◌≤◌}
use lib.Dec.{eqb, ltb, lit≤}
use borrow.Author.Tests.{eqb-true}
use Rattle.wire.specs.Codec.{Valid, is_bytes, empty, raw, byte, guard, seq, as_type}
use Rattle.wire.specs.Number.{number, v_int, v_long}
use Rattle.wire.specs.Field.{big_endian, limited}
use Rattle.text.specs.Text.{text_after, is_text}
use Rattle.field.specs.FieldRead.{limited_text}
use Rattle.wire.specs.Same.{same_list}
use Rattle.wire.proofs.Laws.{never, both, guard-valid}
use Rattle.wire.proofs.Basics.{pick}
use Rattle.message.specs.declared.Operation.{Operation}
use Rattle.message.specs.Operation.{find_code}
use Rattle.message.specs.Arguments.{args, shape_of, args_of}
use Rattle.message.specs.Edition.{Edition, edition_of, is_served}
use Rattle.message.specs.Request.{Request, is_version, edition_at, operation, transaction, fields, request}
use Rattle.message.specs.ReplyTable.{Body, table, body_at, is_allowed, reply_status}
use Rattle.message.proofs.Every.{every}
use Rattle.map.specs.State.{State, fresh, with_entries, with_last, find, without}
use Rattle.map.specs.Deadline.{deadline, expired}
use Rattle.map.specs.Plan.{Change, keep, store, drop, empty as clears, plans, plan}
use Rattle.map.specs.Step.{Context, Result, answered, last_version, with_old, entry, stored, is_none, full, held, planned, status_of, result, act, core, swept, noted, arrive, step}
use Rattle.map.specs.Table.{IsTable}
use Rattle.map.specs.Update.{is_update}
use Rattle.map.specs.Reply.{pieces}
use Rattle.map.specs.OldValue.{held_then, planned_of, Given, OldValues}
use Rattle.map.proofs.CountLaws.{fresh-counts}
use Rattle.map.proofs.Format.{row_fits}
use Rattle.map.proofs.OldLaws.{status-is, follows-status, follows-shown, neither, idle-flags}

-- a request that asks for version 1 where it asks for one, and three tables for it: one without its key, and two with it, of version 1 and of version 2
abbrev asking : ℕ → Bool → Operation → Request
asking v flag o =
    record { id = 0; version = v; op = o; name = []; flags = cond flag 1 0; intelligence = 1; topology = 0; args = args [] 0 0 (cond (is_update o) 1 0) 0 [] }

data Place : Type 0 where
  absent same other : Place

abbrev version_at : Place → Option ℕ
version_at absent = none
version_at same = some 1
version_at other = some 2

abbrev holding : Request → ℕ → State
holding r w = with_last 2 (with_entries (entry 0 r w ∷ []) fresh)

abbrev placed : Request → Place → State
placed r absent = fresh
placed r same = holding r 1
placed r other = holding r 2

-- the status that a plan gives, as computed
abbrev status_at : Bool → Operation → Place → ℕ
status_at t o p = reply_status t o (not (is_none (version_at p))) (plan o (cond (is_update o) 1 0) (version_at p)).status

abbrev gives : Bool → Operation → ℕ → Place → Bool
gives t o s p = eqb (status_at t o p) s

abbrev any_gives : Bool → Operation → ℕ → Bool
any_gives t o s = gives t o s absent || (gives t o s same || gives t o s other)

abbrev all_given : Bool → Operation → List (ℕ × Body) → Bool
all_given t o [] = true
all_given t o (x ∷ xs) = any_gives t o x.0 && all_given t o xs

each-status : (t : Bool) (o : Operation) → all_given t o (table t o) ≡ true
unfolding plan plans reply_status
each-status true = every (λ o. all_given true o (table true o)) refl
each-status false = every (λ o. all_given false o (table false o)) refl

-- the place of a status that is given
abbrev At : Bool → Operation → ℕ → Type 0
At t o s = (p : Place) × (status_at t o p ≡ s)

at_place : (t : Bool) (o : Operation) (s : ℕ) → any_gives t o s ≡ true → At t o s
at_place t o s h = go (gives t o s absent) (gives t o s same) (gives t o s other) refl refl refl h
  where
    go : (x y z : Bool) → gives t o s absent ≡ x → gives t o s same ≡ y → gives t o s other ≡ z → (x || (y || z)) ≡ true → At t o s
    go true y z e f g q = (absent, eqb-true (status_at t o absent) s e)
    go false true z e f g q = (same, eqb-true (status_at t o same) s f)
    go false false true e f g q = (other, eqb-true (status_at t o other) s g)
    go false false false e f g q = never (cc)

at_row : (t : Bool) (o : Operation) (s : ℕ) (rows : List (ℕ × Body)) → all_given t o rows ≡ true → is_allowed (body_at s rows) ≡ true → At t o s
unfolding body_at
at_row t o s [] h a = never (cc)
at_row t o s (x ∷ rows) h a =
    let w = both (any_gives t o x.0) (all_given t o rows) h in
    pick (λ (b : Option Body). is_allowed b ≡ true → At t o s) (eqb s x.0) (λ e q. at_place t o s (rw (eqb-true s x.0 e) w.0)) (at_row t o s rows w.1) a

-- these are tables
fresh-table : IsTable fresh
fresh-table =
    record {
      few = lit≤ tt;
      keys = tt;
      sizes = tt;
      versions = tt;
      issued = tt;
      last = lit≤ tt;
      counts = fresh-counts;
      seconds = record { first = lit≤ tt; latest = lit≤ tt };
    }

holding-table : (v : ℕ) (flag : Bool) (o : Operation) (w : ℕ) → 1 ≤ w → w ≤ 2 → IsTable (holding (asking v flag o) w)
unfolding entry deadline is_bytes
holding-table v flag o w l h =
    record {
      few = lit≤ tt;
      keys = (tt, tt);
      sizes = (record { key = lit≤ tt; value = lit≤ tt; key_bytes = refl; value_bytes = refl; deadline = lit≤ tt }, tt);
      versions = (tt, tt);
      issued = ((l, h), tt);
      last = lit≤ tt;
      counts = fresh-counts;
      seconds = record { first = lit≤ tt; latest = lit≤ tt };
    }

placed-table : (v : ℕ) (flag : Bool) (o : Operation) (p : Place) → IsTable (placed (asking v flag o) p)
placed-table v flag o absent = fresh-table
placed-table v flag o same = holding-table v flag o 1 (lit≤ tt) (lit≤ tt)
placed-table v flag o other = holding-table v flag o 2 (lit≤ tt) (lit≤ tt)

-- the step is answered
act-answers : (r : Request) (st : State) (a : Result) (d : Change) → full r st ≡ false → ltb st.last last_version ≡ true → (t : State) × (act r st a d ≡ answered a t)
unfolding act
act-answers r st a keep f l = (_, refl)
act-answers r st a drop f l = (_, refl)
act-answers r st a clears f l = (_, refl)
act-answers r st a store f l = (stored r st, rw (f, l))

module _ (c : Context) (v : ℕ) (flag : Bool) (o : Operation) where
  abbrev r : Request
  r = asking v flag o

  not_full : (p : Place) → full r (arrive c r (placed r p)) ≡ false
  unfolding full arrive noted swept held find without expired entry deadline same_list
  not_full absent = refl
  not_full same = refl
  not_full other = refl

  versions-left : (p : Place) → ltb (arrive c r (placed r p)).last last_version ≡ true
  unfolding arrive noted swept
  versions-left absent = refl
  versions-left same = refl
  versions-left other = refl

  answers : (p : Place) → (t : State) × (step c r (placed r p) ≡ answered (result c r (arrive c r (placed r p))) t)
  unfolding step core
  answers p = let x = arrive c r (placed r p) in act-answers r x (result c r x) (planned r x).change (not_full p) (versions-left p)

  gives-status : (p : Place) → (result c r (arrive c r (placed r p))).status ≡ status_at (with_old r) o p
  unfolding result status_of planned held arrive noted swept find without expired entry deadline same_list
  gives-status absent = refl
  gives-status same = refl
  gives-status other = refl

flag_is : (flag : Bool) → eqb (cond flag 1 0 % 2) 1 ≡ flag
flag_is true = refl
flag_is false = refl

-- what holds of each served version holds of a version that is served
of-version : (P : ℕ → Type 0) → P 10 → P 11 → P 12 → P 20 → (v : ℕ) → is_version v ≡ true → P v
unfolding edition_of
of-version P a b d e v =
    let Q : Option Edition → Type 0 = λ x. is_served x ≡ true → P v in
    pick Q (eqb v 10) (λ q s. subst P (sym (eqb-true v 10 q)) a)
    (pick Q (eqb v 11) (λ q s. subst P (sym (eqb-true v 11 q)) b)
    (pick Q (eqb v 12) (λ q s. subst P (sym (eqb-true v 12 q)) d) (pick Q (eqb v 20) (λ q s. subst P (sym (eqb-true v 20 q)) e) (λ s. never (cc)))))

-- the request has a written form in each version that is served and has the operation
abbrev fits : ℕ → Bool → Operation → Bool
fits v flag o = not ((edition_at v).serves o) || request.ok (asking v flag o)

fits_in : (flag : Bool) (o : Operation) → (fits 10 flag o && (fits 11 flag o && (fits 12 flag o && fits 20 flag o))) ≡ true
unfolding request fields operation transaction args_of shape_of find_code edition_of as_type seq guard byte empty raw v_int v_long limited limited_text is_text text_after big_endian number is_bytes
fits_in true = every (λ o. fits 10 true o && (fits 11 true o && (fits 12 true o && fits 20 true o))) refl
fits_in false = every (λ o. fits 10 false o && (fits 11 false o && (fits 12 false o && fits 20 false o))) refl

asking-fits : (v : ℕ) (flag : Bool) (o : Operation) → is_version v ≡ true → (edition_at v).serves o ≡ true → Valid request (asking v flag o)
asking-fits v flag o s h =
    let a = both (fits 10 flag o) (fits 11 flag o && (fits 12 flag o && fits 20 flag o)) (fits_in flag o) in
    let b = both (fits 11 flag o) (fits 12 flag o && fits 20 flag o) a.1 in
    let d = both (fits 12 flag o) (fits 20 flag o) b.1 in
    left ((edition_at v).serves o) (request.ok (asking v flag o)) h (of-version (λ n. fits n flag o ≡ true) a.0 b.0 d.0 d.1 v s)
  where
    left : (x y : Bool) → x ≡ true → (not x || y) ≡ true → y ≡ true
    left true y e q = q
    left false y e q = never (cc)

pub given : (v : ℕ) (flag : Bool) (o : Operation) (s : ℕ) → is_allowed (body_at s (table ((edition_at v).old_statuses && flag) o)) ≡ true → Given v flag o s
given v flag o s h =
    let p = at_row ((edition_at v).old_statuses && flag) o s (table ((edition_at v).old_statuses && flag) o) (each-status ((edition_at v).old_statuses && flag) o) h in
    let c : Context = record { second = 0 } in
    let x = answers c v flag o p.0 in
    record {
      second = c;
      request = asking v flag o;
      state = placed (asking v flag o) p.0;
      result = result c (asking v flag o) (arrive c (asking v flag o) (placed (asking v flag o) p.0));
      next = x.0;
      version = refl;
      op = refl;
      flagged = flag_is flag;
      valid = asking-fits v flag o;
      table = placed-table v flag o p.0;
      answer = x.1;
      status = gives-status c v flag o p.0 ∙ ap (λ (b : Bool). status_at ((edition_at v).old_statuses && b) o p.0) (flag_is flag) ∙ p.1;
    }

-- no other status is given
pub listed : (c : Context) (r : Request) (st : State) (a : Result) (t : State) → step c r st ≡ answered a t
    → is_allowed (body_at a.status (table (with_old r) r.op)) ≡ true
listed c r st a t e =
    let s = reply_status (with_old r) r.op (not (is_none (held_then c r st))) (planned_of r (held_then c r st)) in
    let w = (row_fits (with_old r) r.op r.args.entry_version (held_then c r st)).0 in
    ap (λ (n : ℕ). is_allowed (body_at n (table (with_old r) r.op))) (status-is c r st a t e)
    ∙ (guard-valid (λ s. is_allowed (body_at s (table (with_old r) r.op))) 8 byte s w).0

pub old-values : OldValues
unfolding pieces
old-values =
    record {
      status = follows-status;
      shown = follows-shown;
      neither = neither;
      idle = idle-flags;
      idle-reply = λ r a. refl;
      given = given;
      listed = listed;
    }
