-- What a client reads in the reply to a getWithVersion, and what it is told of an update. Assumes nothing.
use mathlib.Core.Path.{◌≡◌, refl, sym, ap, subst, ◌∙◌}
use mathlib.Core.List.{List, ◌∷◌, ◌++◌}
use mathlib.Core.Bool.{Bool, true, false, not, cond, ◌&&◌, ◌||◌}
use mathlib.Core.Option.{Option, none, some}
use mathlib.Core.Logic.{◌⊎◌, inl, inr}
use Prim.Native.Nat.{ℕ, suc, ◌+◌, ◌≤◌}
use native.Mathlib.Omega.{arith}
use lib.ListN.{length, take, drop}
use lib.Seq.{drop-append_seam, drop-append-add, take-append_seam}
use lib.Dec.{eqb}
use borrow.Author.Tests.{eqb-true}
use Rattle.wire.specs.Codec.{Read, whole, more, refused, after, Valid, byte, guard, seq, as_type}
use Rattle.wire.specs.Number.{v_long}
use Rattle.wire.specs.Field.{entry_version, limited}
use Rattle.wire.proofs.Laws.{never, after-whole, same_read}
use Rattle.wire.proofs.Basics.{pick}
use Rattle.wire.proofs.NumberLaws.{v_long_laws}
use Rattle.wire.proofs.FieldLaws.{big_laws, big_good, big_length}
use Rattle.message.specs.declared.Operation.{Operation}
use Rattle.message.specs.declared.Operation.TheVariants.{GetWithVersion, ReplaceIfUnmodified, RemoveIfUnmodified}
use Rattle.message.specs.Arguments.{value_limit}
use Rattle.message.specs.Request.{Request, request}
use Rattle.message.specs.ReplyTable.{Body, body_at, is_allowed, allowed, table, status_with_old, reply_status}
use Rattle.message.specs.Payload.{Payload, versioned_body, fields_of, form_of}
use Rattle.message.specs.Reply.{Reply, fields, message, is_awaited, statuses_of, reply}
use Rattle.message.proofs.RequestLaws.{same_code}
use Rattle.message.proofs.RequestParts.{parts}
use Rattle.message.proofs.ReplyLaws.{reply-is}
use Rattle.map.specs.History.{is}
use Rattle.map.specs.State.{Entry, State}
use Rattle.map.specs.Plan.{Plan, plans, plan}
use Rattle.map.specs.Shown.{Shown, nothing, versioned, shows}
use Rattle.map.specs.Step as map-step
use Rattle.map.specs.Step.{Context, last_version, Outcome, answered, wants_old, with_old, is_none, held, version_of, planned, status_of, result, arrive, step}
use Rattle.map.specs.Counted.{is_answered, succeeds}
use Rattle.map.specs.Reply.{asked_by, flat, shown_pieces, sized, pieces}
use Rattle.map.specs.Update.{is_change, takes_effect, is_update, GivesVersion}
use Rattle.map.proofs.Answered.{did}
use Rattle.map.proofs.Format.{pieces-enc, asks}

-- a message behind its header, by what is read of its body
module _ (comes : ℕ → Bool) (rows : ℕ → List (ℕ × Body)) (flag : Bool) (id op s : ℕ) (body : List ℕ) where
  head_read : Valid v_long id → comes op ≡ true → is_allowed (body_at s (rows op)) ≡ true → (x : Read Payload)
      → (fields_of (form_of flag (allowed (body_at s (rows op))))).dec body ≡ x
      → (message comes rows flag).dec (0xa1 ∷ (v_long.enc id ++ (op ∷ s ∷ 0 ∷ body)))
      ≡ after x (λ p n. whole (record { id = id; op = op; status = s; payload = p }) (1 + (length (v_long.enc id) + (1 + (1 + (1 + n))))))
  unfolding message fields seq guard byte as_type
  head_read v p q (whole a n) e =
      rw (v_long_laws.round id (op ∷ s ∷ 0 ∷ body) v, drop-append_seam (v_long.enc id) (op ∷ s ∷ 0 ∷ body), p, q, e)
  head_read v p q more e =
      rw (v_long_laws.round id (op ∷ s ∷ 0 ∷ body) v, drop-append_seam (v_long.enc id) (op ∷ s ∷ 0 ∷ body), p, q, e)
  head_read v p q (refused k) e =
      rw (v_long_laws.round id (op ∷ s ∷ 0 ∷ body) v, drop-append_seam (v_long.enc id) (op ∷ s ∷ 0 ∷ body), p, q, e)

-- of two values, the first
first_read : {A : Type 0} (x : Read A) (a l : ℕ) (b : ℕ × A) (m : ℕ) → after {B = ℕ × A} x (λ (v : A) (k : ℕ). whole (a, v) (l + k)) ≡ whole b m → b.0 ≡ a
first_read {A} (whole v k) a l b m e = ap (λ (p : ℕ × A). p.0) (sym (same_read e))
first_read more a l b m e = never (cc)
first_read (refused k) a l b m e = never (cc)

-- the version that is read at the front of a body
versioned-read : (w : ℕ) (rest : List ℕ) (p : Payload) (n : ℕ) → Valid entry_version w → versioned_body.dec (entry_version.enc w ++ rest) ≡ whole p n → p.entry_version ≡ w
unfolding versioned_body as_type seq
versioned-read w rest p n v e =
    let a = after-whole _ _ p n e in
    let b = after-whole _ _ _ _ a.first in
    let x : b.val ≡ w = same_read (sym b.first ∙ (big_laws 8).round w rest v) in
    ap (λ (y : Payload). y.entry_version) (sym (same_read a.then)) ∙ (first_read ((limited value_limit).dec (drop b.len (entry_version.enc w ++ rest))) b.val b.len a.val a.len b.then ∙ x)

-- what the reply to a getWithVersion shows of the entry held, if one is
abbrev got_of : Option Entry → Shown
got_of none = nothing
got_of (some e) = versioned e

abbrev status_for : Option Entry → ℕ
status_for none = 0x02
status_for (some e) = 0x00

module _ (c : Context) (r : Request) (st : State) (g : r.op ≡ GetWithVersion) where
  got-status : (h : Option Entry) → held r st ≡ h → (result c r st).status ≡ status_for h
  unfolding result status_of planned plan plans reply_status
  got-status none q = rw (q, g)
  got-status (some e) q = rw (q, g)

  pub got-shown : (h : Option Entry) → held r st ≡ h → (result c r st).shown ≡ got_of h
  unfolding result status_of planned plan plans reply_status body_at shows
  got-shown none q = rw (q, g)
  got-shown (some e) q = rw (q, g)

  -- the bytes of the reply
  got-bytes : (h : Option Entry) → held r st ≡ h
      → flat (pieces r (result c r st)) ≡ 0xa1 ∷ (v_long.enc r.id ++ (0x12 ∷ status_for h ∷ 0 ∷ flat (shown_pieces (got_of h))))
  got-bytes h q = pieces-enc r (result c r st) ∙ rw (got-status h q, got-shown h q, g)

  -- Where a key is held, a client that reads the reply reads the version of its entry, and else no status 00.
  module _ (v : Valid request r) where
    -- what is read of the body
    abbrev body_read : Option Entry → Read Payload
    body_read h = (fields_of (form_of (wants_old r) (allowed (body_at (status_for h) (table (with_old r) GetWithVersion))))).dec (flat (shown_pieces (got_of h)))

    -- and of the message around it
    abbrev message_read : Option Entry → Payload → ℕ → Read Reply
    message_read h p n = whole (record { id = r.id; op = 0x12; status = status_for h; payload = p }) (1 + (length (v_long.enc r.id) + (1 + (1 + (1 + n)))))

    comes_back : (h : Option Entry) → held r st ≡ h → (x : Read Payload) → body_read h ≡ x
        → (reply (asked_by r)).dec (flat (pieces r (result c r st))) ≡ after x (message_read h)
    unfolding body_at
    comes_back none q x e =
        rw (got-bytes none q, reply-is (asks r v), g)
        (head_read (is_awaited GetWithVersion) (statuses_of (with_old r) GetWithVersion) (wants_old r) r.id 0x12 0x02 _ (parts r v).id refl refl x e)
    comes_back (some f) q x e =
        rw (got-bytes (some f) q, reply-is (asks r v), g)
        (head_read (is_awaited GetWithVersion) (statuses_of (with_old r) GetWithVersion) (wants_old r) r.id 0x12 0x00 _ (parts r v).id refl refl x e)

    -- what is held where the reply gives a version: the entry that it shows, which has that version
    pub gave : (n : ℕ) → ((e : Entry) → held r st ≡ some e → e.version ≤ last_version) → GivesVersion r (flat (pieces r (result c r st))) n
        → (e : Entry) × (held r st ≡ some e) × (e.version ≡ n)
    unfolding body_at fields_of shown_pieces flat
    gave n small h = go (held r st) refl
      where
        go : (o : Option Entry) → held r st ≡ o → (e : Entry) × (held r st ≡ some e) × (e.version ≡ n)
        go none q =
            let a = after-whole (body_read none) (message_read none) h.message h.size (sym (comes_back none q (body_read none) refl) ∙ h.read) in
            let z : 0x02 ≡ h.message.status = ap (λ (m : Reply). m.status) (same_read a.then) in
            absurd (omega (arith, h.status))
        go (some e) q =
            let a = after-whole (body_read (some e)) (message_read (some e)) h.message h.size (sym (comes_back (some e) q (body_read (some e)) refl) ∙ h.read) in
            let z : a.val.entry_version ≡ h.message.payload.entry_version = ap (λ (m : Reply). m.payload.entry_version) (same_read a.then) in
            let w = versioned-read e.version _ a.val a.len (big_good 8 e.version (omega (arith, small e q))) a.first in
            (e, q, sym w ∙ (z ∙ h.version))

    -- The eight bytes of a reply that gives a version: those behind magic, message id, operation, status and marker, highest first.
    eight-of : (e : Entry) → held r st ≡ some e
        → take 8 (drop (suc (length (v_long.enc r.id) + 3)) (flat (pieces r (result c r st)))) ≡ entry_version.enc e.version
    unfolding flat shown_pieces
    eight-of e q =
        let rest = flat (sized e) in
        rw (got-bytes (some e) q, drop-append-add (v_long.enc r.id) (0x12 ∷ 0x00 ∷ 0 ∷ (entry_version.enc e.version ++ rest)) 3)
        (subst (λ (m : ℕ). take m (entry_version.enc e.version ++ rest) ≡ entry_version.enc e.version) (big_length 8 e.version)
        (take-append_seam (entry_version.enc e.version) rest))

    pub eight-bytes : (n : ℕ) → ((e : Entry) → held r st ≡ some e → e.version ≤ last_version) → GivesVersion r (flat (pieces r (result c r st))) n
        → take 8 (drop (suc (length (v_long.enc r.id) + 3)) (flat (pieces r (result c r st)))) ≡ entry_version.enc n
    eight-bytes n small h =
        let w = gave n small h in
        eight-of w.0 w.1 ∙ ap (λ (m : ℕ). entry_version.enc m) w.2

-- one of the two
pub update_is : (o : Operation) → is_update o ≡ true → (o ≡ ReplaceIfUnmodified) ⊎ (o ≡ RemoveIfUnmodified)
update_is o h = go (is ReplaceIfUnmodified o) refl h
  where
    go : (b : Bool) → is ReplaceIfUnmodified o ≡ b → (b || is RemoveIfUnmodified o) ≡ true → (o ≡ ReplaceIfUnmodified) ⊎ (o ≡ RemoveIfUnmodified)
    go true e h = inl (sym (same_code ReplaceIfUnmodified o (eqb-true _ _ e)))
    go false e h = inr (sym (same_code RemoveIfUnmodified o (eqb-true _ _ h)))

-- a status that says that an update took effect
abbrev says_so : ℕ → Bool
says_so s = eqb s 0x00 || eqb s 0x03

change-status : (o : Operation) (tells : Bool) (v : ℕ) (h : Option Entry) → is_update o ≡ true
    → is_change (plan o v (version_of h)).change ≡ says_so (reply_status tells o (not (is_none h)) (plan o v (version_of h)).status)
unfolding plan plans reply_status
change-status o tells v h u = go (update_is o u) tells h
  where
    go : (o ≡ ReplaceIfUnmodified) ⊎ (o ≡ RemoveIfUnmodified) → (tells : Bool) (h : Option Entry)
        → is_change (plan o v (version_of h)).change ≡ says_so (reply_status tells o (not (is_none h)) (plan o v (version_of h)).status)
    go (inl q) true none = rw q
    go (inl q) false none = rw q
    go (inl q) true (some e) = rw q (pick (λ (p : Plan). is_change p.change ≡ says_so (cond true (status_with_old p.status) p.status)) (eqb e.version v) (λ z. refl) refl)
    go (inl q) false (some e) = rw q (pick (λ (p : Plan). is_change p.change ≡ says_so p.status) (eqb e.version v) (λ z. refl) refl)
    go (inr q) true none = rw q
    go (inr q) false none = rw q
    go (inr q) true (some e) = rw q (pick (λ (p : Plan). is_change p.change ≡ says_so (cond true (status_with_old p.status) p.status)) (eqb e.version v) (λ z. refl) refl)
    go (inr q) false (some e) = rw q (pick (λ (p : Plan). is_change p.change ≡ says_so p.status) (eqb e.version v) (λ z. refl) refl)

-- An update takes effect where its reply has status 00, or 03 in version 20, and nowhere else: so a client is told.
pub update_status : (c : Context) (r : Request) (st : State) → is_update r.op ≡ true → takes_effect c r st ≡ succeeds (step c r st)
unfolding takes_effect result status_of planned
update_status c r st u = go (step c r st) refl
  where
    x : State
    x = arrive c r st

    go : (o : Outcome) → step c r st ≡ o → (is_answered o && is_change (planned r x).change) ≡ succeeds o
    go (map-step.refused k) e = refl
    go (answered a t) e = rw (did c r st a t e).same (change-status r.op (with_old r) r.args.entry_version (held r x) u)
