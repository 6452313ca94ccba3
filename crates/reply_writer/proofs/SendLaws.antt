-- The laws of a reply's writer: its rules, its length, and its fields one after the other. Assumes nothing.
use mathlib.Core.Path.{◌≡◌, refl, sym, ap, ◌∙◌}
use mathlib.Core.List.{List, [], ◌∷◌, ◌++◌, append_assoc}
use mathlib.Core.Bool.{Bool, true, false, cond, ◌&&◌, ◌||◌}
use mathlib.Core.Option.{Option, some}
use Prim.Native.Nat.{ℕ, ◌+◌, ◌≤◌, ◌<◌, ◌^◌}
use native.Mathlib.Nat.{zero-add, add-zero}
use native.Mathlib.Decide.{dec_lt}
use native.Mathlib.Omega.{arith}
use lib.ListN.{length, drop, length-append}
use lib.Seq.{sets, sets-eq, length-sets}
use lib.Dec.{eqb, ltb, leb, lit<}
use borrow.Author.Tests.{lt-ltb, leb-true, leb-false, eqb-true, ne_eqb}
use Rattle.wire.specs.Codec.{Codec, Valid, Bytes, empty, refuse, byte, seq, guard, as_type, all}
use Rattle.wire.specs.Number.{v_long}
use Rattle.wire.specs.Field.{entry_version, limited}
use Rattle.wire.specs.Listed.{more_byte, behind as listed-behind, item, others, listed}
use Rattle.wire.specs.Write.{Room, Wrote, put_at, Sent, written, kept, send}
use Rattle.wire.proofs.Laws.{never, and, both, and_false}
use Rattle.wire.proofs.FieldLaws.{big_good, big_length, limited-good, limited-long, limited-over, limited_length}
use Rattle.wire.proofs.ListedEnc.{listed-some}
use Rattle.wire.proofs.WriteLaws.{count, send-broken, send-short, send-done, send-room, put-wrote, put-moved, put-kept, wrote-seq, wrote-first, wrote-second, wrote-guard, wrote_type}
use Rattle.field.specs.FieldRead.{limited_text}
use Rattle.statistics.specs.Statistics.{statistics}
use Rattle.statistics.proofs.Writing.{none-bad}
use Rattle.message.specs.declared.Operation.{Operation}
use Rattle.message.specs.declared.Operation.TheVariants.{BulkGet, BulkGetKeys}
use Rattle.message.specs.declared.Asked.{Asked}
use Rattle.message.specs.Operation.{code_of}
use Rattle.message.proofs.RequestLaws.{same_code}
use Rattle.message.proofs.Every.{code-small, statuses_are}
use Rattle.message.specs.Arguments.{is_empty, value_limit}
use Rattle.message.specs.Listing.{item_of, listing}
use Rattle.message.specs.ReplyTable as m
use Rattle.message.specs.Refusal.{error_table, error_in, refusal}
use Rattle.message.specs.ReplyTable.{error_code, errors, Body, table, body_at, is_allowed, allowed}
use Rattle.message.specs.Payload.{Payload, payload, counted, bulk_payload, no_entry_version, no_value, no_text, no_lists, text_limit, no_body, value_body, versioned_body, text_body, statistics_body, listed_body, fields_of, form_of}
use Rattle.message.specs.Reply.{Reply, bulk_operation, bulk_reply, to_reply, from_reply, fields, message, is_awaited, statuses_of, Awaited, known, refused, awaited, reply_to, reply, error_reply, entries_reply}
use Rattle.message.specs.declared.Form.{Form}
use Rattle.message.specs.declared.Form.TheVariants as form
use Rattle.reply_writer.specs.Answer.{size_of, behind, body_size}
use Rattle.rules.specs.declared.Body as code
use Rattle.rules.specs.Body.{as_allowed}
use Rattle.reply_writer.specs.Frame.{framed, answers_to, header_of, judged, sent_head}
use Rattle.field.specs.declared.refusals.Refusal.{Refusal}
use Rattle.field.specs.declared.refusals.Refusal.TheVariants as k
use Rattle.field.specs.Refusal.{number_of}
use Rattle.std.specs.Prelude as rust
use Rattle.std.specs.Prelude.{Result, Ok, Err}
use Rattle.wire.proofs.NumberWrite.{number-good, number-bad}
use mathlib.Core.Path.{subst}
use mathlib.Core.Logic.{◌⊎◌, inl, inr}
use borrow.Author.Tests.{ltb-true, ltb-false}

-- which ids have a written form
pub id-good : (id : ℕ) → id ≤ 0x7fff_ffff_ffff_ffff → Valid v_long id
unfolding v_long
id-good id h = number-good 2 127 8 0 id (omega arith) (omega arith)

pub id-bad : (id : ℕ) → 0x7fff_ffff_ffff_ffff < id → v_long.ok id ≡ false
unfolding v_long
id-bad id h = number-bad 2 127 8 0 id (omega arith)

-- a body that carries nothing
none-sent : (x y z : Bool) → ((x && (y && z)) && true) ≡ ((x && y) && z)
none-sent true true true = refl
none-sent true true false = refl
none-sent true false z = refl
none-sent false y z = refl

none-ok : (e : ℕ) (v t : List ℕ) → no_body.ok (payload e v t) ≡ ((eqb e 0 && is_empty v) && is_empty t)
unfolding no_body as_type empty
none-ok e v t = none-sent (eqb e 0) (is_empty v) (is_empty t)

none-sized : (e : ℕ) (v t : List ℕ) → cond ((eqb e 0 && is_empty v) && is_empty t) (rust.Some 0) rust.None ≡ size_of no_body (payload e v t)
unfolding no_body as_type empty
none-sized e v t = rw (none-sent (eqb e 0) (is_empty v) (is_empty t))

pub no-body-sized : rust.Some 0 ≡ size_of no_body (payload 0 [] [])
no-body-sized = none-sized 0 [] []

-- a body of entries that carries none: a byte 0
module _ (values : Bool) (e : ℕ) (v t : List ℕ) where
  no_entries-ok : (listed_body values).ok (payload e v t) ≡ ((eqb e 0 && is_empty v) && is_empty t)
  unfolding listed_body listing listed item others listed-behind more_byte as_type seq guard byte empty
  no_entries-ok = none-sent (eqb e 0) (is_empty v) (is_empty t)

  no_entries-size : length ((listed_body values).enc (payload e v t)) ≡ 1
  unfolding listed_body listing listed item others listed-behind more_byte as_type seq guard byte empty
  no_entries-size = refl

  pub put_no_entries : {old new : List ℕ} {at r : ℕ} → Room (listed_body values) (payload e v t) at old → (r, new) ≡ put_at byte 0 at old
      → Wrote (listed_body values) (payload e v t) old new at r
  unfolding listed_body listing listed item others listed-behind more_byte as_type seq guard byte empty
  put_no_entries h q = let w = put-wrote byte 0 _ _ refl h _ _ q in record { next = w.next; list = w.list; long = w.long }

-- which reply is sent, by its operation and status
module _ (comes : ℕ → Bool) (statuses : ℕ → List (ℕ × Body)) (flag : Bool) (r : Reply) (old : List ℕ) where
  pub send-other : comes r.op ≡ false → (kept 16, old) ≡ send (message comes statuses flag) r old
  unfolding message fields as_type seq guard byte
  send-other e = send-broken (message comes statuses flag) r old (rw (e, and_false (v_long.ok r.id)))

  pub send-unlisted : is_allowed (body_at r.status (statuses r.op)) ≡ false → (kept 16, old) ≡ send (message comes statuses flag) r old
  unfolding message fields as_type seq guard byte
  send-unlisted e =
      send-broken (message comes statuses flag) r old (rw (e, and_false (comes r.op && ltb r.op 256), and_false (v_long.ok r.id)))

  pub send-framed : comes r.op ≡ true → is_allowed (body_at r.status (statuses r.op)) ≡ true
      → send (framed (fields_of (form_of flag (allowed (body_at r.status (statuses r.op)))))) r old ≡ send (message comes statuses flag) r old
  unfolding message fields framed as_type seq guard send
  send-framed p q = rw (p, q)

-- a status is allowed where the reply table has a body for it
pub allowed-some : (b : rust.Option code.Body) → is_allowed (as_allowed b) ≡ rust.is_some b
allowed-some rust.None = refl
allowed-some (rust.Some b) = refl

-- the rules and the length, behind the operation and the status
module _ (c : Codec Payload) (r : Reply) where
  framed-ok : r.op < 256 → r.status < 256 → (v_long.ok r.id && c.ok r.payload) ≡ (framed c).ok r
  unfolding framed as_type seq guard byte
  framed-ok h k = rw (lt-ltb r.op 256 h, lt-ltb r.status 256 k)

  pub framed_length : length ((framed c).enc r) ≡ 4 + length (v_long.enc r.id) + length (c.enc r.payload)
  unfolding framed as_type seq guard byte
  framed_length = simp length-append (omega arith)

  -- what may be written: it keeps the rules, and there is room for it
  pub record Judged (old : List ℕ) : Type 0 where
    pub id : r.id ≤ 0x7fff_ffff_ffff_ffff
    pub body : Valid c r.payload
    pub valid : Valid (framed c) r
    pub room : 4 + length (v_long.enc r.id) + length (c.enc r.payload) ≤ length old

  -- what the judgement of a reply says: it may be written, or it is refused
  abbrev pub After : List ℕ → Result (Unit {0}) Refusal → Type 0
  After old (Ok u) = Judged old
  After old (Err k) = (kept (number_of k), old) ≡ send (framed c) r old

  -- an id that has no written form is refused, whatever the body
  pub unsent-id : r.op < 256 → r.status < 256 → 0x7fff_ffff_ffff_ffff < r.id → (old : List ℕ) → (kept 16, old) ≡ send (framed c) r old
  unsent-id h l f old = send-broken (framed c) r old (sym (framed-ok h l) ∙ rw (id-bad r.id f))

  pub judgement : r.op < 256 → r.status < 256 → (b : rust.Option ℕ) → b ≡ size_of c r.payload → (old : List ℕ) (x : Result (Unit {0}) Refusal)
      → x ≡ judged r.id b (length old) → After old x
  judgement h l b e old x q = body (c.ok r.payload) refl (q ∙ rw e)
    where
      n : ℕ
      n = 4 + length (v_long.enc r.id) + length (c.enc r.payload)

      fits : Valid c r.payload → (u w : Bool) → ltb 0x7fff_ffff_ffff_ffff r.id ≡ u → leb n (length old) ≡ w
          → x ≡ cond u (Err k.Message) (cond w (Ok tt) (Err k.Room)) → After old x
      fits v true w f g y =
          subst (After old) (sym y) (unsent-id h l (ltb-true 0x7fff_ffff_ffff_ffff r.id f) old)
      fits v false w f g y =
          let i : r.id ≤ 0x7fff_ffff_ffff_ffff = ltb-false 0x7fff_ffff_ffff_ffff r.id f in
          let d : Valid (framed c) r = sym (framed-ok h l) ∙ and (id-good r.id i) v in
          subst (After old) (sym y) (room v i d w g)
        where
          room : Valid c r.payload → r.id ≤ 0x7fff_ffff_ffff_ffff → Valid (framed c) r → (w : Bool) → leb n (length old) ≡ w
              → After old (cond w (Ok tt) (Err k.Room))
          room v i d true g = record { id = i; body = v; valid = d; room = leb-true n (length old) g }
          room v i d false g = send-short (framed c) r old d (omega (arith, framed_length, leb-false n (length old) g))

      body : (t : Bool) → c.ok r.payload ≡ t → x ≡ judged r.id (cond t (rust.Some (length (c.enc r.payload))) rust.None) (length old) → After old x
      body true v y = fits v (ltb 0x7fff_ffff_ffff_ffff r.id) (leb n (length old)) refl refl y
      body false v y = subst (After old) (sym y) (send-broken (framed c) r old (sym (framed-ok h l) ∙ rw (v, and_false (v_long.ok r.id))))

  -- a reply is its header, and its body behind that
  framed-enc : (framed c).enc r ≡ (framed no_body).enc (header_of r.id r.op r.status) ++ c.enc r.payload
  unfolding framed no_body as_type seq guard byte empty
  framed-enc = ap (λ (l : List ℕ). 0xa1 ∷ l) (sym (append_assoc (v_long.enc r.id) _ (c.enc r.payload)))

  module _ {old mid : List ℕ} {at : ℕ} (y : Wrote (framed no_body) (header_of r.id r.op r.status) old mid 0 at) where
    -- the header is written, and there is room for the body
    pub behind-header : Judged old → Room c r.payload at mid
    behind-header j = omega (arith, j.room, y.next, y.long, framed_length, ap length framed-enc, length-append ((framed no_body).enc (header_of r.id r.op r.status)) (c.enc r.payload))

    framed-wrote : {new : List ℕ} {e : ℕ} → Wrote c r.payload mid new at e → Wrote (framed c) r old new 0 e
    unfolding seq
    framed-wrote w =
        let x = wrote-seq (framed no_body) (λ _. c) y w in
        record { next = x.next ∙ rw framed-enc; list = x.list ∙ rw framed-enc; long = x.long }

    pub framed-sent : Judged old → {new : List ℕ} {e : ℕ} → Wrote c r.payload mid new at e → (written e, new) ≡ send (framed c) r old
    framed-sent j w = send-done (framed c) r old j.valid (omega (arith, j.room, framed_length)) _ _ (framed-wrote w)

-- the header, a field after the other
pub put-header : (id op status : ℕ) (old : List ℕ) {o₁ o₂ o₃ o₄ o₅ : List ℕ} {r₁ r₂ r₃ r₄ r₅ : ℕ} → id ≤ 0x7fff_ffff_ffff_ffff → op < 256 → status < 256
    → 4 + length (v_long.enc id) ≤ length old → (r₁, o₁) ≡ put_at byte 0xa1 0 old → (r₂, o₂) ≡ put_at v_long id r₁ o₁ → (r₃, o₃) ≡ put_at byte op r₂ o₂
    → (r₄, o₄) ≡ put_at byte status r₃ o₃ → (r₅, o₅) ≡ put_at byte 0 r₄ o₄ → Wrote (framed no_body) (header_of id op status) old o₅ 0 r₅
unfolding byte framed no_body empty
put-header id op status old i h k room e₁ e₂ e₃ e₄ e₅ =
    let x₁ = put-wrote byte 0xa1 0 old refl (omega arith) _ _ e₁ in
    let x₂ = put-wrote v_long id _ _ (id-good id i) (omega arith) _ _ e₂ in
    let x₃ = put-wrote byte op _ _ (lt-ltb op 256 h) (omega arith) _ _ e₃ in
    let x₄ = put-wrote byte status _ _ (lt-ltb status 256 k) (omega arith) _ _ e₄ in
    let x₅ = put-wrote byte 0 _ _ refl (omega arith) _ _ e₅ in
    wrote_type all to_reply from_reply _
    (wrote-seq _ _ (wrote-guard (λ m. eqb m 0xa1) 1 byte x₁)
    (wrote-seq _ _ x₂
    (wrote-seq _ _ x₃
    (wrote-seq _ _ x₄
    (wrote-seq _ _ (wrote-guard (λ m. eqb m 0) 8 byte x₅) (wrote_type _ _ _ _ (record { next = sym (add-zero _); list = refl; long = refl })))))))

-- bytes that have a written form
limited-small : (lim : ℕ) (s : List ℕ) → Valid (limited lim) s → length s < 0x1_0000_0000
limited-small lim s v = go (dec_lt (length s) 0x1_0000_0000)
  where
    go : Dec (length s < 0x1_0000_0000) → length s < 0x1_0000_0000
    go (yes h) = h
    go (no h) = let e = limited-over lim s (omega arith) in never (cc)

size : (lim : ℕ) (s : List ℕ) → Valid (limited lim) s → length ((limited lim).enc s) ≡ length (v_long.enc (length s)) + length s
size lim s v = limited_length lim s (limited-small lim s v)

-- statistics: a body with none has no written form; with the nine it is theirs
no-statistics : (e : ℕ) (v t : List ℕ) → false ≡ statistics_body.ok (payload e v t)
unfolding statistics_body as_type
no-statistics e v t = rw none-bad (sym (and_false (eqb e 0 && (is_empty v && is_empty t))))

pub unsent : {X : Type 0} (e : ℕ) (v t : List ℕ) → Valid statistics_body (payload e v t) → X
unsent e v t w = let f = no-statistics e v t in never (cc)

-- how many bytes a body takes, by its fields
module _ (lim : ℕ) (s : List ℕ) (b : Bytes s) where
  pub limited-sized : {n : ℕ} → length s ≤ lim → length s ≤ 0xffff_ffff → n ≡ length (v_long.enc (length s)) → rust.Some (n + length s) ≡ size_of (limited lim) s
  limited-sized h k e = let v = limited-good lim s (omega (arith, k)) h b in rw (v, size lim s v, e)

  pub limited-unsized : (length s ≤ lim × 0xffff_ffff < length s) ⊎ (lim < length s) → rust.None ≡ size_of (limited lim) s
  limited-unsized (inl h) = rw (limited-over lim s (omega (arith, h.1)))
  limited-unsized (inr h) = rw (limited-long lim s h)

-- behind a test
gated : (b t : Bool) (n : ℕ) (x : rust.Option ℕ) → x ≡ cond t (rust.Some n) rust.None → cond b x rust.None ≡ cond (b && t) (rust.Some n) rust.None
gated true t n x e = e
gated false t n x e = refl

-- behind so many bytes
behind-cond : (t : Bool) (k n : ℕ) → behind k (cond t (rust.Some n) rust.None) ≡ cond t (rust.Some (k + n)) rust.None
behind-cond true k n = refl
behind-cond false k n = refl

pub sized : (f : Form) (e : ℕ) (v t : List ℕ) → e < 256 ^ 8 → body_size f e v t ≡ size_of (fields_of f) (payload e v t)
unfolding fields_of value_body versioned_body text_body as_type seq
sized form.Nothing e v t h = none-sized e v t
sized (form.Value lim) e v t h = gated (eqb e 0 && is_empty t) ((limited lim).ok v) _ _ refl
sized form.Versioned e v t h =
    gated (is_empty t) (entry_version.ok e && (limited value_limit).ok v) _ _ (rw (behind-cond, length-append, big_good 8 e h, big_length))
sized form.Text e v t h = gated (eqb e 0 && is_empty v) ((limited_text text_limit).ok t) _ _ refl
sized form.Statistics e v t h = rw (← (no-statistics e v t))
sized (form.Listed values) e v t h = rw (no_entries-ok values e v t, no_entries-size values e v t)

-- the bodies: the fields' own rules, their length, and that writing them writes the body
module _ (p : Payload) where
  module _ (lim : ℕ) where
    pub value-valid : Valid (value_body lim) p → Valid (limited lim) p.value
    unfolding value_body as_type
    value-valid v = (both (no_lists p && (no_entry_version p && no_text p)) ((limited lim).ok p.value) v).1

    pub put-value : {old new : List ℕ} {at r : ℕ} → Valid (value_body lim) p → Room (value_body lim) p at old → (r, new) ≡ put_at (limited lim) p.value at old
        → Wrote (value_body lim) p old new at r
    unfolding value_body as_type
    put-value v h e =
        let w = put-wrote (limited lim) p.value _ _ (value-valid v) h _ _ e in record { next = w.next; list = w.list; long = w.long }

  versioned-valid : Valid versioned_body p → Valid entry_version p.entry_version × Valid (limited value_limit) p.value
  unfolding versioned_body as_type seq
  versioned-valid v = both (entry_version.ok p.entry_version) ((limited value_limit).ok p.value) (both (no_lists p && no_text p) (entry_version.ok p.entry_version && (limited value_limit).ok p.value) v).1

  versioned-size : Valid versioned_body p → length (versioned_body.enc p) ≡ 8 + (length (v_long.enc (length p.value)) + length p.value)
  unfolding versioned_body as_type seq
  versioned-size v =
      length-append (entry_version.enc p.entry_version) ((limited value_limit).enc p.value)
      ∙ rw (big_length 8 p.entry_version, size value_limit p.value (versioned-valid v).1)

  pub put-versioned : {old o₁ o₂ : List ℕ} {at r₁ r₂ : ℕ} → Valid versioned_body p → Room versioned_body p at old → (r₁, o₁) ≡ put_at entry_version p.entry_version at old
      → (r₂, o₂) ≡ put_at (limited value_limit) p.value r₁ o₁ → Wrote versioned_body p old o₂ at r₂
  unfolding versioned_body
  put-versioned v h e f =
      let g = versioned-valid v in
      let l = versioned-size v in
      let n = big_length 8 p.entry_version in
      let x = put-wrote entry_version p.entry_version _ _ g.0 (omega arith) _ _ e in
      let m = size value_limit p.value g.1 in
      let y = put-wrote (limited value_limit) p.value _ _ g.1 (omega arith) _ _ f in
      wrote_type _ _ _ (seq entry_version λ _. limited value_limit) (wrote-seq entry_version (λ _. limited value_limit) x y)

  text-valid : Valid text_body p → Valid (limited_text text_limit) p.text
  unfolding text_body as_type
  text-valid v = (both (no_lists p && (no_entry_version p && no_value p)) ((limited_text text_limit).ok p.text) v).1

  pub put-text : {old new : List ℕ} {at r : ℕ} → Valid text_body p → Room text_body p at old → (r, new) ≡ put_at (limited_text text_limit) p.text at old
      → Wrote text_body p old new at r
  unfolding text_body as_type
  put-text v h e =
      let w = put-wrote (limited_text text_limit) p.text _ _ (text-valid v) h _ _ e in record { next = w.next; list = w.list; long = w.long }

module _ (ns : List ℕ) where
  pub counted-sized : {n : ℕ} → true ≡ statistics.ok ns → n ≡ length (statistics.enc ns) → rust.Some n ≡ size_of statistics_body (counted ns)
  unfolding statistics_body as_type
  counted-sized e f = rw (← e, f)

  pub counted-unsized : false ≡ statistics.ok ns → rust.None ≡ size_of statistics_body (counted ns)
  unfolding statistics_body as_type
  counted-unsized e = rw (← e)

  pub put-counted : {old new : List ℕ} {at r : ℕ} → true ≡ statistics.ok ns → Room statistics_body (counted ns) at old → (r, new) ≡ put_at statistics ns at old
      → Wrote statistics_body (counted ns) old new at r
  unfolding statistics_body as_type
  put-counted v h e = let w = put-wrote statistics ns _ _ (sym v) h _ _ e in record { next = w.next; list = w.list; long = w.long }

-- entries
module _ (values : Bool) (es : List (List ℕ × List ℕ)) where
  listed_ok : (listed_body values).ok (bulk_payload es) ≡ (listing values).ok es
  unfolding listed_body as_type
  listed_ok = refl

  listed_length : length ((listed_body values).enc (bulk_payload es)) ≡ length ((listing values).enc es)
  unfolding listed_body as_type
  listed_length = refl

pub bulk-small : (values : Bool) → code_of (bulk_operation values) + 1 < 256
bulk-small true = lit< tt
bulk-small false = lit< tt

module _ (values : Bool) (id : ℕ) (es : List (List ℕ × List ℕ)) where
  -- the rules and the length of a bulk reply: those of the id and of the entries
  pub bulk-ok : (v_long.ok id && (listing values).ok es) ≡ (framed (listed_body values)).ok (bulk_reply values id es)
  bulk-ok = rw (← (listed_ok values es)) (framed-ok (listed_body values) (bulk_reply values id es) (bulk-small values) (lit< tt))

  bulk-valid : Valid v_long id → Valid (listing values) es → Valid (framed (listed_body values)) (bulk_reply values id es)
  bulk-valid v g = sym bulk-ok ∙ and v g

  bulk_length : length ((framed (listed_body values)).enc (bulk_reply values id es)) ≡ 4 + length (v_long.enc id) + length ((listing values).enc es)
  bulk_length = rw (← (listed_length values es)) (framed_length (listed_body values) (bulk_reply values id es))

  -- its header is a reply with no body, and its entries stand behind that
  bulk-enc : (framed (listed_body values)).enc (bulk_reply values id es) ≡ (framed no_body).enc (bulk_reply values id []) ++ (listing values).enc es
  unfolding framed listed_body no_body as_type seq guard byte empty
  bulk-enc = ap (λ (l : List ℕ). 0xa1 ∷ l) (sym (append_assoc (v_long.enc id) _ ((listing values).enc es)))

  bulk-wrote : {old mid new : List ℕ} {n r : ℕ} → Wrote (listing values) es old mid n r → Wrote (framed no_body) (bulk_reply values id []) mid new 0 n
      → Wrote (framed (listed_body values)) (bulk_reply values id es) old new 0 r
  unfolding seq
  bulk-wrote x y =
      let c = framed no_body in
      let w = wrote-seq c (λ _. listing values) (wrote-first c (listing values) x y) (wrote-second c (listing values) x y) in
      record { next = w.next ∙ rw bulk-enc; list = w.list ∙ rw bulk-enc; long = w.long }

module _ (values : Bool) (id : ℕ) where
  head_ok : Valid v_long id → Valid (framed no_body) (bulk_reply values id [])
  head_ok v = sym (framed-ok no_body (bulk_reply values id []) (bulk-small values) (lit< tt)) ∙ rw (v, none-ok)

  pub head_length : length ((framed no_body).enc (bulk_reply values id [])) ≡ 4 + length (v_long.enc id)
  unfolding no_body as_type empty
  head_length = framed_length no_body (bulk_reply values id []) ∙ add-zero _

-- entries are written first, behind the place of the header
module _ (values : Bool) (id : ℕ) (es : List (List ℕ × List ℕ)) (old : List ℕ) (n : ℕ) where
  bulk-kept : {new : List ℕ} → (n, new) ≡ put_at (listing values) es n old → (new ≡ old) × (Valid (listing values) es → length old < n + length ((listing values).enc es))
  unfolding listing
  bulk-kept e = put-kept (listing values) es n old (listed-some (item_of values) 128 es) _ e

  pub bulk-broken : {new : List ℕ} → (n, new) ≡ put_at (listing values) es n old → (listing values).ok es ≡ false
      → (kept 16, new) ≡ send (framed (listed_body values)) (bulk_reply values id es) old
  bulk-broken e f = rw (bulk-kept e).0 (send-broken (framed (listed_body values)) _ old (sym (bulk-ok values id es) ∙ rw f (and_false (v_long.ok id))))

  module _ (v : Valid v_long id) (l : n ≡ 4 + length (v_long.enc id)) where
    pub bulk-short : {new : List ℕ} → (n, new) ≡ put_at (listing values) es n old → Valid (listing values) es
        → (kept 12, new) ≡ send (framed (listed_body values)) (bulk_reply values id es) old
    bulk-short e g =
        let k = bulk-kept e in
        rw k.0 (send-short (framed (listed_body values)) _ old (bulk-valid values id es v g) (omega (arith, k.1 g, bulk_length values id es, l)))

    module _ {mid : List ℕ} {r : ℕ} (e : (r, mid) ≡ put_at (listing values) es n old) (f : r ≡ n → ⊥) where
      bulk-moved : Valid (listing values) es × Room (listing values) es n old
      bulk-moved = put-moved (listing values) es n old mid r e f

      bulk-mid : Wrote (listing values) es old mid n r
      bulk-mid = put-wrote (listing values) es n old bulk-moved.0 bulk-moved.1 mid r e

      pub head_room : 4 + length (v_long.enc id) ≤ length mid
      head_room = omega (arith, bulk-moved.1, bulk-mid.long, l)

      pub bulk-sent : {new : List ℕ} {m : ℕ} → Wrote (framed no_body) (bulk_reply values id []) mid new 0 m
          → (written r, new) ≡ send (framed (listed_body values)) (bulk_reply values id es) old
      bulk-sent {m = m} y =
          let q : m ≡ n = omega (arith, y.next, head_length values id, l) in
          send-done (framed (listed_body values)) _ old (bulk-valid values id es v bulk-moved.0) (omega (arith, bulk-moved.1, bulk_length values id es, l)) _ _
          (bulk-wrote values id es bulk-mid (rw q at y))

-- what a message that was sent left of the list
sent-wrote : {A : Type 0} (c : Codec A) (a : A) (old : List ℕ) {new : List ℕ} {n : ℕ} → Valid c a → Room c a 0 old → (written n, new) ≡ send c a old → Wrote c a old new 0 n
sent-wrote c a old {new} {n} v h e =
    let x = e ∙ send-room c a old v h in
    let p : n ≡ length (c.enc a) = count (ap (λ (y : Sent × List ℕ). y.0) x) in
    let q : new ≡ c.enc a ++ drop (length (c.enc a)) old = ap (λ (y : Sent × List ℕ). y.1) x in
    let d : new ≡ sets old 0 (c.enc a) = q ∙ sym (sets-eq (c.enc a) old 0 (omega (arith, h)) ∙ rw zero-add) in
    record { next = p ∙ sym (zero-add _); list = d; long = ap length d ∙ length-sets old 0 (c.enc a) }

-- or the header is written first, and they behind it
pub bulk-behind : (values : Bool) (id : ℕ) (es : List (List ℕ × List ℕ)) (old : List ℕ) {mid new : List ℕ} {n r : ℕ} → Valid v_long id → Valid (listing values) es
    → 4 + length (v_long.enc id) + length ((listing values).enc es) ≤ length old → (written n, mid) ≡ send (framed no_body) (bulk_reply values id []) old
    → (Room (listing values) es n mid → Wrote (listing values) es mid new n r) → (written r, new) ≡ send (framed (listed_body values)) (bulk_reply values id es) old
unfolding seq
bulk-behind values id es old v g h e f =
    let l = head_length values id in
    let x = sent-wrote (framed no_body) (bulk_reply values id []) old (head_ok values id v) (omega (arith, l)) e in
    let w = wrote-seq (framed no_body) (λ _. listing values) x (f (omega (arith, l, x.next, x.long))) in
    send-done (framed (listed_body values)) _ old (bulk-valid values id es v g) (omega (arith, bulk_length values id es)) _ _
    (record { next = w.next ∙ rw (bulk-enc values id es); list = w.list ∙ rw (bulk-enc values id es); long = w.long })

-- what is not awaited is 16
pub send_unawaited : (a : Asked) (r : Reply) (old : List ℕ) → answers_to r.op (awaited a) ≡ false → (kept 16, old) ≡ send (reply a) r old
unfolding reply send refuse
send_unawaited a r old = go (awaited a)
  where
    go : (w : Awaited) → answers_to r.op w ≡ false → (kept 16, old) ≡ send (reply_to a.flag w) r old
    go (known e o) h = send-other (is_awaited o) (statuses_of (e.old_statuses && a.flag) o) a.flag r old h
    go (refused k) h = refl

-- the operation whose reply has a code, which is not that of an error
code_is : (o p : Operation) → is_awaited o (code_of p + 1) ≡ true → o ≡ p
code_is o p h = same_code o p (go (eqb (code_of p + 1) (code_of o + 1)) refl (rw (ne_eqb (code_of p + 1) 0x50 (λ e. omega (arith, code-small p))) at h))
  where
    go : (t : Bool) → eqb (code_of p + 1) (code_of o + 1) ≡ t → (t || false) ≡ true → code_of o ≡ code_of p
    go true e q = let x = eqb-true (code_of p + 1) (code_of o + 1) e in omega arith
    go false e q = never (cc)

-- a reply of status 00 to an operation that has no old value, which is awaited
pub send-awaited : (a : Asked) (p : Operation) (r : Reply) (old : List ℕ) (b : Body) → r.op ≡ code_of p + 1
    → ((with_old : Bool) → body_at r.status (table with_old p) ≡ some b) → answers_to r.op (awaited a) ≡ true
    → send (framed (fields_of (form_of a.flag b))) r old ≡ send (reply a) r old
unfolding reply
send-awaited a p r old b c h = go (awaited a)
  where
    go : (w : Awaited) → answers_to r.op w ≡ true → send (framed (fields_of (form_of a.flag b))) r old ≡ send (reply_to a.flag w) r old
    go (known e o) q =
        let t = e.old_statuses && a.flag in
        let i : o ≡ p = code_is o p (rw c at q) in
        let s : body_at r.status (statuses_of t o r.op) ≡ some b = rw (i, c, statuses_are t p) (h t) in
        sym (ap (λ (x : Option Body). send (framed (fields_of (form_of a.flag (allowed x)))) r old) s)
        ∙ send-framed (is_awaited o) (statuses_of t o) a.flag r old q (ap is_allowed s)
    go (refused k) q = never (cc)

-- the reply to bulkGet and to bulkGetKeys
pub send-bulk : (a : Asked) (values : Bool) (id : ℕ) (es : List (List ℕ × List ℕ)) (old : List ℕ) → answers_to (code_of (bulk_operation values) + 1) (awaited a) ≡ true
    → send (framed (listed_body values)) (bulk_reply values id es) old ≡ send (reply a) (bulk_reply values id es) old
unfolding fields_of body_at
send-bulk a true id es old = send-awaited a BulkGet (bulk_reply true id es) old m.entries refl (λ with_old. refl)
send-bulk a false id es old = send-awaited a BulkGetKeys (bulk_reply false id es) old m.keys refl (λ with_old. refl)

-- the header of what was asked: where it was sent the reply is awaited, and where it was not, the reply with any entries is not
module _ (a : Asked) (id : ℕ) (old : List ℕ) {x : Sent} {mid : List ℕ} (e : (x, mid) ≡ sent_head a id old) where
  pub head_sent : (n : ℕ) → x ≡ written n
      → (answers_to (entries_reply a id []).op (awaited a) ≡ true) × ((written n, mid) ≡ send (framed no_body) (entries_reply a id []) old)
  head_sent n w = go (answers_to (entries_reply a id []).op (awaited a)) refl (rw w at e)
    where
      go : (t : Bool) → answers_to (entries_reply a id []).op (awaited a) ≡ t
          → ◌≡◌ {A = Sent × List ℕ} (written n, mid) (cond t (send (framed no_body) (entries_reply a id []) old) (kept 16, old))
          → (answers_to (entries_reply a id []).op (awaited a) ≡ true) × ((written n, mid) ≡ send (framed no_body) (entries_reply a id []) old)
      go true p q = (p, q)
      go false p q = let z = ap (λ (y : Sent × List ℕ). y.0) q in never (cc)

  pub head_unsent : (k : ℕ) → x ≡ kept k → Valid v_long id → 4 + length (v_long.enc id) ≤ length old → (es : List (List ℕ × List ℕ)) → (x, mid) ≡ send (reply a) (entries_reply a id es) old
  head_unsent k w v l es = go (answers_to (entries_reply a id []).op (awaited a)) refl e
    where
      go : (t : Bool) → answers_to (entries_reply a id []).op (awaited a) ≡ t → (x, mid) ≡ cond t (send (framed no_body) (entries_reply a id []) old) (kept 16, old)
          → (x, mid) ≡ send (reply a) (entries_reply a id es) old
      go true p q =
          let values = eqb a.op (code_of BulkGet) in
          let z = ap (λ (y : Sent × List ℕ). y.0) (q ∙ send-room (framed no_body) (bulk_reply values id []) old (head_ok values id v) (omega (arith, head_length values id, l))) in
          never (cc)
      go false p q = q ∙ send_unawaited a (entries_reply a id es) old p

-- a number that has no error reply
pub error-none : (k id : ℕ) (old : List ℕ) → (1 ≤ k → k ≤ 11 → ⊥) → (kept 16, old) ≡ send error_reply (refusal k id) old
unfolding error_reply refusal error_in error_table body_at
error-none k id old h =
    let d : (n : ℕ) → 1 ≤ n → n ≤ 11 → eqb k n ≡ false = λ n l m. ne_eqb k n (λ e. h (omega arith) (omega arith)) in
    send-unlisted (λ op. eqb op error_code) (λ op. errors) false (refusal k id) old
    (rw (d 1 (omega arith) (omega arith), d 2 (omega arith) (omega arith), d 3 (omega arith) (omega arith), d 4 (omega arith) (omega arith), d 5 (omega arith) (omega arith), d 6 (omega arith) (omega arith), d 7 (omega arith) (omega arith), d 8 (omega arith) (omega arith), d 9 (omega arith) (omega arith), d 10 (omega arith) (omega arith), d 11 (omega arith) (omega arith)))
