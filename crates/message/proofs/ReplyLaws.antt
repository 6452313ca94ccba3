-- A reply keeps the laws of a codec, whatever was asked. Assumes nothing.
use mathlib.Core.Path.{◌≡◌, refl, sym, ap₂}
use mathlib.Core.List.{List, []}
use mathlib.Core.Bool.{Bool, true, ◌&&◌}
use Prim.Native.Nat.{ℕ}
use lib.Dec.{eqb}
use borrow.Author.Tests.{eqb-true}
use Rattle.wire.specs.Codec.{Valid, empty, byte, seq, all}
use Rattle.wire.specs.Field.{entry_version, limited}
use Rattle.wire.proofs.Laws.{Laws, both, seq-valid, guard-valid, seq_laws, guard_laws, type_laws, empty_laws, refuse_laws, byte_laws}
use Rattle.wire.proofs.NumberLaws.{v_long_laws}
use Rattle.wire.proofs.FieldLaws.{big_laws, limited_laws}
use Rattle.wire.proofs.ListedLaws.{nil_is}
use Rattle.field.specs.FieldRead.{limited_text}
use Rattle.statistics.specs.Statistics.{statistics}
use Rattle.statistics.proofs.StatisticsLaws.{statistics_laws}
use Rattle.message.specs.declared.Operation.{Operation}
use Rattle.message.specs.declared.Form.{Form}
use Rattle.message.specs.declared.Form.TheVariants as form
use Rattle.message.specs.declared.Asked.{Asked}
use Rattle.message.specs.Operation.{code_of}
use Rattle.message.specs.Edition.{Edition}
use Rattle.message.specs.Request.{is_version, edition_at}
use Rattle.message.specs.Arguments.{value_limit}
use Rattle.message.specs.ReplyTable.{Body, body_at, is_allowed, allowed}
use Rattle.message.specs.Payload.{text_limit, Payload, payload, counted, no_entry_version, no_value, no_text, no_statistics, no_entries, no_lists, bulk_payload, no_body, value_body, versioned_body, text_body, statistics_body, listed_body, fields_of, form_of}
use Rattle.message.specs.Reply.{Fields, fields, to_reply, from_reply, message, is_awaited, statuses_of, asked, Awaited, known, refused, awaited, Awaits, reply_to, reply}
use Rattle.message.specs.Listing.{listing}
use Rattle.message.proofs.RequestLaws.{code-found, is-empty, is_zero, text_laws}
use Rattle.message.proofs.Editions.{edition-is}
use Rattle.message.proofs.ListingLaws.{listing_laws}

-- what a reply carries
same-all : (p : Payload) {e : ℕ} {v t ns : List ℕ} {es : List (List ℕ × List ℕ)} → e ≡ p.entry_version → v ≡ p.value → t ≡ p.text → ns ≡ p.statistics
    → es ≡ p.entries → ◌≡◌ {A = Payload} (record { entry_version = e; value = v; text = t; statistics = ns; entries = es }) p
same-all p q r s n m = rw (q, r, s, n, m)

same-payload : (p : Payload) {e : ℕ} {v t : List ℕ} → no_lists p ≡ true → e ≡ p.entry_version → v ≡ p.value → t ≡ p.text → payload e v t ≡ p
same-payload p n q r s = let x = both (no_statistics p) (no_entries p) n in same-all p q r s (is-empty p.statistics x.0) (nil_is p.entries x.1)

-- no number, no value and no text
plain-is : (p : Payload) {ns : List ℕ} {es : List (List ℕ × List ℕ)} → (no_entry_version p && (no_value p && no_text p)) ≡ true → ns ≡ p.statistics → es ≡ p.entries
    → ◌≡◌ {A = Payload} (record { entry_version = 0; value = []; text = []; statistics = ns; entries = es }) p
plain-is p t n m =
    let x = both (no_entry_version p) (no_value p && no_text p) t in
    let y = both (no_value p) (no_text p) x.1 in
    same-all p (is_zero _ x.0) (is-empty _ y.0) (is-empty _ y.1) n m

no_body_laws : Laws no_body
unfolding no_body
no_body_laws =
    type_laws (λ p. no_lists p && (no_entry_version p && (no_value p && no_text p))) (λ u. payload 0 [] []) (λ p. tt) empty empty_laws
    (λ p t.
    let n = both (no_lists p) (no_entry_version p && (no_value p && no_text p)) t in
    let x = both (no_entry_version p) (no_value p && no_text p) n.1 in
    let y = both (no_value p) (no_text p) x.1 in
    same-payload p n.0 (is_zero _ x.0) (is-empty _ y.0) (is-empty _ y.1))
    (λ u v. (refl, refl))

value_body_laws : (lim : ℕ) → Laws (value_body lim)
unfolding value_body
value_body_laws lim =
    type_laws (λ p. no_lists p && (no_entry_version p && no_text p)) (λ v. payload 0 v []) (λ p. p.value) (limited lim) (limited_laws lim)
    (λ p t.
    let n = both (no_lists p) (no_entry_version p && no_text p) t in
    let x = both (no_entry_version p) (no_text p) n.1 in
    same-payload p n.0 (is_zero _ x.0) refl (is-empty _ x.1))
    (λ s v. (refl, refl))

versioned_body_laws : Laws versioned_body
unfolding versioned_body
versioned_body_laws =
    type_laws (λ p. no_lists p && no_text p) (λ p. payload p.0 p.1 []) (λ p. (p.entry_version, p.value)) (seq entry_version λ _. limited value_limit)
    (seq_laws _ _ (big_laws 8) λ _. limited_laws value_limit) (λ p t. let n = both (no_lists p) (no_text p) t in same-payload p n.0 refl refl (is-empty _ n.1)) (λ s v. (refl, refl))

text_body_laws : Laws text_body
unfolding text_body
text_body_laws =
    type_laws (λ p. no_lists p && (no_entry_version p && no_value p)) (λ t. payload 0 [] t) (λ p. p.text) (limited_text text_limit) (text_laws text_limit)
    (λ p t.
    let n = both (no_lists p) (no_entry_version p && no_value p) t in
    let x = both (no_entry_version p) (no_value p) n.1 in
    same-payload p n.0 (is_zero _ x.0) (is-empty _ x.1) refl)
    (λ s v. (refl, refl))

statistics_body_laws : Laws statistics_body
unfolding statistics_body
statistics_body_laws =
    type_laws (λ p. no_entries p && (no_entry_version p && (no_value p && no_text p))) counted (λ p. p.statistics) statistics statistics_laws
    (λ p t. let n = both (no_entries p) (no_entry_version p && (no_value p && no_text p)) t in plain-is p n.1 refl (nil_is p.entries n.0))
    (λ s v. (refl, refl))

listed_body_laws : (values : Bool) → Laws (listed_body values)
unfolding listed_body
listed_body_laws values =
    type_laws (λ p. no_statistics p && (no_entry_version p && (no_value p && no_text p))) bulk_payload (λ p. p.entries) (listing values) (listing_laws values)
    (λ p t. let n = both (no_statistics p) (no_entry_version p && (no_value p && no_text p)) t in plain-is p n.1 (is-empty p.statistics n.0) refl)
    (λ s v. (refl, refl))

fields_of_laws : (f : Form) → Laws (fields_of f)
unfolding fields_of
fields_of_laws form.Nothing = no_body_laws
fields_of_laws (form.Value lim) = value_body_laws lim
fields_of_laws form.Versioned = versioned_body_laws
fields_of_laws form.Text = text_body_laws
fields_of_laws form.Statistics = statistics_body_laws
fields_of_laws (form.Listed values) = listed_body_laws values

-- a message, whatever operations may come and whatever their statuses are
module _ (comes : ℕ → Bool) (statuses : ℕ → List (ℕ × Body)) (flag : Bool) where
  fields_laws : Laws (fields comes statuses flag)
  unfolding fields
  fields_laws =
      seq_laws _ _ (guard_laws (λ m. eqb m 0xa1) 1 byte byte_laws) λ _.
      seq_laws _ _ v_long_laws λ _.
      seq_laws _ _ (guard_laws comes 4 byte byte_laws) λ op.
      seq_laws _ _ (guard_laws (λ s. is_allowed (body_at s (statuses op))) 8 byte byte_laws) λ status.
      seq_laws _ _ (guard_laws (λ m. eqb m 0) 8 byte byte_laws) λ _. fields_of_laws (form_of flag (allowed (body_at status (statuses op))))

  -- the magic and the marker of what is read
  fields_back : (p : ℕ × Fields) → Valid (fields comes statuses flag) p → from_reply (to_reply p) ≡ p
  unfolding fields
  fields_back p v =
      let a = seq-valid _ _ p v in
      let b = seq-valid _ _ _ (seq-valid _ _ _ (seq-valid _ _ _ (seq-valid _ _ _ a.1).1).1).1 in
      let m = eqb-true p.0 0xa1 (guard-valid (λ m. eqb m 0xa1) 1 byte p.0 a.0).0 in
      let k = eqb-true p.1.1.1.1.0 0 (guard-valid (λ m. eqb m 0) 8 byte p.1.1.1.1.0 b.0).0 in
      ap₂ {C = ℕ × Fields} (λ (m k : ℕ). (m, (p.1.0, (p.1.1.0, (p.1.1.1.0, (k, p.1.1.1.1.1)))))) (sym m) (sym k)

  message_laws : Laws (message comes statuses flag)
  unfolding message
  message_laws = type_laws all to_reply from_reply (fields comes statuses flag) fields_laws (λ r e. refl) (λ p v. (fields_back p v, refl))

-- over the edition
reply-to_laws : (flag : Bool) (w : Awaited) → Laws (reply_to flag w)
reply-to_laws flag (known e o) = message_laws (is_awaited o) (statuses_of (e.old_statuses && flag) o) flag
reply-to_laws flag (refused k) = refuse_laws k

pub reply_laws : (a : Asked) → Laws (reply a)
unfolding reply
reply_laws a = reply-to_laws a.flag (awaited a)

-- the reply that is awaited
pub reply-is : {a : Asked} {e : Edition} {o : Operation} → Awaits a e o → reply a ≡ message (is_awaited o) (statuses_of (e.old_statuses && a.flag) o) a.flag
unfolding reply
reply-is s = rw s.is

-- one to an operation that a served version has
pub awaits : (v : ℕ) (o : Operation) (flag : Bool) → is_version v ≡ true → (edition_at v).serves o ≡ true → Awaits (asked v (code_of o) flag) (edition_at v) o
unfolding awaited
awaits v o flag h s = record { is = rw (edition-is v h, code-found o, s) }
