-- The parts where the answer says that value, text and entries stand are those of the reply that was read. Assumes nothing.
use mathlib.Core.Path.{◌≡◌, refl, sym, subst, ◌∙◌}
use mathlib.Core.List.{List}
use mathlib.Core.Option.{Option, none, some}
use mathlib.Core.Bool.{Bool, true, ◌&&◌}
use Prim.Native.Nat.{ℕ}
use Rattle.wire.specs.Codec.{whole, after, mapped, Codec, Bytes, byte, guard, refuse, read_at}
use Rattle.wire.specs.Listed.{Steps}
use Rattle.wire.proofs.Laws.{never, after-whole, passed, same_read, mapped-back}
use Rattle.wire.proofs.At.{at_front, at-guard, at_read, typed, halves}
use Rattle.wire.proofs.ListedLaws.{listed-steps}
use Rattle.field.specs.FieldRead.{part_of, span_to}
use Rattle.field.proofs.Parts.{part-read, text-read, no_part}
use Rattle.message.specs.declared.Operation.{Operation}
use Rattle.message.specs.declared.Asked.{Asked}
use Rattle.message.specs.declared.Form.{Form}
use Rattle.message.specs.declared.Form.TheVariants as form
use Rattle.message.specs.Arguments.{value_limit}
use Rattle.message.specs.Listing.{most_listed, item_of, listing}
use Rattle.message.specs.ReplyTable.{body_at, is_allowed}
use Rattle.message.specs.Payload.{text_limit, Payload, no_body, value_body, versioned_body, text_body, statistics_body, listed_body, fields_of}
use Rattle.message.specs.Reply.{Reply, fields, message, is_awaited, statuses_of, Awaited, known, refused, awaited, reply_to, reply}
use Rattle.message.proofs.ListingLaws.{listing_laws}
use Rattle.reply_reader.specs.ReplyRead.{as_reply, reply_at, bulk_of, listed_of, entries_at, entries_in, answered}
use Rattle.reply_reader.specs.declared.AnyReply.{AnyReply}
use Rattle.std.specs.Prelude as std
use Rattle.field.specs.declared.refusals.Refusal.{Refusal}
use Rattle.reply_reader.proofs.BulkLaws.{bulk-form, reads-back, span_here}

-- a value that passed a test
passed-at : {A : Type 0} (test : A → Bool) (k : ℕ) (c : Codec A) (s : List ℕ) (at : ℕ) (a : A) (j : ℕ) → read_at (guard test k c) s at ≡ whole a j → test a ≡ true
passed-at test k c s at a j e =
    let x = after-whole (read_at c s at) _ a j (sym (at-guard s at test k c) ∙ e) in
    let y = passed (test x.val) (whole x.val x.len) k x.then in
    rw (same_read y.1) at y.0

module _ (s : List ℕ) (b : Bytes s) where
  -- the part where entries stand is that of the bytes that were read
  listed-part : (values : Bool) (at : ℕ) (es : List (List ℕ × List ℕ)) (n : ℕ) → read_at (listing values) s at ≡ whole es n
      → part_of s (span_to ((listing values).enc es) n) ≡ (listing values).enc es
  listed-part values at es n e = rw (span_here values s at es n b e) (at_read (listing values) (listing_laws values) s at es n b e).same

  listing-steps : (values : Bool) (at : ℕ) (es : List (List ℕ × List ℕ)) (n : ℕ) → read_at (listing values) s at ≡ whole es n → Steps (item_of values) s at es n
  unfolding listing
  listing-steps values = listed-steps (item_of values) s most_listed

  -- from the place where entries stand they are read one by one, to the end of the reply
  abbrev Stepped : Option Bool → List (List ℕ × List ℕ) → ℕ → Type 0
  Stepped none es n = Unit {0}
  Stepped (some values) es n = Steps (item_of values) s (entries_at (some values) es n).part.start es n

  record Stand (k : Option Bool) (p : Payload) (n : ℕ) : Type 0 where
    value : part_of s (span_to p.value n) ≡ p.value
    text : part_of s (span_to p.text n) ≡ p.text
    entries : entries_in k (part_of s (entries_at k p.entries n).part) ≡ p.entries
    steps : Stepped k p.entries n

  module _ (at : ℕ) (p : Payload) (n : ℕ) where
    none-stands : read_at no_body s at ≡ whole p n → Stand none p n
    unfolding no_body
    none-stands e = subst (λ (q : Payload). Stand none q n) (typed _ _ _ _ s at p n e).same (record { value = no_part s n; text = no_part s n; entries = refl; steps = tt })

    value-stands : (lim : ℕ) → read_at (value_body lim) s at ≡ whole p n → Stand none p n
    unfolding value_body
    value-stands lim e =
        let x = typed _ _ _ _ s at p n e in
        subst (λ (q : Payload). Stand none q n) x.same (record { value = part-read s at lim _ n x.read; text = no_part s n; entries = refl; steps = tt })

    versioned-stands : read_at versioned_body s at ≡ whole p n → Stand none p n
    unfolding versioned_body
    versioned-stands e =
        let x = typed _ _ _ _ s at p n e in
        let h = halves _ _ s at _ n x.read in
        subst (λ (q : Payload). Stand none q n) x.same (record { value = part-read s _ value_limit _ n h.second; text = no_part s n; entries = refl; steps = tt })

    text-stands : read_at text_body s at ≡ whole p n → Stand none p n
    unfolding text_body
    text-stands e =
        let x = typed _ _ _ _ s at p n e in
        subst (λ (q : Payload). Stand none q n) x.same (record { value = no_part s n; text = text-read s at text_limit _ n x.read; entries = refl; steps = tt })

    statistics_stand : read_at statistics_body s at ≡ whole p n → Stand none p n
    unfolding statistics_body
    statistics_stand e =
        subst (λ (q : Payload). Stand none q n) (typed _ _ _ _ s at p n e).same (record { value = no_part s n; text = no_part s n; entries = refl; steps = tt })

    entries_stand : (values : Bool) → read_at (listed_body values) s at ≡ whole p n → Stand (some values) p n
    unfolding listed_body
    entries_stand values e =
        let x = typed _ _ _ _ s at p n e in
        let v = (at_read (listing values) (listing_laws values) s at x.val n b x.read).good in
        subst (λ (q : Payload). Stand (some values) q n) x.same
        (record {
          value = no_part s n;
          text = no_part s n;
          entries = rw (listed-part values at x.val n x.read, reads-back values x.val v);
          steps = rw (span_here values s at x.val n b x.read) (listing-steps values at x.val n x.read);
        })

    body-stands : (f : Form) → read_at (fields_of f) s at ≡ whole p n → Stand (listed_of f) p n
    unfolding fields_of
    body-stands form.Nothing e = none-stands e
    body-stands (form.Value lim) e = value-stands lim e
    body-stands form.Versioned e = versioned-stands e
    body-stands form.Text e = text-stands e
    body-stands form.Statistics e = statistics_stand e
    body-stands (form.Listed values) e = entries_stand values e

  -- the answer shows a reply of n bytes
  record Shown (m : Reply) (n : ℕ) : Type 0 where
    same : answered s (reply_at m n) ≡ m
    steps : Stepped (bulk_of m.op) m.payload.entries n

  message-shown : (with_old : Bool) (o : Operation) (flag : Bool) (m : Reply) (n : ℕ) → read_at (message (is_awaited o) (statuses_of with_old o) flag) s 0 ≡ whole m n → Shown m n
  unfolding message fields reply_at
  message-shown with_old o flag m n e =
      let x = typed _ _ _ _ s 0 m n e in
      let a = halves _ _ s 0 _ n x.read in
      let i = halves _ _ s _ _ n a.second in
      let c = halves _ _ s _ _ n i.second in
      let t = halves _ _ s _ _ n c.second in
      let k = halves _ _ s _ _ n t.second in
      let d = body-stands k.mid _ n _ k.second in
      let w = x.val.1.1.0 in
      let u = x.val.1.1.1.0 in
      let g = bulk-form flag with_old o w u (passed-at (is_awaited o) 4 byte s _ w _ c.first) (passed-at (λ y. is_allowed (body_at y (statuses_of with_old o w))) 8 byte s _ u _ t.first) in
      subst (λ (q : Reply). Shown q n) x.same (record { same = rw (d.value, d.text, g, d.entries); steps = rw g d.steps })

  shown : (flag : Bool) (w : Awaited) (m : Reply) (n : ℕ) → (reply_to flag w).dec s ≡ whole m n → Shown m n
  unfolding refuse
  shown flag (known e o) m n x = message-shown (e.old_statuses && flag) o flag m n (at_front _ s ∙ x)
  shown flag (refused k) m n x = never (cc)

  -- the entries of a bulk reply are read step by step from where they stand: `listing::next_entry` is such a step
  pub entries-steps : (a : Asked) (m : Reply) (n : ℕ) (values : Bool) → (reply a).dec s ≡ whole m n → bulk_of m.op ≡ some values
      → Steps (item_of values) s (reply_at m n).1.1.part.start m.payload.entries n
  unfolding reply reply_at
  entries-steps a m n values e k = rw k (rw k at (shown a.flag (awaited a) m n e).steps)

  -- what reading finds, by the reader's answer
  pub reply-in : (a : Asked) (r x : std.Result (std.Option (AnyReply × ℕ)) Refusal) → as_reply r ≡ mapped reply_at ((reply a).dec s) → r ≡ x → (reply a).dec s ≡ after (as_reply x) (λ q n. whole (answered s q) n)
  unfolding mapped reply
  reply-in a r x e p = sym (rw (← p, e) (mapped-back ((reply a).dec s) reply_at (λ q n. answered s q) (λ m n h. (shown a.flag (awaited a) m n h).same)))
