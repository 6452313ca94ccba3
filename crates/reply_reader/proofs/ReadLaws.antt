-- What reading a reply goes by, field by field. Assumes nothing.
use mathlib.Core.Path.{◌≡◌, sym, ap}
use mathlib.Core.List.{List}
use mathlib.Core.Option.{none, some}
use mathlib.Core.Bool.{Bool, cond}
use Prim.Native.Nat.{ℕ}
use native.Mathlib.Nat.{add-zero}
use lib.ListN.{length}
use Rattle.wire.specs.Codec.{Read, whole, refused, after, mapped, Codec, Bytes, empty, byte, as_type, read_at}
use Rattle.wire.specs.Number.{v_long}
use Rattle.wire.specs.Field.{entry_version, limited}
use Rattle.wire.proofs.Laws.{after-after, after_same, after_on}
use Rattle.wire.proofs.At.{at-seq, at-guard, at_type, at_cond}
use Rattle.field.specs.FieldRead.{limited_text, between, nowhere, span_to}
use Rattle.field.proofs.Parts.{at-between, only, span_none}
use Rattle.statistics.specs.Statistics.{statistics}
use Rattle.message.specs.Arguments.{value_limit}
use Rattle.message.specs.Listing.{listing}
use Rattle.message.specs.ReplyTable.{body_at, is_allowed, allowed}
use Rattle.message.specs.Payload.{Payload, text_limit, no_body, value_body, versioned_body, text_body, statistics_body, listed_body, fields_of, form_of}
use Rattle.message.specs.Reply.{is_awaited, statuses_of, fields, message}
use Rattle.message.specs.declared.Operation.{Operation}
use Rattle.message.specs.declared.Form.{Form}
use Rattle.message.specs.declared.Form.TheVariants as form
use Rattle.message.specs.declared.ReplyHead.{ReplyHead}
use Rattle.reply_reader.specs.ReplyRead.{Answer, reply_at, reply_with, head_with, listed_of, with_parts, with_statistics, with_entries, entries_to, bulk_of}
use Rattle.reply_reader.proofs.BulkLaws.{span_here}

-- an answer whose entry version is 0
same_head : (a : ReplyHead) → a.entry.0 ≡ 0 → head_with a 0 ≡ a
same_head a z = ap (head_with a) (sym z)

-- the bodies, behind a header whose entry version is not read yet
module _ (s : List ℕ) (at : ℕ) (a : ReplyHead) where
  abbrev With : Codec Payload → Read Answer
  With c = mapped reply_at (after (read_at c s at) (λ p j. whole (reply_with a p) j))

  module _ (k : bulk_of a.op ≡ none) where
    at_versioned : With versioned_body
        ≡ after (read_at entry_version s at) (λ e j. after (mapped span_to (read_at (limited value_limit) s j)) (λ p l. whole (with_parts (head_with a e) p nowhere) l))
    unfolding versioned_body mapped reply_at span_to
    at_versioned = simp (at_type, at-seq, after-after, k)

    module _ (z : a.entry.0 ≡ 0) where
      at_none : With no_body ≡ whole (with_parts a nowhere nowhere) at
      unfolding no_body read_at as_type empty mapped reply_at span_to
      at_none = rw (add-zero, same_head a z, k)

      at_value : (lim : ℕ) → With (value_body lim) ≡ after (mapped span_to (read_at (limited lim) s at)) (λ p j. whole (with_parts a p nowhere) j)
      unfolding value_body mapped reply_at span_to
      at_value lim = simp (at_type, after-after) (after_same (read_at (limited lim) s at) (λ v j. rw (same_head a z, k)))

      at_text : With text_body ≡ after (mapped span_to (read_at (limited_text text_limit) s at)) (λ p j. whole (with_parts a nowhere p) j)
      unfolding text_body mapped reply_at span_to
      at_text = simp (at_type, after-after) (after_same (read_at (limited_text text_limit) s at) (λ t j. rw (same_head a z, k)))

      at_statistics : With statistics_body ≡ after (read_at statistics s at) (λ ns j. whole (with_statistics a ns) j)
      unfolding statistics_body mapped reply_at span_to
      at_statistics = simp (at_type, after-after) (after_same (read_at statistics s at) (λ ns j. rw (same_head a z, k)))

  at_entries : (values : Bool) → bulk_of a.op ≡ some values → a.entry.0 ≡ 0 → Bytes s → With (listed_body values)
      ≡ after (mapped (λ es n. length es) (read_at (listing values) s at)) (λ n j. whole (with_entries a (entries_to at n j)) j)
  unfolding listed_body mapped reply_at
  at_entries values k z b =
      simp (at_type, after-after)
      (after_on (read_at (listing values) s at) (λ es j e. rw (same_head a z, k, span_here values s at es j b e, ← (span_none j))))

  -- what the reader of each body finds
  abbrev body_found : Form → Read Answer
  body_found form.Nothing = whole (with_parts a nowhere nowhere) at
  body_found (form.Value lim) = after (mapped span_to (read_at (limited lim) s at)) (λ p j. whole (with_parts a p nowhere) j)
  body_found form.Versioned =
      after (read_at entry_version s at) (λ e j. after (mapped span_to (read_at (limited value_limit) s j)) (λ p l. whole (with_parts (head_with a e) p nowhere) l))
  body_found form.Text = after (mapped span_to (read_at (limited_text text_limit) s at)) (λ p j. whole (with_parts a nowhere p) j)
  body_found form.Statistics = after (read_at statistics s at) (λ ns j. whole (with_statistics a ns) j)
  body_found (form.Listed values) =
      after (mapped (λ es n. length es) (read_at (listing values) s at)) (λ n j. whole (with_entries a (entries_to at n j)) j)

  pub at_body : (f : Form) → bulk_of a.op ≡ listed_of f → a.entry.0 ≡ 0 → Bytes s → With (fields_of f) ≡ body_found f
  unfolding fields_of
  at_body form.Nothing k z b = at_none k z
  at_body (form.Value lim) k z b = at_value k z lim
  at_body form.Versioned k z b = at_versioned k
  at_body form.Text k z b = at_text k z
  at_body form.Statistics k z b = at_statistics k z
  at_body (form.Listed values) k z b = at_entries values k z b

-- the message, field by field
pub at_message : (s : List ℕ) (old : Bool) (o : Operation) (flag : Bool) → mapped reply_at (read_at (message (is_awaited o) (statuses_of old o) flag) s 0)
    ≡ after (read_at (between 0xa1 0xa1 1) s 0) (λ m i.
    after (read_at v_long s i) (λ id i.
    after (read_at byte s i) (λ op i.
    cond (is_awaited o op)
    (after (read_at byte s i) (λ status i.
    cond (is_allowed (body_at status (statuses_of old o op)))
    (after (read_at (between 0 0 8) s i) (λ m i.
    mapped reply_at (after (read_at (fields_of (form_of flag (allowed (body_at status (statuses_of old o op))))) s i) (λ p j.
    whole (record { id = id; op = op; status = status; payload = p }) j))))
    (refused 8)))
    (refused 4))))
unfolding message fields mapped
at_message s old o flag = simp (at_type, at-seq, at-guard, at-between, after-after, at_cond, only)
