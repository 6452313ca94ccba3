-- What the reader answers of a reply: its numbers, where its value, its text and its entries stand in the bytes, and its statistics.
use Rattle.std.specs.Prelude as std
use Rattle.std.specs.Prelude.{List, [], Bool, true, false, cond, ℕ, ◌-◌, length, eqb}
use Rattle.std.proofs.Math.Option.{Option, none, some}
use Rattle.wire.specs.Codec.{Read, whole, more, refused}
use Rattle.field.specs.FieldRead.{part_of, nowhere, span_to}
use Rattle.field.specs.declared.Span.{Span}
use Rattle.statistics.specs.Statistics.{list_of}
use Rattle.message.specs.Listing.{listing}
use Rattle.message.specs.Payload.{Payload}
use Rattle.message.specs.Reply.{Reply, reply_in}
use Rattle.message.specs.declared.Form.{Form}
use Rattle.message.specs.declared.Form.TheVariants as form
use Rattle.message.specs.declared.ReplyHead.{ReplyHead}
use Rattle.message.specs.declared.Reply as code
use Rattle.reply_reader.specs.declared.Entries.{Entries}
use Rattle.reply_reader.specs.declared.AnyReply.{AnyReply}
use Rattle.reply_reader.specs.declared.AnyReply.TheVariants as r
use Rattle.field.specs.declared.refusals.Refusal.{Refusal}
use Rattle.field.specs.Refusal.{number_of}

-- numbers and places; the statistics, which are none but in a stats reply; and the entries, which stand nowhere but in a bulk reply
abbrev pub Answer : Type 0
Answer = code.Reply × (List ℕ × Entries)

abbrev pub unlisted : Entries
unlisted = record { count = 0; part = nowhere }

-- entries that begin at a place and end at n
abbrev pub entries_to : (at count n : ℕ) → Entries
entries_to at k n = record { count = k; part = record { start = at; len = n - at } }

-- the answer of a header and two parts; that of a header and statistics; and that of a header and entries
abbrev pub with_parts : ReplyHead → Span → Span → Answer
with_parts a value text = (record { head = a; value = value; text = text }, ([], unlisted))

abbrev pub with_statistics : ReplyHead → List ℕ → Answer
with_statistics a ns = (record { head = a; value = nowhere; text = nowhere }, (ns, unlisted))

abbrev pub with_entries : ReplyHead → Entries → Answer
with_entries a e = (record { head = a; value = nowhere; text = nowhere }, ([], e))

abbrev pub answer_of : AnyReply → Answer
answer_of (r.Plain x) = (x, ([], unlisted))
answer_of (r.Statistics a x) = with_statistics a (list_of x)
answer_of (r.Entries a e) = with_entries a e

abbrev pub as_reply : std.Result (std.Option (AnyReply × ℕ)) Refusal → Read Answer
as_reply (std.Ok std.None) = more
as_reply (std.Ok (std.Some p)) = whole (answer_of p.0) p.1
as_reply (std.Err k) = refused (number_of k)

abbrev pub head_with : ReplyHead → (entry : ℕ) → ReplyHead
head_with a e = record { id = a.id; op = a.op; status = a.status; entry = record { 0 = e } }

-- whether a reply with this operation is a bulk reply, and then whether with values
unfoldable pub bulk_of : ℕ → Option Bool
bulk_of op = cond (eqb op 0x1a) (some true) (cond (eqb op 0x1e) (some false) none)

abbrev pub listed_of : Form → Option Bool
listed_of form.Nothing = none
listed_of (form.Value lim) = none
listed_of form.Versioned = none
listed_of form.Text = none
listed_of form.Statistics = none
listed_of (form.Listed values) = some values

-- where the entries of a bulk reply stand, which they end
abbrev pub entries_at : Option Bool → List (List ℕ × List ℕ) → ℕ → Entries
entries_at none es n = unlisted
entries_at (some values) es n = record { count = length es; part = span_to ((listing values).enc es) n }

-- the answer of a reply of n bytes: a value or a text that is sent ends it
unfoldable pub reply_at : Reply → ℕ → Answer
reply_at m n = (
  record {
    head = record { id = m.id; op = m.op; status = m.status; entry = record { 0 = m.payload.entry_version } };
    value = span_to m.payload.value n;
    text = span_to m.payload.text n;
  },
  (m.payload.statistics, entries_at (bulk_of m.op) m.payload.entries n),
)

-- the reply of a header and a body
abbrev pub reply_with : ReplyHead → Payload → Reply
reply_with a p = record { id = a.id; op = a.op; status = a.status; payload = p }

-- the entries that bytes hold
abbrev found : {A : Type 0} → Read (List A) → List A
found (whole xs n) = xs
found more = []
found (refused k) = []

abbrev pub entries_in : Option Bool → List ℕ → List (List ℕ × List ℕ)
entries_in none bs = []
entries_in (some values) bs = found ((listing values).dec bs)

-- the reply that an answer tells, over the bytes that it was read from
abbrev pub answered : List ℕ → Answer → Reply
answered s q = reply_in s q.0 q.1.0 (entries_in (bulk_of q.0.head.op) (part_of s q.1.1.part))
