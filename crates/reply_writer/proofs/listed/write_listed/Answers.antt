-- `reply_writer::listed::write_listed` meets its contract: the entries behind the place of the header, and then the header. Assumes nothing.
use mathlib.Core.Path.{sym, ap, ◌∙◌}
use Rattle.wire.proofs.WriteLaws.{send-broken}
use Rattle.listing.specs.EntryWrite.{listed_in, as_size}
use Rattle.listing.proofs.Writing.{length_some, length_none}
use Rattle.message.specs.Listing.{listing}
use Rattle.message.specs.Payload.{listed_body}
use Rattle.reply_writer.specs.Frame.{framed}
use Rattle.reply_writer.proofs.SendLaws.{id-good, id-bad, bulk-ok, bulk-broken, bulk-short, head_room, bulk-sent}
use Rattle.reply_writer.proofs.listed.write_listed.Goals as goal

pub returns-then-id-gt9223372036854775807 : goal.returns-then-id-gt9223372036854775807
returns-then-id-gt9223372036854775807 c =
    send-broken (framed (listed_body c.args.values)) _ _
    (sym (bulk-ok c.args.values c.args.id (listed_in c.args.bytes.now c.args.numbers.now)) ∙ rw (id-bad c.args.id c.if-id-gt9223372036854775807.true))

pub returns-in-None : goal.returns-in-None
returns-in-None c =
    bulk-broken _ _ _ _ _ (rw c.if-end-n.true at c.put_entries-end.ensures) (length_none (listing _) _ (ap as_size (sym c.in-None.is) ∙ c.entries_len.ensures))

pub returns-in-Some : goal.returns-in-Some
returns-in-Some c =
    bulk-short _ _ _ _ _ (id-good _ c.if-id-gt9223372036854775807.false) c.header_len-n.ensures.0 (rw c.if-end-n.true at c.put_entries-end.ensures)
    (length_some (listing _) _ _ (ap as_size (sym c.in-Some.is) ∙ c.entries_len.ensures)).0

pub put_header-requires-clause-room : goal.put_header-requires-clause-room
put_header-requires-clause-room c =
    head_room _ _ _ _ _ (id-good _ c.if-id-gt9223372036854775807.false) c.header_len-n.ensures.0 c.put_entries-end.ensures c.if-end-n.false

pub returns : goal.returns
returns c =
    bulk-sent _ _ _ _ _ (id-good _ c.if-id-gt9223372036854775807.false) c.header_len-n.ensures.0 c.put_entries-end.ensures c.if-end-n.false
    (rw c.bulk_code.ensures at c.put_header.ensures)
