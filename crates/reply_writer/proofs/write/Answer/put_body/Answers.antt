-- `reply_writer::write::Answer::put_body` meets its contract: each form writes its fields. Assumes nothing.
use mathlib.Core.Path.{refl, sym}
use native.Mathlib.Nat.{add-zero}
use Rattle.wire.specs.Codec.{empty, as_type}
use Rattle.message.specs.Payload.{no_body}
use Rattle.message.specs.Payload.{fields_of}
use Rattle.reply_writer.specs.Answer.{payload_in}
use Rattle.reply_writer.proofs.SendLaws.{put-value, put-versioned, put-text, put_no_entries, unsent}
use Rattle.reply_writer.proofs.write.Answer.put_body.Goals as goal

pub returns-in-Nothing : goal.returns-in-Nothing
unfolding fields_of no_body as_type empty
returns-in-Nothing c = rw c.in-Nothing.is (record { next = sym (add-zero _); list = refl; long = refl })

pub returns-in-Value : goal.returns-in-Value
unfolding fields_of
returns-in-Value c =
    let e = c.in-Value.is in
    rw e (put-value (payload_in c.args.self) _ (rw e at c.requires.valid) (rw e at c.requires.room) c.put_limited.ensures)

pub returns-in-Versioned : goal.returns-in-Versioned
unfolding fields_of
returns-in-Versioned c =
    let e = c.in-Versioned.is in
    rw e (put-versioned (payload_in c.args.self) (rw e at c.requires.valid) (rw e at c.requires.room) c.put_version-next.ensures c.put_limited-in-Versioned.ensures)

pub returns-in-Text : goal.returns-in-Text
unfolding fields_of
returns-in-Text c =
    let e = c.in-Text.is in
    rw e (put-text (payload_in c.args.self) (rw e at c.requires.valid) (rw e at c.requires.room) c.put_text.ensures)

pub returns-in-Statistics : goal.returns-in-Statistics
unfolding fields_of
returns-in-Statistics c = let s = c in
    unsent _ _ _ (rw c.in-Statistics.is at c.requires.valid)

pub returns-in-Listed : goal.returns-in-Listed
unfolding fields_of
returns-in-Listed c =
    let e = c.in-Listed.is in
    rw e (put_no_entries _ _ _ _ (rw e at c.requires.room) c.put_byte.ensures)
