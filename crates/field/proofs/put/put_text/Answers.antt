-- `field::put::put_text` meets its contract: it judges the text, and then writes the bytes. Assumes nothing.
use mathlib.Core.Path.{sym, ◌∙◌}
use Rattle.wire.specs.Codec.{guard}
use Rattle.wire.specs.Write.{put_at}
use Rattle.field.specs.FieldRead.{limited_text}
use Rattle.field.proofs.put.put_text.Goals as goal

pub returns-then-not-is_text : goal.returns-then-not-is_text
unfolding limited_text guard put_at
returns-then-not-is_text c = rw (sym c.is_text.ensures ∙ c.if-not-is_text.true)

pub returns : goal.returns
unfolding limited_text guard put_at
returns c =
    let w = c.before.before in
    let i = w in
    rw (sym i.is_text.ensures ∙ i.if-not-is_text.false) w.put_limited.ensures
