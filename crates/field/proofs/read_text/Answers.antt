-- `field::read_text` meets its contract: the test comes once the bytes are whole. Assumes nothing.
use Rattle.std.proofs.Common.{rules}
use Rattle.field.proofs.Parts.{at-text}
use Rattle.field.proofs.read_text.Goals as goal

pub returns-in_err-p : goal.returns-in_err-p
returns-in_err-p c = search (rules, at-text)

pub returns-in_default : goal.returns-in_default
returns-in_default c = rw (at-text, ← c.in_ok-p.ensures, c.in_default.is)

pub returns-then-not-is_text : goal.returns-then-not-is_text
returns-then-not-is_text c = rw (at-text, ← c.in_ok-p.ensures, c.in-Some.is, ← c.part.ensures, ← c.is_text.ensures, c.if-not-is_text.true)

pub returns : goal.returns
returns c = rw (at-text, ← c.in_ok-p.ensures, c.in-Some.is, ← c.part.ensures, ← c.is_text.ensures, c.if-not-is_text.false)
