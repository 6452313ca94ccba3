-- `field::read_between` meets its contract: the byte decides. Assumes nothing.
use borrow.Author.Tests.{le-leb, lt-leb}
use Rattle.field.proofs.Parts.{at-between}
use Rattle.field.proofs.read_between.Goals.{then-b-low-via-then-b-low, then-b-low-via-else-b-low+then-high-b}
use Rattle.field.proofs.read_between.Goals as goal

pub returns-in_default : goal.returns-in_default
returns-in_default g c = λ number. rw (at-between, ← c.read_byte.ensures, c.in_default.is)

pub returns-then-b-low : goal.returns-then-b-low
returns-then-b-low g c = λ number. elim c.then-b-low.branch [
  | then-b-low-via-then-b-low w ↦ rw (at-between, ← c.read_byte.ensures, c.in-Some.is, lt-leb _ _ w.if-b-low.true)
  | then-b-low-via-else-b-low+then-high-b w ↦ rw (at-between, ← c.read_byte.ensures, c.in-Some.is, le-leb _ _ w.if-b-low.false, lt-leb _ _ w.if-high-b.true)
]

pub returns : goal.returns
returns g c = λ number. rw (at-between, ← c.read_byte.ensures, c.in-Some.is, le-leb _ _ c.if-b-low.false, le-leb _ _ c.if-high-b.false)
