-- `files::go_on` meets its contract. Assumes nothing.
use Rattle.files.proofs.NextLaws.{writes, ends, reads}
use Rattle.files.proofs.go_on.Goals as goal

pub returns-then-f-ne0 : goal.returns-then-f-ne0
returns-then-f-ne0 c t out out' t' r u = writes r u c.if-f-ne0.true

pub returns-then-s : goal.returns-then-s
returns-then-s c t out out' t' r u = ends r u c.if-f-ne0.false c.if-s.true

pub returns : goal.returns
returns c t out out' t' r u =
    reads r u c.if-f-ne0.false c.if-s.false c.move_down-n.ensures.buf_after c.move_down-n.ensures.value
