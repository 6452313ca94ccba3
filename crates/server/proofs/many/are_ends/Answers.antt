-- `server::many::are_ends` meets its contract: each end is tested as the definition does. Assumes nothing.
use mathlib.Core.Path.{sym, ◌∙◌}
use borrow.Author.Tests.{le-leb, lt-leb}
use Rattle.server.proofs.PartLaws.{ends_at, ends-end}
use Rattle.server.proofs.many.are_ends.Goals as goal
use Rattle.server.proofs.many.are_ends.Goals.{then-end-start-via-then-end-start, then-end-start-via-else-end-start+then-n-end}

pub returns-then-end-start : goal.returns-then-end-start
returns-then-end-start c =
    sym
    (c.loop-end.invariant
    ∙ (ends_at _ _ _ _ c.loop-end-test.true
    ∙ elim c.then-end-start.branch [
      | then-end-start-via-then-end-start w ↦ rw (lt-leb _ _ w.if-end-start.true)
      | then-end-start-via-else-end-start+then-n-end w ↦ rw (le-leb _ _ w.if-end-start.false, lt-leb _ _ w.if-n-end.true)
    ]))

pub loop-end-preserved : goal.loop-end-preserved
loop-end-preserved c = c.loop-end.invariant ∙ (ends_at _ _ _ _ c.loop-end-test.true ∙ rw (le-leb _ _ c.if-end-start.false, le-leb _ _ c.if-n-end.false))

pub returns : goal.returns
returns c = sym (c.loop-end.invariant ∙ ends-end _ _ _ _ c.loop-end-test.false)
