-- `exports::tell::numbers` meets its contract. Assumes nothing.
use borrow.Author.Tests.{le-leb, lt-leb}
use Rattle.exports.specs.Codes.{tell}
use Rattle.exports.proofs.tell.numbers.Goals as goal

pub returns-then-answer-ns : goal.returns-then-answer-ns
unfolding tell
returns-then-answer-ns c = rw (lt-leb _ _ c.if-answer-ns.true)

pub returns : goal.returns
unfolding tell
returns c = rw (le-leb _ _ c.if-answer-ns.false, c.copy_from_slice.ensures.after)
