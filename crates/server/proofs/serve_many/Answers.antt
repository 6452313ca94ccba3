-- `server::serve_many` meets its contract: each test is one of `refusal_of`. Assumes nothing.
use mathlib.Core.Path.{sym, ◌∙◌}
use Prim.Native.Nat.{◌*◌}
use native.Mathlib.Omega.{arith}
use lib.ListN.{length}
use borrow.Author.Tests.{lt-ltb, le-ltb}
use Rattle.server.proofs.ManyLaws.{stopped}
use Rattle.server.proofs.serve_many.Goals as goal

pub returns-then-answer-ends : goal.returns-then-answer-ends
returns-then-answer-ends c = stopped _ _ _ _ _ _ (rw (lt-ltb (length c.args.answer.now) (3 * length c.args.ends.now) (omega (arith, c.if-answer-ends.true))))

pub returns-then-not-are_ends : goal.returns-then-not-are_ends
returns-then-not-are_ends c =
    stopped _ _ _ _ _ _ (rw (le-ltb (length c.args.answer.now) (3 * length c.args.ends.now) (omega (arith, c.if-answer-ends.false)), sym c.are_ends.ensures ∙ c.if-not-are_ends.true))

pub returns-then-reply-lt-ROOM : goal.returns-then-reply-lt-ROOM
returns-then-reply-lt-ROOM c =
    stopped _ _ _ _ _ _
    (rw (le-ltb (length c.args.answer.now) (3 * length c.args.ends.now) (omega (arith, c.if-answer-ends.false)), sym c.are_ends.ensures ∙ c.if-not-are_ends.false, lt-ltb _ _ c.if-reply-lt-ROOM.true))
