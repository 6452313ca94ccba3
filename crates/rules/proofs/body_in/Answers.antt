-- `rules::body_in` meets its contract: the rows behind those passed decide. Assumes nothing.
use mathlib.Core.Path.{sym, ◌∙◌}
use lib.ListN.{drop_of_length-le}
use borrow.Author.Tests.{eq-eqb, ne_eqb}
use Rattle.message.specs.ReplyTable.{body_at}
use Rattle.rules.specs.declared.Body.TheVariants.{Nothing}
use Rattle.rules.proofs.BodyLaws.{row-on}
use Rattle.rules.proofs.body_in.Goals as goal

pub returns-then-s-status : goal.returns-then-s-status
returns-then-s-status c = sym (c.loop-s.invariant ∙ row-on _ _ _ (0, Nothing) c.loop-s-test.true ∙ rw (eq-eqb _ _ (sym c.if-s-status.true)))

pub loop-s-preserved : goal.loop-s-preserved
loop-s-preserved c = c.loop-s.invariant ∙ row-on _ _ _ (0, Nothing) c.loop-s-test.true ∙ rw (ne_eqb _ _ (λ e. c.if-s-status.false (sym e)))

pub returns : goal.returns
unfolding body_at
returns c = rw (c.loop-s.invariant, drop_of_length-le _ c.loop-s-test.false)
