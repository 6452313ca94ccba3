-- `statistics::read_named` meets its contract: `statistic-by` says what its reading goes by. Assumes nothing.
use Rattle.std.proofs.Common.{rules}
use mathlib.Core.Path.{sym, ◌∙◌}
use Rattle.statistics.proofs.Reading.{statistic-by, same-eq}
use Rattle.statistics.proofs.read_named.Goals as goal

pub returns-in_err-p : goal.returns-in_err-p
returns-in_err-p c = search (rules, statistic-by)

pub returns-in_default : goal.returns-in_default
returns-in_default c = search (rules, statistic-by)

pub returns-then-eq : goal.returns-then-eq
returns-then-eq c =
    c.read_decimal.ensures
    ∙ sym (statistic-by _ _ _ _ (rw c.in-Some.is at c.in_ok-p.ensures) ∙ rw (← c.part.ensures, same-eq, ← c.eq.ensures, c.if-eq.true))

pub returns-else-eq : goal.returns-else-eq
returns-else-eq c =
    sym (statistic-by _ _ _ _ (rw c.in-Some.is at c.in_ok-p.ensures) ∙ rw (← c.part.ensures, same-eq, ← c.eq.ensures, c.if-eq.false))
