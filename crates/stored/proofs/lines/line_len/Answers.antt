-- `stored::lines::line_len` meets its contract. Assumes nothing.
use mathlib.Core.Path.{sym, ap, ◌∙◌}
use native.Mathlib.Omega.{arith}
use lib.ListN.{length}
use borrow.Author.Tests.{not-true, not-false}
use Rattle.table.specs.Found.{entry_at}
use Rattle.stored.specs.File.{form1}
use Rattle.stored.proofs.StoreLaws.{line-stands, line-gone}
use Rattle.stored.proofs.lines.line_len.Goals as goal

pub returns-then-not-stands : goal.returns-then-not-stands
returns-then-not-stands c =
    let s = c.args in
    (sym (ap length (line-gone form1 s.second.0 (entry_at s.t.now s.i) (not-false _ (sym c.stands.ensures ∙ c.if-not-stands.true)))), omega arith)

pub returns : goal.returns
returns c =
    let s = c.args in
    let n = c.entry_len.ensures in
    (n.0 ∙ sym (ap length (line-stands form1 s.second.0 (entry_at s.t.now s.i) (not-true _ (sym c.stands.ensures ∙ c.if-not-stands.false)))), n.1)
