-- `stored::load` meets its contract. Assumes nothing.
use mathlib.Core.Path.{sym, ◌∙◌}
use native.Mathlib.Omega.{arith}
use Rattle.wire.proofs.Laws.{never}
use borrow.Author.Tests.{not-true, not-false}
use Rattle.stored.proofs.WholeLaws.{loaded_no, loaded_yes}
use Rattle.stored.proofs.load.Goals as goal
use Rattle.stored.proofs.load.Goals.{then-not-p-via-then-not-p, then-not-p-via-else-not-p+then-not-p-2, then-not-p-via-else-not-p+else-not-p-2+then-p-file}

pub returns-then-not-p : goal.returns-then-not-p
returns-then-not-p c =
    loaded_no _ c.load_lines-p.ensures (omega arith)
    (λ g b n.
    elim c.then-not-p.branch [
      | then-not-p-via-then-not-p w ↦ let z = sym g ∙ not-true _ w.if-not-p.true in never (cc)
      | then-not-p-via-else-not-p+then-not-p-2 w ↦ let z = sym b ∙ not-true _ w.if-not-p-2.true in never (cc)
      | then-not-p-via-else-not-p+else-not-p-2+then-p-file w ↦ w.if-p-file.true n
    ])

pub returns : goal.returns
returns c =
    loaded_yes _ c.load_lines-p.ensures _ c.if-t-ne-SIZE.false
    (not-false _ c.if-not-p-2.false) c.if-p-file.false c.copy_from_slice.ensures.after
