-- `table::history::begin` meets its contract. Assumes nothing.
use mathlib.Core.Path.{sym, ap, ◌∙◌}
use Prim.Native.Nat.{ℕ}
use native.Mathlib.Numerals.{add-one}
use Rattle.table.specs.Write.{with_number}
use Rattle.table.proofs.Numbers.{begun_yes, begun_no}
use Rattle.table.proofs.history.begin.Goals as goal

pub returns-then-header-eq0 : goal.returns-then-header-eq0
returns-then-header-eq0 c =
    let n = c.args.second.0 in
    c.set_header.ensures
    ∙ ap (λ (x : ℕ). with_number 2 x c.args.t.now) (add-one n)
    ∙ sym (begun_yes n c.args.t.now c.told-t (sym c.header.ensures ∙ c.if-header-eq0.true))

pub returns-else-header-eq0 : goal.returns-else-header-eq0
returns-else-header-eq0 c =
    sym (begun_no c.args.second.0 c.args.t.now c.told-t (λ e. c.if-header-eq0.false (c.header.ensures ∙ e)))
