-- `table::same_key` meets its contract. The loop's invariant: the pairs compared are alike. Assumes nothing.
use mathlib.Core.Path.{sym}
use native.Mathlib.Omega.{arith}
use Rattle.table.proofs.Compare.{lengths-unlike, alike-none, alike-more, alike-less, alike_all}
use Rattle.table.proofs.same_key.Goals as goal

pub returns-then-all-b : goal.returns-then-all-b
returns-then-all-b c = sym (lengths-unlike _ _ c.if-all-b.true)

pub loop-alike-init : goal.loop-alike-init
loop-alike-init c = alike-none _ _ c.if-all-b.false

pub returns-then-a-n : goal.returns-then-a-n
returns-then-a-n c =
    let l = c in
    alike-less _ _ l.loop-alike.alike (omega arith) l.loop-alike.invariant c.if-a-n.true

pub loop-alike-preserved : goal.loop-alike-preserved
loop-alike-preserved c =
    let l = c in
    alike-more _ _ l.loop-alike.alike (omega arith) l.loop-alike.invariant c.if-a-n.false

pub returns : goal.returns
returns c = alike_all _ _ c.loop-alike.alike (omega arith) c.loop-alike.invariant
