-- `table::rows::find_from` meets its contract. Assumes nothing.
use native.Mathlib.Omega.{arith}
use Rattle.table.specs.Memory.{row_at}
use Rattle.table.specs.Found.{Has}
use Rattle.table.proofs.Clues.{sized, found}
use Rattle.std.proofs.Common.{rules}
use Rattle.std.proofs.lemmas.Iterator.{first_from_Range}
use Rattle.table.proofs.rows.find_from.Goals as goal

pub returns-then-k-gt-KEY : goal.returns-then-k-gt-KEY
returns-then-k-gt-KEY c = let s = c.args in
    λ j l h q. omega (arith, c.if-k-gt-KEY.true, sized s.t.now s.k.now (row_at s.t.now j) (omega (arith, c.requires)) q)

pub returns : goal.returns
returns c =
    let s = c.args in
    found s.t.now s.k.now s.from c.count.result c.find.result c.count.ensures.0
    (first_from_Range _ _ _ _ (Has s.t.now s.k.now) (λ i. Has s.t.now s.k.now i → ⊥) c.find.ensures.ran (λ x q k. search rules) (λ x q k. search rules))
