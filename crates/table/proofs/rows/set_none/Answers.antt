-- `table::rows::set_none` meets its contract. Assumes nothing.
use mathlib.Core.Path.{◌≡◌, ap, ◌∙◌}
use Prim.Native.Nat.{ℕ}
use native.Mathlib.Omega.{arith}
use lib.ListN.{length, take, replicate}
use lib.Seq.{length-take-le}
use Rattle.table.specs.Write.{with_none}
use Rattle.table.proofs.Numbers.{none-filled}
use Rattle.table.proofs.rows.set_none.Goals as goal

pub returns : goal.returns
unfolding with_none
returns c =
    let t = c.args.t.now in
    let l : length (take 96 t) ≡ 96 = length-take-le 96 t (omega arith) in
    none-filled t _ (omega arith) (c.fill.ensures.after (λ y e. e) ∙ ap (λ (n : ℕ). replicate n 0) l)
