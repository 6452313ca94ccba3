-- `table::expiry::drop_rows` meets its contract. The loop's invariant: what is left to be done to the first i entries gives the whole. Assumes nothing.
use mathlib.Core.Path.{sym, ap, ◌∙◌, subst}
use mathlib.Core.List.{List}
use Prim.Native.Nat.{ℕ, ◌-◌, ◌≤◌}
use native.Mathlib.Omega.{arith}
use Rattle.table.specs.Memory.{count_of}
use Rattle.table.specs.Sweep.{less_all}
use Rattle.table.proofs.Sweeps.{less-all, less_none, less-count}
use Rattle.table.proofs.expiry.drop_rows.Goals as goal

pub loop-i-preserved : goal.loop-i-preserved
loop-i-preserved c =
    let s = c.args in
    let n = s.second.0 in
    let t = c.loop-i.t in
    let i = c.loop-i.i - 1 in
    let e = c.drop_expired.ensures in (
      omega arith,
      subst (λ (u : List ℕ). i ≤ count_of u) (sym e) (less-count n i t (omega arith) (omega arith)),
      ap (less_all n i) e ∙ sym (less-all n i c.loop-i.i t (omega arith)) ∙ c.loop-i.invariant.2,
    )

pub returns : goal.returns
returns c =
    let s = c.args in
    sym (less_none s.second.0 c.loop-i.t) ∙ ap (λ (n : ℕ). less_all s.second.0 n c.loop-i.t) (omega arith) ∙ c.loop-i.invariant.2
