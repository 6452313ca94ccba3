-- `files::store_next` meets its contract: between two lines, those before the place are written. Assumes nothing.
use Prim.Native.Nat.{◌+◌, ◌-◌}
use Rattle.files.proofs.StoreLaws.{Laid}
use Rattle.files.proofs.store_next.Given as goal

abbrev pub invariant-loop-i : goal.invariant-loop-i
invariant-loop-i l = Laid l.table l.initial.out l.line l.out l.at l.i

abbrev pub decreases-loop-i : goal.decreases-loop-i
decreases-loop-i l = l.count + 1 - l.i
