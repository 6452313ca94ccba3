-- `stored::load_lines`: between two lines, those before the place are loaded. Assumes nothing.
use mathlib.Core.Path.{◌≡◌}
use mathlib.Core.Bool.{true}
use Prim.Native.Nat.{◌-◌, ◌≤◌}
use lib.ListN.{length, take}
use Rattle.stored.specs.File.{form1}
use Rattle.stored.specs.StoreLoad.{Loads}
use Rattle.stored.proofs.load_lines.Given as goal

abbrev pub invariant-loop-p : goal.invariant-loop-p
invariant-loop-p l = (l.p.good ≡ true) × (l.p.taken ≤ length l.chunk) × Loads form1 l.begun (take l.p.taken l.chunk) l.initial.t l.p.begun l.t

abbrev pub decreases-loop-p : goal.decreases-loop-p
decreases-loop-p l = length l.chunk - l.p.taken
