-- `board::keep::write_lines` is safe and ends: each call names a later line, and there is a last one. Assumes nothing.
use mathlib.Core.Path.{◌≡◌}
use Prim.Native.Nat.{◌+◌, ◌-◌}
use lib.ListN.{length}
use Rattle.table.specs.Memory.{state_of}
use Rattle.board.proofs.keep.write_lines.Given as goal

abbrev pub invariant-loop-n : goal.invariant-loop-n
invariant-loop-n l = length l.lines ≡ 65536

abbrev pub decreases-loop-n : goal.decreases-loop-n
decreases-loop-n l = length (state_of l.t).entries + 1 - l.line
