-- `stored::file_len`: its loop has passed the lines of i entries. Assumes nothing.
use mathlib.Core.Path.{◌≡◌}
use Prim.Native.Nat.{◌+◌, ◌*◌, ◌≤◌}
use lib.ListN.{length}
use Rattle.stored.specs.File.{form1}
use Rattle.stored.proofs.FileLaws.{front}
use Rattle.stored.proofs.file_len.Given as goal

abbrev pub invariant-loop-i : goal.invariant-loop-i
invariant-loop-i l = (l.sum ≡ length (front form1 l.t (l.i + 1))) × (l.sum ≤ 19 + 679 * l.i)
