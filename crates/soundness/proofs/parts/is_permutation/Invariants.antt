-- `soundness::parts::is_permutation` meets its contract. The loop's invariant: the rows marked are those that the places passed name. Assumes nothing.
use Prim.Native.Nat.{◌≤◌}
use Rattle.soundness.proofs.Seen.{Seen}
use Rattle.soundness.proofs.parts.is_permutation.Given as goal

abbrev pub invariant-loop-i : goal.invariant-loop-i
invariant-loop-i l = (l.i ≤ 128) × Seen l.t l.seen l.i
