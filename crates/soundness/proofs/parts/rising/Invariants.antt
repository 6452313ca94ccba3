-- `soundness::parts::rising` meets its contract. The loop's invariant: the versions passed rise, and `low` is the least number that they are at most. Assumes nothing.
use Prim.Native.Nat.{ℕ, ◌≤◌, ◌<◌}
use Rattle.table.specs.Found.{row_number}
use Rattle.soundness.specs.Check.{Rising}
use Rattle.soundness.proofs.parts.rising.Given as goal

abbrev pub invariant-loop-i : goal.invariant-loop-i
invariant-loop-i l = (l.i ≤ l.i-end) × Rising l.t l.i l.low × ((x : ℕ) → ((j : ℕ) → j < l.i → row_number l.t j 0 ≤ x) → l.low ≤ x)
