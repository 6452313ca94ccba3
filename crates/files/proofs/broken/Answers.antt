-- `files::broken` meets its contract. Assumes nothing.
use mathlib.Core.List.{List}
use mathlib.Core.Logic.{⊎_elim}
use Prim.Native.Nat.{ℕ, ◌≤◌}
use native.Mathlib.Omega.{arith}
use lib.ListN.{length}
use Rattle.map.specs.Step.{most_keys}
use Rattle.table.specs.Memory.{state_of}
use Rattle.table.proofs.Lists.{lt-or_ge}
use Rattle.table.proofs.RowLaws.{count_most}
use Rattle.table.proofs.Answers.{held-row}
use Rattle.files.specs.Loading.{line_behind}
use Rattle.files.proofs.broken.Goals as goal

few : (t : List ℕ) → length (state_of t).entries ≤ most_keys
few t = ⊎_elim (λ l. absurd (omega (arith, (held-row t most_keys l).1, count_most t))) (λ l. l) (lt-or_ge most_keys (length (state_of t).entries))

pub overflow_add-result : goal.overflow_add-result
overflow_add-result c = omega (arith, c.count.ensures, few c.args.table.now)

pub returns-then-begun : goal.returns-then-begun
unfolding line_behind
returns-then-begun c = rw (c.if-begun.true, c.count.ensures)

pub returns : goal.returns
unfolding line_behind
returns c = rw c.if-begun.false
