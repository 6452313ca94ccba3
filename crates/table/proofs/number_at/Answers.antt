-- `table::number_at` meets its contract. Assumes nothing.
use mathlib.Core.Path.{sym, ap, ◌∙◌}
use Prim.Native.Nat.{ℕ, ◌+◌}
use native.Mathlib.Omega.{arith}
use mathlib.Core.List.{List}
use Rattle.table.specs.Memory.{row_at}
use Rattle.table.specs.Bytes.{be8}
use Rattle.table.proofs.Answers.{number_in, number-other, number-none, number-out}
use Rattle.table.proofs.number_at.Goals as goal

pub returns-in_default : goal.returns-in_default
returns-in_default c = sym (number-other _ _ _ c.in_default.ensures)

pub returns-then-i-ge-KEYS : goal.returns-then-i-ge-KEYS
returns-then-i-ge-KEYS c = sym (number-none _ _ _ (omega arith))

pub returns-then-o : goal.returns-then-o
returns-then-o c = sym (number-out _ _ _ (omega arith))

pub returns : goal.returns
returns c = let s = c in
    c.get64.ensures
    ∙ ap (λ (a : ℕ). be8 c.in-Some.t.now (a + s.args.o)) c.row_at.ensures
    ∙ ap (λ (u : List ℕ). be8 u (row_at u s.args.i + s.args.o)) c.in-Some.ensures.0
    ∙ sym (number_in s.args.t.now s.args.i s.args.o c.in-Some.ensures.1 (omega arith) (omega arith))
