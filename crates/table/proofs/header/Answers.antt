-- `table::header` meets its contract. Assumes nothing.
use mathlib.Core.Path.{sym, ap, ◌∙◌}
use mathlib.Core.List.{List}
use Prim.Native.Nat.{ℕ}
use Rattle.table.specs.Memory.{number_of}
use native.Mathlib.Omega.{arith}
use Rattle.table.proofs.Answers.{header_in, header_other, header_out}
use Rattle.table.proofs.header.Goals as goal

pub returns-in_default : goal.returns-in_default
returns-in_default c = sym (header_other _ _ c.in_default.ensures)

pub returns-then-i-gt-BOUND : goal.returns-then-i-gt-BOUND
returns-then-i-gt-BOUND c = sym (header_out _ _ (omega arith))

pub returns : goal.returns
returns c = c.header.ensures ∙ ap (λ (u : List ℕ). number_of u c.args.i) c.in-Some.ensures.0 ∙ sym (header_in _ _ c.in-Some.ensures.1 (omega arith))
