-- `table::renew` meets its contract. Assumes nothing.
use mathlib.Core.Path.{sym, subst}
use mathlib.Core.List.{List}
use Prim.Native.Nat.{ℕ, ◌<◌}
use native.Mathlib.Omega.{arith}
use Rattle.std.proofs.Common.{rules}
use Rattle.map.specs.Step.{last_version}
use Rattle.table.specs.Memory.{last_index, number_of, count_of}
use Rattle.table.proofs.RowLaws.{last-is}
use Rattle.table.proofs.Answers.{held-row, renewed_yes, renewed-unfit, renewed-none, renewed-last}
use Rattle.table.proofs.renew.Goals as goal

pub returns-then-value-gt-VALUE : goal.returns-then-value-gt-VALUE
returns-then-value-gt-VALUE c = let s = c.args in renewed-unfit s.t.now s.i s.value.now s.deadline.0 (omega arith)

pub returns-then-count-i : goal.returns-then-count-i
returns-then-count-i c = let s = c.args in renewed-none s.t.now s.i s.value.now s.deadline.0 (omega arith)

pub returns-then-ge : goal.returns-then-ge
returns-then-ge c = let s = c.args in
    renewed-last s.t.now s.i s.value.now s.deadline.0 (search rules)

pub returns-in_default : goal.returns-in_default
returns-in_default c = absurd (c.in_default.ensures.cases (held-row c.args.t.now c.args.i (omega arith)).0)

pub renew-requires : goal.renew-requires
renew-requires c = let s = c.args in
    let h = held-row s.t.now s.i (omega arith) in
    record {
      held = subst (λ (u : List ℕ). (s.i < count_of u) × (number_of u last_index < last_version)) (sym c.in-Some.ensures.cases.0) (h.1, search (rules, last-is s.t.now h.0));
      v_len_bound = omega arith;
    }

pub returns : goal.returns
returns c = let s = c.args in
    let h = held-row s.t.now s.i (omega arith) in
    renewed_yes s.t.now s.i s.value.now s.deadline.0 _ (omega arith) (omega arith) (search rules)
    (rw (last-is s.t.now h.0, c.lower_bound.ensures, c.renew.ensures, c.in-Some.ensures.cases.0))
