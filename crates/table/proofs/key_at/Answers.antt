-- `table::key_at` meets its contract. Assumes nothing.
use mathlib.Core.Path.{sym, ap, ◌∙◌}
use mathlib.Core.List.{List}
use Prim.Native.Nat.{ℕ}
use native.Mathlib.Omega.{arith}
use Rattle.map.specs.State.{Entry}
use Rattle.table.specs.Memory.{entry, entry_of, count_of, row_at}
use Rattle.table.proofs.RowLaws.{entry-is, length_entries}
use Rattle.table.proofs.Answers.{other_entries, no_row}
use Rattle.table.proofs.key_at.Goals as goal

pub returns-in_default : goal.returns-in_default
unfolding entry
returns-in_default c = let s = c.args in
    sym (ap (λ (e : Entry). e.key) (no_row s.t.now s.i (omega (arith, other_entries s.t.now c.in_default.ensures))))

pub returns-then-i-count : goal.returns-then-i-count
returns-then-i-count c = let s = c.args in
    let h = c.in-Some.ensures in
    c.key.ensures ∙ ap (λ (u : List ℕ). (entry_of u (row_at u s.i)).key) h.0
    ∙ ap (λ (e : Entry). e.key) (sym (entry-is s.t.now h.1 s.i (omega (arith, c.count.ensures.0, ap count_of h.0))))

pub returns : goal.returns
unfolding entry
returns c = let s = c.args in
    let h = c.in-Some.ensures in
    sym (ap (λ (e : Entry). e.key) (no_row s.t.now s.i (omega (arith, length_entries s.t.now h.1, c.count.ensures.0, ap count_of h.0))))
