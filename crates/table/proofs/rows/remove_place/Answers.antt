-- `table::rows::remove_place` meets its contract. Assumes nothing.
use mathlib.Core.Path.{sym, ap, ap₂, ◌∙◌}
use Prim.Native.Nat.{ℕ, ◌-◌}
use native.Mathlib.Omega.{arith}
use Rattle.table.specs.Memory.{place_of, count_of}
use Rattle.table.specs.Order.{removed_at, place_of_row}
use Rattle.table.proofs.Grows.{first_one, removed_at-none}
use Rattle.table.proofs.rows.remove_place.Goals as goal

pub returns-then-p-held : goal.returns-then-p-held
unfolding place_of
returns-then-p-held c =
    let p = c in
    let n = c in
    let s = c in
    let t = s.args.t.now in
    let e = n.count-held.ensures.0 in
    c.remove.ensures
    ∙ ap₂ (λ (x m : ℕ). removed_at x (m - 1) t) (first_one p.place_of-p.ensures ∙ ap (place_of_row t (place_of t s.args.i)) e) e

pub returns-else-p-held : goal.returns-else-p-held
unfolding place_of
returns-else-p-held c =
    let p = c in
    let n = c in
    let s = c in
    let t = s.args.t.now in
    let e = n.count-held.ensures.0 in
    let f = first_one p.place_of-p.ensures ∙ ap (place_of_row t (place_of t s.args.i)) e in
    sym (removed_at-none (place_of_row t (place_of t s.args.i) (count_of t)) (count_of t - 1) t (omega (arith, e, f, c.if-p-held.false)))
