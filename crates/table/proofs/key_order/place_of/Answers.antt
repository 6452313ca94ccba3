-- `table::key_order::place_of` meets its contract. Assumes nothing.
use mathlib.Core.Path.{◌≡◌, ap, subst, sym, ◌∙◌}
use Prim.Native.Nat.{◌+◌, ◌-◌}
use native.Mathlib.Omega.{arith}
use Rattle.std.proofs.Common.{rules}
use Rattle.std.proofs.lemmas.Iterator.{IsFirst-from_position, YieldsList-from_slice}
use Rattle.table.proofs.Places.{first_at}
use Rattle.wire.specs.Write.{part}
use Rattle.table.specs.Order.{FirstAt}
use Rattle.table.proofs.key_order.place_of.Goals as goal

pub returns : goal.returns
returns c =
    let s = c.args in
    let e : 224 + s.n - 224 ≡ s.n = omega arith in
    subst (FirstAt s.t.now s.row s.n) (sym c.unwrap_or.ensures)
    (first_at s.t.now s.row s.n c.position.result (omega arith)
    (IsFirst-from_position _ _ _ (λ x. x ≡ s.row) (λ x. x ≡ s.row → ⊥) c.position.ensures.ran (YieldsList-from_slice (part s.t.now 224 s.n) (c.iter.ensures.rest ∙ ap (part s.t.now 224) e)) (λ x q k. search rules) (λ x q k. search rules)))
