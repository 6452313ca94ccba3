-- `table::key_order::ascends` meets its contract. Assumes nothing.
use mathlib.Core.Path.{◌≡◌, refl}
use mathlib.Core.Bool.{true}
use Prim.Native.Nat.{ℕ, ◌-◌}
use native.Mathlib.Omega.{arith}
use Rattle.std.proofs.Common.{rules}
use Rattle.std.proofs.lemmas.Iterator.{cases_from_all, YieldsList-from_range}
use Rattle.wire.specs.Before.{before}
use Rattle.table.specs.Order.{name_at}
use Rattle.table.proofs.Lists.{told}
use Rattle.table.proofs.CheckLaws.{climb}
use Rattle.table.proofs.key_order.ascends.Goals as goal

pub returns : goal.returns
returns c =
    let t = c.args.t.now in
    let n = c.count.result in
    let P = λ (i : ℕ). before (name_at t (i - 1)) (name_at t i) ≡ true in
    told 1 n P _
    (cases_from_all _ _ _ P (λ (i : ℕ). P i → ⊥) c.all.ensures.ran (YieldsList-from_range 1 n (n - 1) refl refl) (λ x q k. search rules) (λ x q k. search rules))
    (λ f. climb t n (omega (arith, c.count.ensures.0)) f) (λ f j h l. f (j - 1) j (omega arith) (omega (arith, c.count.ensures.0)))
