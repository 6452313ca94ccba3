-- `table::key_order::all_marked` meets its contract. Assumes nothing.
use mathlib.Core.Path.{◌≡◌, refl}
use mathlib.Core.Bool.{true, false}
use Prim.Native.Nat.{ℕ, ◌+◌, ◌-◌}
use native.Mathlib.Omega.{arith}
use lib.ListN.{get_or}
use Rattle.std.proofs.Common.{rules}
use Rattle.std.proofs.lemmas.Iterator.{cases_from_all, YieldsList-from_range}
use Rattle.table.proofs.Lists.{told}
use Rattle.table.proofs.key_order.all_marked.Goals as goal

pub returns : goal.returns
returns c =
    let s = c.args in
    let P = λ (i : ℕ). get_or s.seen (get_or s.t.now (s.start + i) 0) false ≡ true in
    told 0 s.n P _
    (cases_from_all _ _ _ P (λ (i : ℕ). P i → ⊥) c.all.ensures.ran (YieldsList-from_range 0 s.n (s.n - 0) refl refl) (λ x q k. search rules) (λ x q k. search rules))
    (λ f i l. f i (omega arith) l) (λ f j h l. f j l)
