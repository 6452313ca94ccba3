-- `soundness::parts::counts_within` meets its contract. Assumes nothing.
use mathlib.Core.Path.{◌≡◌, refl}
use Prim.Native.Nat.{ℕ, ◌+◌, ◌-◌, ◌≤◌}
use native.Mathlib.Omega.{arith}
use Rattle.std.proofs.Common.{rules}
use Rattle.std.proofs.lemmas.Iterator.{cases_from_all, YieldsList-from_range}
use Rattle.map.specs.History.{most_count}
use Rattle.table.specs.Memory.{number_of}
use Rattle.table.specs.Found.{header_number}
use Rattle.table.proofs.Lists.{told}
use Rattle.table.proofs.Answers.{header_in}
use Rattle.soundness.proofs.parts.counts_within.Goals as goal

pub returns : goal.returns
returns c =
    let t = c.args.t.now in
    let P = λ (i : ℕ). header_number t i ≤ most_count in
    told 3 10 P _
    (cases_from_all _ _ _ P (λ (i : ℕ). P i → ⊥) c.all.ensures.ran (YieldsList-from_range 3 10 7 refl refl) (λ x q k. search rules) (λ x q k. search rules))
    (λ f i l. omega (arith, f (3 + i) (omega arith) (omega arith), header_in t (3 + i) c.told-t (omega arith)))
    (λ f j h l. let e : 3 + (j - 3) ≡ j = omega arith in
    let q : number_of t (3 + (j - 3)) ≤ most_count = f (j - 3) (omega arith) in
    omega (arith, rw e at q, header_in t j c.told-t (omega arith)))
