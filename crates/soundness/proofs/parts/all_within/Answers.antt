-- `soundness::parts::all_within` meets its contract. Assumes nothing.
use mathlib.Core.Path.{◌≡◌, refl, sym, subst, ◌∙◌}
use Prim.Native.Nat.{ℕ, ◌-◌}
use native.Mathlib.Omega.{arith}
use Rattle.std.proofs.Common.{rules}
use Rattle.std.proofs.lemmas.Iterator.{cases_from_all, YieldsList-from_range}
use Rattle.table.specs.Memory.{bound_index, number_of}
use Rattle.table.proofs.Lists.{told}
use Rattle.table.proofs.Answers.{header_in}
use Rattle.soundness.specs.Check.{entry_count, Within}
use Rattle.soundness.proofs.parts.all_within.Goals as goal

pub returns : goal.returns
returns c =
    let t = c.args.t.now in
    let n = c.count.result in
    let e : c.header-bound.result ≡ number_of t bound_index = c.header-bound.ensures ∙ header_in t bound_index c.told-t (omega arith) in
    let P = Within t c.header-bound.result in
    let m : n ≡ entry_count t = c.count.ensures in
    told 0 n P _
    (cases_from_all _ _ _ P (λ (i : ℕ). P i → ⊥) c.all.ensures.ran (YieldsList-from_range 0 n (n - 0) refl refl) (λ x q k. search rules) (λ x q k. search rules))
    (λ f i l. subst (λ (b : ℕ). Within t b i) e (f i (omega arith) (omega arith))) (λ f j h l. subst (λ (b : ℕ). Within t b j) (sym e) (f j (omega arith)))
