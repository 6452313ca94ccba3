-- Statistics keep the laws of a codec. Assumes nothing.
use mathlib.Core.Path.{◌≡◌, refl}
use mathlib.Core.List.{List, [], ◌∷◌}
use Prim.Native.Nat.{ℕ, ◌<◌}
use lib.ListN.{length, get_or, drop}
use lib.Dec.{eqb, ltb}
use native.Mathlib.Omega.{arith}
use borrow.Author.Tests.{eqb-true, ltb-true, lt-ltb}
use Rattle.wire.specs.Codec.{Valid, empty, guard, seq, all}
use Rattle.wire.specs.Number.{v_int}
use Rattle.wire.specs.Field.{limited}
use Rattle.wire.specs.Same.{same_list}
use Rattle.wire.proofs.Laws.{Laws, seq-valid, guard-valid, seq_laws, guard_laws, type_laws, empty_laws}
use Rattle.wire.proofs.NumberLaws.{v_int_laws}
use Rattle.wire.proofs.FieldLaws.{limited_laws}
use Rattle.wire.proofs.SameLaws.{same_true}
use Rattle.decimal.specs.Decimal.{decimal}
use Rattle.decimal.proofs.DecimalLaws.{decimal_laws}
use Rattle.statistics.specs.Statistics.{titles, title_limit, named, statistic, values, statistics}

named_laws : (n : List ℕ) → Laws (named n)
unfolding named
named_laws n = guard_laws (same_list n) 8 (limited title_limit) (limited_laws title_limit)

-- the name that was read is the one
statistic-back : (n : List ℕ) (p : List ℕ × ℕ) → Valid (seq (named n) λ _. decimal) p → (n, p.1) ≡ p
unfolding named
statistic-back n p v =
    let x = same_true n p.0 (guard-valid (same_list n) 8 (limited title_limit) p.0 (seq-valid _ _ p v).0).0 in
    rw x

statistic_laws : (n : List ℕ) → Laws (statistic n)
unfolding statistic
statistic_laws n =
    type_laws all (λ p. p.1) (λ v. (n, v)) (seq (named n) λ _. decimal) (seq_laws _ _ (named_laws n) λ _. decimal_laws) (λ v e. refl)
    (λ p v. (statistic-back n p v, refl))

no_value_lem : (vs : List ℕ) → length vs ≡ 0 → [] ≡ vs
no_value_lem [] h = refl
no_value_lem (v ∷ vs) h = absurd (omega arith)

first-and-rest : (vs : List ℕ) → 0 < length vs → get_or vs 0 0 ∷ drop 1 vs ≡ vs
first-and-rest [] h = absurd (omega arith)
first-and-rest (v ∷ vs) h = refl

values_laws : (ns : List (List ℕ)) → Laws (values ns)
unfolding values
values_laws [] =
    type_laws (λ vs. eqb (length vs) 0) (λ u. []) (λ vs. tt) empty empty_laws (λ vs e. no_value_lem vs (eqb-true _ 0 e)) (λ u v. (refl, refl))
values_laws (n ∷ ns) =
    type_laws (λ vs. ltb 0 (length vs)) (λ p. p.0 ∷ p.1) (λ vs. (get_or vs 0 0, drop 1 vs)) (seq (statistic n) λ _. values ns)
    (seq_laws _ _ (statistic_laws n) λ _. values_laws ns) (λ vs e. first-and-rest vs (ltb-true 0 _ e)) (λ p v. (refl, lt-ltb 0 (length (p.0 ∷ p.1)) (omega arith)))

statistics-back : (p : ℕ × List ℕ) → Valid (seq (guard (λ n. eqb n 9) 8 v_int) λ _. values titles) p → (9, p.1) ≡ p
statistics-back p v = let x = eqb-true p.0 9 (guard-valid (λ n. eqb n 9) 8 v_int p.0 (seq-valid _ _ p v).0).0 in rw x

pub statistics_laws : Laws statistics
unfolding statistics
statistics_laws =
    type_laws all (λ p. p.1) (λ vs. (9, vs)) (seq (guard (λ n. eqb n 9) 8 v_int) λ _. values titles)
    (seq_laws _ _ (guard_laws (λ n. eqb n 9) 8 v_int v_int_laws) λ _. values_laws titles) (λ vs e. refl) (λ p v. (statistics-back p v, refl))
