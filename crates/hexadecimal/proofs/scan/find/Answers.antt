-- `hexadecimal::scan::find` meets its contract: the bytes passed are none of them b. Assumes nothing.
use Rattle.std.proofs.Common.{◌≡◌, ℕ, ◌+◌, ◌-◌, List, [], ◌∷◌, length, take, drop, length-drop, refl, rules, tests, arith}
use lib.Seq.{take_all}
use borrow.Author.Tests.{eq-eqb, ne_eqb}
use Rattle.std.proofs.lemmas.List.{at_drop_all}
use Rattle.std.proofs.lemmas.Iterator.{YieldsList-from_slice, IsFirst-from_position, index_from_first}
use Rattle.hexadecimal.specs.Scan.{index_of, index_after}
use Rattle.hexadecimal.proofs.scan.find.Goals as goal

none : (b : ℕ) → index_of b [] ≡ 0
unfolding index_of
none b = refl

hit : (b x : ℕ) (xs : List ℕ) → x ≡ b → index_of b (x ∷ xs) ≡ 0
unfolding index_of index_after
hit b x xs e = rw (eq-eqb x b e)

miss : (b x : ℕ) (xs : List ℕ) → (x ≡ b → ⊥) → index_of b (x ∷ xs) ≡ index_of b xs + 1
unfolding index_of index_after
miss b x xs e = rw (ne_eqb x b e) (omega arith)

from_rest : (b from n : ℕ) (s rest : List ℕ) → rest ≡ take (length s - from) (drop from s) → index_of b rest ≡ n → from + n ≡ from + index_of b (drop from s)
from_rest b from n s rest r e = rw (← e, r, take_all (length s - from) (drop from s) (simp length-drop (omega arith)))

pub returns-in_default : goal.returns-in_default
returns-in_default c =
    let h = c.in_default.ensures.lookup.0 in
    omega (arith, none c.args.b, at_drop_all (index_of c.args.b) c.args.s.now c.args.from (omega arith))

pub returns : goal.returns
returns c =
    let p = IsFirst-from_position _ _ _ (λ x. x ≡ c.args.b) (λ x. x ≡ c.args.b → ⊥) c.position.ensures.ran (YieldsList-from_slice c.in-Some.rest.now cc) (λ x q k. search (rules, tests)) (λ x q k. search (rules, tests)) in
    let e = index_from_first (index_of c.args.b) (λ x. x ≡ c.args.b) (λ x. x ≡ c.args.b → ⊥) (none c.args.b) (hit c.args.b) (miss c.args.b) c.in-Some.rest.now c.position.result p in
    rw c.unwrap_or.ensures (from_rest c.args.b c.args.from _ c.args.s.now c.in-Some.rest.now c.in-Some.ensures.lookup.0.2 e)
