-- `soundness::parts::is_permutation` meets its contract. The loop's invariant: the rows marked are those that the places passed name. Assumes nothing.
use native.Mathlib.Omega.{arith}
use Rattle.table.specs.Memory.{place_of}
use Rattle.table.proofs.Lists.{says_yes, says_no}
use Rattle.soundness.proofs.Seen.{seen_none, seen_twice, seen_all, seen_more}
use Rattle.soundness.proofs.parts.is_permutation.Goals as goal

pub loop-i-init : goal.loop-i-init
loop-i-init c = (omega arith, seen_none c.args.t.now)

pub returns-then-row-ge-KEYS : goal.returns-then-row-ge-KEYS
unfolding place_of
returns-then-row-ge-KEYS c = let l = c in
    says_no (λ p. omega (arith, p.below l.loop-i.i (omega arith)))

pub returns-then-seen-row : goal.returns-then-seen-row
unfolding place_of
returns-then-seen-row c = let l = c in
    says_no (seen_twice l.loop-i.invariant.1 (omega arith) c.if-seen-row.true)

pub loop-i-preserved : goal.loop-i-preserved
unfolding place_of
loop-i-preserved c = let l = c in
    (omega arith, seen_more l.loop-i.invariant.1 c.if-seen-row.false (omega arith))

pub returns : goal.returns
returns c = says_yes (seen_all c.loop-i.invariant.1 (omega arith))
