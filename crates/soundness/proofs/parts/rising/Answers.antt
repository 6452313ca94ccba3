-- `soundness::parts::rising` meets its contract. The loop's invariant: the versions passed rise, and `low` is the least number that they are at most. Assumes nothing.
use mathlib.Core.Path.{◌≡◌, subst}
use Prim.Native.Nat.{ℕ, ◌-◌}
use native.Mathlib.Omega.{arith}
use borrow.Author.Tests.{leb-true, le-leb}
use Rattle.table.specs.Memory.{state_of}
use Rattle.table.specs.Found.{row_number}
use Rattle.table.proofs.Lists.{says_no}
use Rattle.soundness.specs.Check.{entry_count, Rising}
use Rattle.soundness.proofs.SoundLaws.{rising_more, climbs}
use Rattle.soundness.proofs.parts.rising.Goals as goal

pub loop-i-init : goal.loop-i-init
loop-i-init c = (omega arith, record { first = λ j l. absurd (omega arith); rise = λ j l. absurd (omega arith); most = λ j l. absurd (omega arith) }, λ x h. omega arith)

pub returns-then-v-low : goal.returns-then-v-low
returns-then-v-low c = let l = c in
    let t = l.args.t.now in
    let n : l.count-i-end.result ≡ entry_count t = l.count-i-end.ensures in
    let i = l.loop-i.i in
    let v : c.number_at-v.result ≡ row_number t i 0 = c.number_at-v.ensures in
    says_no (λ p. omega (arith, p.first i (omega arith), l.loop-i.invariant.2 (row_number t i 0 - 1) (λ j h. omega (arith, climbs t _ _ p j i h (omega arith)))))

pub loop-i-preserved : goal.loop-i-preserved
loop-i-preserved c = let l = c in
    let t = l.args.t.now in
    let i = l.loop-i.i in
    let v : c.number_at-v.result ≡ row_number t i 0 = c.number_at-v.ensures in
    (omega arith, rising_more t i _ _ l.loop-i.invariant.1 v (omega arith), λ x h. omega (arith, h i (omega arith)))

pub returns : goal.returns
returns c =
    let t = c.args.t.now in
    let n : c.loop-i.i ≡ entry_count t = omega (arith, c.count-i-end.ensures) in
    let r : Rising t (entry_count t) c.loop-i.low = subst (λ (k : ℕ). Rising t k c.loop-i.low) n c.loop-i.invariant.1 in (
      λ e. record { first = r.first; rise = r.rise; most = λ i h. omega (arith, r.most i h, leb-true c.loop-i.low c.last.result.0 e) },
      λ p. le-leb c.loop-i.low c.last.result.0 (omega (arith, c.loop-i.invariant.2 (state_of t).last (λ j h. p.most j (omega arith)))),
    )
