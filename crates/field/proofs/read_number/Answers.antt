-- `field::read_number` meets its contract: between two bytes the loop knows what `Going` says, for either kind. Assumes nothing.
use Prim.Native.Nat.{◌≤◌}
use native.Mathlib.Omega.{arith}
use lib.Dec.{lit≤}
use Rattle.wire.specs.Number.{limit}
use Rattle.wire.proofs.NumberRead.{start, step, factor, fits_last, fits-short, at-end, at_low, at_last, at-over, at-short}
use Rattle.field.specs.FieldRead.{top_of, most_of}
use Rattle.field.specs.declared.Kind.{Kind}
use Rattle.field.specs.declared.Kind.TheVariants.{VInt, VLong}
use Rattle.field.proofs.read_number.Goals as goal

bounded : (k : Kind) → limit (top_of k) (most_of k) ≤ 0x8000_0000_0000_0000
bounded VInt = lit≤ tt
bounded VLong = lit≤ tt

pub loop-i-init : goal.loop-i-init
loop-i-init c = rw c.most-left.ensures (start _ _ _ _ _)

pub returns-then-b-low : goal.returns-then-b-low
returns-then-b-low c =
    rw (c.refusal.ensures, c.loop-i.invariant.rest, at_low _ _ _ _ _ _ c.loop-i-test.true (omega (arith, c.loop-i.invariant.lows)) c.if-b-low.true)

pub overflow_add-result : goal.overflow_add-result
overflow_add-result c =
    omega (arith, bounded c.args.k, fits_last _ _ _ _ _ _ _ _ _ _ c.loop-i.invariant _ c.if-left-eq0.true (rw c.top-last.ensures at c.if-b-last.true))

pub overflow_mul-result : goal.overflow_mul-result
overflow_mul-result c = omega (arith, overflow_add-result c)

pub returns-then-b-last : goal.returns-then-b-last
returns-then-b-last c = rw (
  c.loop-i.invariant.rest,
  at_last _ _ _ _ _ _ c.loop-i-test.true c.if-b-low.false c.if-left-eq0.true (rw c.top-last.ensures at c.if-b-last.true),
)

pub returns-then-left-eq0 : goal.returns-then-left-eq0
returns-then-left-eq0 c = rw (
  c.refusal-then-left-eq0.ensures,
  c.loop-i.invariant.rest,
  at-over _ _ _ _ _ _ c.loop-i-test.true c.if-b-low.false c.if-left-eq0.true (rw c.top-last.ensures at c.if-b-last.false),
)

pub overflow_add-result-then-b-lt128 : goal.overflow_add-result-then-b-lt128
overflow_add-result-then-b-lt128 c =
    omega (arith, bounded c.args.k, fits-short _ _ _ _ _ _ _ _ _ _ c.loop-i.invariant _ c.if-left-eq0.false c.if-b-lt128.true)

pub overflow_mul-result-then-b-lt128 : goal.overflow_mul-result-then-b-lt128
overflow_mul-result-then-b-lt128 c = omega (arith, overflow_add-result-then-b-lt128 c)

pub returns-then-b-lt128 : goal.returns-then-b-lt128
returns-then-b-lt128 c =
    rw (c.loop-i.invariant.rest, at-short _ _ _ _ _ _ c.loop-i-test.true c.if-b-low.false c.if-left-eq0.false c.if-b-lt128.true)

pub loop-i-preserved : goal.loop-i-preserved
loop-i-preserved c =
    step _ _ _ _ _ _ _ _ _ _ c.loop-i.invariant c.loop-i-test.true c.if-left-eq0.false c.if-b-lt128.false (omega (arith, c.type_inv.s c.loop-i.i))

pub overflow_mul-p : goal.overflow_mul-p
overflow_mul-p c = omega (arith, bounded c.args.k, factor _ _ _ _ _ _ _ _ _ _ (loop-i-preserved c))

pub overflow_add-acc : goal.overflow_add-acc
overflow_add-acc c = omega (arith, (loop-i-preserved c).small, overflow_mul-p c)

pub overflow_mul-acc : goal.overflow_mul-acc
overflow_mul-acc c = omega (arith, overflow_add-acc c)

pub returns : goal.returns
returns c = rw (c.loop-i.invariant.rest, at-end _ _ c.args.s.now _ _ c.loop-i.i (omega arith))
