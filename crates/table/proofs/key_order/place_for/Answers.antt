-- `table::key_order::place_for` meets its contract. The loop's invariant: the search goes on in the part that is left. Assumes nothing.
use mathlib.Core.Path.{◌≡◌, sym, ap, ◌∙◌}
use Prim.Native.Nat.{ℕ}
use native.Mathlib.Omega.{arith}
use Rattle.table.specs.Memory.{count_of}
use Rattle.wire.specs.Before.{before}
use Rattle.table.specs.Order.{name_at, halved, insertion_place}
use Rattle.table.proofs.Bisect.{halved_none, halved-up, halved-down}
use Rattle.table.proofs.key_order.place_for.Goals as goal

pub loop-many-init : goal.loop-many-init
unfolding insertion_place
loop-many-init c = let s = c in
    (ap (halved (λ p. before (name_at s.args.t.now p) s.args.k.now) (count_of s.args.t.now) 0) (sym c.count-many.ensures.0), omega (arith, c.count-many.ensures.0), omega (arith, c.count-many.ensures.0, c.count-many.ensures.1))

pub loop-many-preserved-then-goes_before : goal.loop-many-preserved-then-goes_before
loop-many-preserved-then-goes_before c =
    let l = c.before.before.before in
    let s = l in
    let many = l.loop-many.many in (
      l.loop-many.invariant.0
          ∙ halved-up (λ p. before (name_at s.args.t.now p) s.args.k.now) l.loop-many.low many (omega arith) (count_of s.args.t.now) (omega arith) (sym c.goes_before.ensures ∙ c.if-goes_before.true),
      omega arith,
      l.loop-many.invariant.2,
    )

pub loop-many-preserved : goal.loop-many-preserved
loop-many-preserved c =
    let l = c.before.before.before in
    let s = l in
    let many = l.loop-many.many in (
      l.loop-many.invariant.0
          ∙ halved-down (λ p. before (name_at s.args.t.now p) s.args.k.now) l.loop-many.low many (omega arith) (count_of s.args.t.now) (omega arith) (sym c.goes_before.ensures ∙ c.if-goes_before.false),
      omega arith,
      l.loop-many.invariant.2,
    )

pub returns : goal.returns
returns c =
    let l = c.before in
    let s = l in
    let z : l.loop-many.many ≡ 0 = omega arith in
    let f : ℕ → _ = λ p. before (name_at s.args.t.now p) s.args.k.now in
    sym (l.loop-many.invariant.0 ∙ ap (halved f (count_of s.args.t.now) l.loop-many.low) z ∙ halved_none f (count_of s.args.t.now) l.loop-many.low)
