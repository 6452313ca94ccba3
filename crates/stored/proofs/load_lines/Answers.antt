-- `stored::load_lines` meets its contract. Assumes nothing.
use mathlib.Core.Path.{refl, sym, ◌∙◌}
use native.Mathlib.Omega.{arith}
use borrow.Author.Tests.{not-true, not-false}
use Rattle.stored.specs.StoreLoad.{no_line}
use Rattle.stored.proofs.WholeLaws.{found_within, none_left, bad-next, good-next}
use Rattle.stored.proofs.load_lines.Goals as goal

pub loop-p-init : goal.loop-p-init
loop-p-init c = (refl, omega arith, no_line)

pub returns-then-end-chunk : goal.returns-then-end-chunk
returns-then-end-chunk c =
    let g = c.loop-p.invariant in
    record { within = g.1; loads = g.2; ends = rw g.0 (none_left _ _ _ c.find-end.ensures g.1 c.if-end-chunk.true) }

pub slice_bounds-load_next-end : goal.slice_bounds-load_next-end
slice_bounds-load_next-end c = found_within _ _ _ c.find-end.ensures c.loop-p.invariant.1

pub returns-then-not-p : goal.returns-then-not-p
returns-then-not-p c =
    let g = c.loop-p.invariant in
    let n = found_within _ _ _ c.find-end.ensures g.1 in
    let e = not-true _ c.if-not-p.true in
    let x = bad-next _ _ _ c.find-end.ensures (omega arith) g.2 (sym c.load_next.ensures.0 ∙ e) c.load_next.ensures.1 in
    record { within = g.1; loads = x.0; ends = rw e x.1 }

pub loop-p-preserved : goal.loop-p-preserved
loop-p-preserved c =
    let g = c.loop-p.invariant in
    let n = found_within _ _ _ c.find-end.ensures g.1 in
    let e = not-false _ c.if-not-p.false in
    (e, omega arith, good-next _ _ _ c.find-end.ensures (omega arith) g.2 (sym c.load_next.ensures.0 ∙ e) c.load_next.ensures.1)
