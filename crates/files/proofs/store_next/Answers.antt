-- `files::store_next` meets its contract: between two lines, those before the place are written. Assumes nothing.
use mathlib.Core.Path.{refl}
use mathlib.Core.Logic.{inl, inr}
use native.Mathlib.Omega.{arith}
use Rattle.stored.proofs.FileLaws.{few}
use Rattle.table.proofs.Lists.{refuted}
use Rattle.files.specs.Storing.{StoreReady}
use Rattle.files.proofs.StoreLaws.{laid-begin, laid_on, laid-some, laid-writes}
use borrow.Author.Rules.{rules}
use Rattle.files.proofs.store_next.Goals as goal

-- the table is sound, and there is room for a line

pub returns-then-out-lt-ROOM : goal.returns-then-out-lt-ROOM
returns-then-out-lt-ROOM c = record { why = inl (refl, c.if-out-lt-ROOM.true); list = refl }

pub returns-then-not-is_table : goal.returns-then-not-is_table
returns-then-not-is_table c = record { why = inr (refl, c.if-out-lt-ROOM.false, refuted c.is_table.ensures (c.if-not-is_table.true)); list = refl }

pub returns-then-count-line : goal.returns-then-count-line
returns-then-count-line c = record { ready = (let ready' : StoreReady c.args.table.now c.args.out.now = record { room = c.if-out-lt-ROOM.false; sound = c.is_table.ensures.0 (c.if-not-is_table.false) } in ready'); none = omega (arith, c.count-count.ensures); list = refl }

pub loop-i-init : goal.loop-i-init
loop-i-init c = laid-begin _ _ _ (omega (arith, c.count-count.ensures))

pub overflow_sub-out : goal.overflow_sub-out
overflow_sub-out c = let g = c.loop-i.invariant in omega (arith, g.fits, g.long)

pub overflow_add-i : goal.overflow_add-i
overflow_add-i c =
    omega (arith, c.count-count.ensures, few c.args.table.now)

pub loop-i-smaller : goal.loop-i-smaller
loop-i-smaller c = search rules

pub loop-i-preserved : goal.loop-i-preserved
loop-i-preserved c =
    laid_on _ _ c.loop-i.invariant ((let ready' : StoreReady c.args.table.now c.args.out.now = record { room = c.if-out-lt-ROOM.false; sound = c.is_table.ensures.0 (c.if-not-is_table.false) } in ready')).sound (omega (arith, c.count-count.ensures)) (omega (arith, c.if-out-at-ge-ROOM.true, c.loop-i.invariant.long)) c.store_line-at.ensures

pub shape_of-out-else-out-at-ge-ROOM : goal.shape_of-out-else-out-at-ge-ROOM
shape_of-out-else-out-at-ge-ROOM c = c.loop-i.invariant.long

pub returns-else-out-at-ge-ROOM : goal.returns-else-out-at-ge-ROOM
returns-else-out-at-ge-ROOM c =
    laid-writes c.loop-i.invariant ((let ready' : StoreReady c.args.table.now c.args.out.now = record { room = c.if-out-lt-ROOM.false; sound = c.is_table.ensures.0 (c.if-not-is_table.false) } in ready')) (laid-some c.loop-i.invariant (omega (arith, c.if-out-at-ge-ROOM.false, ((let ready' : StoreReady c.args.table.now c.args.out.now = record { room = c.if-out-lt-ROOM.false; sound = c.is_table.ensures.0 (c.if-not-is_table.false) } in ready')).room, c.loop-i.invariant.long)))

pub shape_of-out-after-loop-i : goal.shape_of-out-after-loop-i
shape_of-out-after-loop-i c = c.loop-i.invariant.long

pub returns-after-loop-i : goal.returns-after-loop-i
returns-after-loop-i c = laid-writes c.loop-i.invariant ((let ready' : StoreReady c.args.table.now c.args.out.now = record { room = c.if-out-lt-ROOM.false; sound = c.is_table.ensures.0 (c.if-not-is_table.false) } in ready')) (omega arith)
