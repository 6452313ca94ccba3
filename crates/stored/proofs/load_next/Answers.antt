-- `stored::load_next` meets its contract. Assumes nothing.
use mathlib.Core.Path.{refl}
use native.Mathlib.Omega.{arith}
use Rattle.stored.specs.File.{form1, entry_line, head_line}
use Rattle.stored.specs.StoreLoad.{head_loaded, line_loaded}
use Rattle.stored.proofs.LoadLaws.{digits_read, loaded-none}
use Rattle.stored.proofs.load_next.Goals as goal

pub returns-in_default : goal.returns-in_default
returns-in_default c =
    let s = c.args in
    rw (loaded-none s.begun s.line.now s.t.now _ _ _ (omega arith) c.in_default.ensures) (refl, refl)

pub slice_bounds-restore-end : goal.slice_bounds-restore-end
slice_bounds-restore-end c = omega (arith, (digits_read (entry_line form1) _ _ _ _ c.in-Ok.ensures).within)

pub slice_bounds-start-end : goal.slice_bounds-start-end
slice_bounds-start-end c = omega (arith, (digits_read (head_line form1) _ _ _ _ c.in-Ok.ensures).within)

pub returns-then-begun : goal.returns-then-begun
unfolding line_loaded
returns-then-begun c = rw (c.if-begun.true, (digits_read (entry_line form1) _ _ _ _ c.in-Ok.ensures).read) c.restore.ensures

pub returns : goal.returns
unfolding head_loaded
returns c = rw (c.if-begun.false, (digits_read (head_line form1) _ _ _ _ c.in-Ok.ensures).read) c.start.ensures
