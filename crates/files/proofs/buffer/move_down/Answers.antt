-- `files::buffer::move_down` meets its contract. Assumes nothing.
use mathlib.Core.Path.{◌∙◌}
use Prim.Native.Nat.{◌-◌}
use native.Mathlib.Omega.{arith}
use Rattle.table.proofs.Shifts.{moved}
use Rattle.files.proofs.buffer.move_down.Goals as goal

pub returns-clause-buf_after : goal.returns-clause-buf_after
returns-clause-buf_after c = c.copy_within.ensures.after ∙ moved c.args.buf.now c.args.from (c.args.held - c.args.from) 0 (omega (arith, c.requires.from_le_held, c.requires.held_in_bounds)) (omega (arith, c.requires.from_le_held, c.requires.held_in_bounds))
