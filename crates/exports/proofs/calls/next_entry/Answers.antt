-- `exports::calls::next_entry` meets its contract, by each answer of the reader. Assumes nothing.
use native.Mathlib.Omega.{arith}
use Rattle.exports.specs.Codes.{told}
use Rattle.exports.proofs.CodeLaws.{entry-from, entry-behind, entry-fits}
use Rattle.exports.proofs.calls.next_entry.Goals as goal

pub overflow_sub-n : goal.overflow_sub-n
overflow_sub-n c = omega (arith, entry-behind _ _ _ _ _ (rw (c.in-Ok-Some.is, c.in-Ok-Some.field-0-is) at c.next_entry.ensures))

pub overflow_add-result : goal.overflow_add-result
overflow_add-result c = record { fits = entry-fits _ _ _ _ _ (rw (c.in-Ok-Some.is, c.in-Ok-Some.field-0-is) at c.next_entry.ensures) (omega (arith, c.well_formed.0.1)) }

pub returns-in-Ok-Some : goal.returns-in-Ok-Some
unfolding told
returns-in-Ok-Some c = rw (← (entry-from _ _ _ _ c.next_entry.ensures), c.in-Ok-Some.is, c.in-Ok-Some.field-0-is, c.entry.ensures)

pub returns-in-Ok-None : goal.returns-in-Ok-None
unfolding told
returns-in-Ok-None c = rw (← (entry-from _ _ _ _ c.next_entry.ensures), c.in-Ok-None.is, c.in-Ok-None.field-0-is)

pub returns-in-Err : goal.returns-in-Err
unfolding told
returns-in-Err c = rw (← (entry-from _ _ _ _ c.next_entry.ensures), c.in-Err.is, c.from.ensures)
