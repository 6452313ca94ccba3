-- `table::fits::follows` meets its contract. Assumes nothing.
-- the test that was passed
use mathlib.Core.Path.{sym, ◌∙◌}
use Rattle.std.proofs.Common.{rules}
use Rattle.table.proofs.Restores.{next-full, next-old, next-late, next_found}
use Rattle.table.proofs.fits.follows.Goals as goal

pub returns-then-not-has_room : goal.returns-then-not-has_room
returns-then-not-has_room c = next-full _ _ _ (sym c.has_room.ensures ∙ c.if-not-has_room.true)

pub returns-then-le : goal.returns-then-le
returns-then-le c = next-old _ _ _ (search rules)

pub returns-then-gt : goal.returns-then-gt
returns-then-gt c = next-late _ _ _ (search rules)

pub returns : goal.returns
returns c = next_found _ _ _ (sym c.has_room.ensures ∙ c.if-not-has_room.false) (search rules) (search rules) _ _ c.find.ensures c.is_none.ensures
