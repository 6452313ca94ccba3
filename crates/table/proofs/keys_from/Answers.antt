-- `table::keys_from` meets its contract. Assumes nothing.
use Rattle.table.proofs.KeyWalk.{none_named}
use Rattle.table.proofs.keys_from.Goals as goal

pub returns-in_default : goal.returns-in_default
returns-in_default c = none_named _ _ _ c.in_default.ensures
