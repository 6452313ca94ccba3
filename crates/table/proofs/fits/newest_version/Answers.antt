-- `table::fits::newest_version` meets its contract. Assumes nothing.
use mathlib.Core.Path.{◌∙◌}
use native.Mathlib.Omega.{arith}
use Rattle.table.proofs.Restores.{newest-none, newest-last}
use Rattle.table.proofs.fits.newest_version.Goals as goal

pub returns-then-n-eq0 : goal.returns-then-n-eq0
returns-then-n-eq0 c = newest-none c.args.t.now (omega arith)

pub returns : goal.returns
returns c = c.version_at.ensures ∙ newest-last c.args.t.now c.count-n.result c.count-n.ensures
