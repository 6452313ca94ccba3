-- `server::many::are_ends` meets its contract: the ends behind those passed decide as the whole. Assumes nothing.
use mathlib.Core.Path.{◌≡◌}
use lib.ListN.{drop}
use Rattle.service.specs.Shares.{are_ends}
use Rattle.server.proofs.many.are_ends.Given as goal

abbrev pub invariant-loop-end : goal.invariant-loop-end
invariant-loop-end l = are_ends 0 l.ends l.n ≡ are_ends l.start (drop l.end-index l.ends) l.n
