-- `server::lines::feed` meets its contract: between two turns the loop knows what `Going` says. The measure is what is left of the input.
-- Assumes nothing.
use Prim.Native.Nat.{◌-◌}
use lib.ListN.{length}
use Rattle.server.proofs.TurnLaws.{Going}
use Rattle.server.proofs.lines.feed.Given as goal

abbrev pub invariant-loop-out : goal.invariant-loop-out
invariant-loop-out l = Going l.last l.fn.passing l.input l.initial.t l.initial.out l.t l.out l.taken l.size l.passing

abbrev pub decreases-loop-out : goal.decreases-loop-out
decreases-loop-out l = length l.input - l.taken
