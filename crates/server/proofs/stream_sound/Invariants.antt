-- `server::stream_sound` meets its contract: between two calls the loop knows what `Between` says. The measure is what is left of the input. Assumes nothing.
use Prim.Native.Nat.{◌-◌}
use lib.ListN.{length}
use Rattle.map.specs.Step.{context_of}
use Rattle.server.proofs.StreamLaws.{Between}
use Rattle.server.proofs.stream_sound.Given as goal

abbrev pub invariant-loop-reply : goal.invariant-loop-reply
invariant-loop-reply l = Between (context_of l.second) l.used l.input l.initial.table l.initial.reply l.taken l.size l.calls l.table l.reply

abbrev pub decreases-loop-reply : goal.decreases-loop-reply
decreases-loop-reply l = length l.input - l.taken
