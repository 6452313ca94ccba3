-- `server::many::serve_parts` meets its contract: between two connections the loop knows what `Among` says. Assumes nothing.
use Rattle.map.specs.Step.{context_of}
use Rattle.server.proofs.PartLaws.{Among}
use Rattle.server.proofs.many.serve_parts.Given as goal

abbrev pub invariant-loop-i : goal.invariant-loop-i
invariant-loop-i l =
    Among (context_of l.second) l.input l.ends l.initial.table l.initial.reply l.initial.answer l.i l.start l.size l.table l.reply l.answer
