-- `hexadecimal::decode` meets its contract: between two bytes the loop knows what `Pasted` says. Assumes nothing.
use Rattle.hexadecimal.proofs.Pairs.{pairs}
use Rattle.hexadecimal.proofs.Paste.{Pasted}
use Rattle.hexadecimal.proofs.decode.Given as goal

abbrev pub invariant-loop-i : goal.invariant-loop-i
invariant-loop-i l = Pasted (pairs l.s) l.initial.b-items 0 l.b-items l.i
