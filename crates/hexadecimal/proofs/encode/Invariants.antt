-- `hexadecimal::encode` meets its contract: between two bytes the loop knows what `Pasted` says. Assumes nothing.
use Prim.Native.Nat.{◌*◌}
use Rattle.hexadecimal.specs.Hex.{to_hex}
use Rattle.hexadecimal.proofs.Paste.{Pasted}
use Rattle.hexadecimal.proofs.encode.Given as goal

abbrev pub invariant-loop-i : goal.invariant-loop-i
invariant-loop-i l = Pasted (to_hex l.s) l.initial.out l.at l.out (2 * l.i)
