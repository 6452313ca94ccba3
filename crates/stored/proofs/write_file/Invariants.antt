-- `stored::write_file`: its loop has written the first i lines. Assumes nothing.
use Rattle.stored.specs.File.{form1}
use Rattle.stored.proofs.FileLaws.{Lines}
use Rattle.stored.proofs.write_file.Given as goal

abbrev pub invariant-loop-i : goal.invariant-loop-i
invariant-loop-i l = Lines form1 l.t l.initial.out l.i l.at l.out
