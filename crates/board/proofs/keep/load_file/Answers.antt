-- `board::keep::load_file` meets its contract: the table was loaded, or made. Assumes nothing.
use Rattle.wire.proofs.Laws.{never}
use Rattle.table.proofs.HasImage.{made-sound}
use Rattle.board.proofs.keep.load_file.Goals as goal

pub returns-in-Ok : goal.returns-in-Ok
returns-in-Ok c e = c.load_open.ensures e

pub returns-then-eq : goal.returns-then-eq
returns-then-eq c e =
    made-sound c.args.t.now c.make.new.t c.requires c.make.ensures.1

pub returns-else-eq : goal.returns-else-eq
returns-else-eq c e = never (cc)
