-- `board::keep::load_open` meets its contract: the table was loaded. Assumes nothing.
use Rattle.board.proofs.keep.load_open.Goals as goal

pub returns : goal.returns
returns c e =
    (rw (c.is_loaded.ensures e) at c.build-r.ensures).sound
