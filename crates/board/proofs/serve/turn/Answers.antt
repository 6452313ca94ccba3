-- `board::serve::turn` meets its contract. Assumes nothing.
use Rattle.files.specs.Serving.{done}
use Rattle.files.proofs.Ahead.{ahead-wrote, ahead-read}
use Rattle.files.proofs.Progress.{ready-wrote, ready_read, never-refused}
use Rattle.board.proofs.serve.turn.Goals as goal

pub returns-in_default : goal.returns-in_default
returns-in_default c =
    let x = rw c.in-Write.is at c.serve_next.ensures in
    (ahead-wrote x, ready-wrote x)

pub returns-in-Ok : goal.returns-in-Ok
returns-in-Ok c =
    let p = rw c.in-Ok.is at c.read_on.ensures in
    let x = rw c.in-Read.is at c.serve_next.ensures in
    rw p.next (ahead-read x p.brings, ready_read x p.brings)

pub returns-in-Done : goal.returns-in-Done
returns-in-Done c = done (rw c.in-Done.is at c.serve_next.ensures)

pub returns-in-Refused : goal.returns-in-Refused
returns-in-Refused c = never-refused c.requires (rw c.in-Refused.is at c.serve_next.ensures)

pub returns-in-Astray : goal.returns-in-Astray
returns-in-Astray c = (rw c.in-Astray.is at c.serve_next.ensures).outside c.requires.lies
