-- `board::keep::turn` meets its contract. Assumes nothing.
use Rattle.files.specs.Loading.{done}
use native.Mathlib.Omega.{arith}
use Rattle.files.proofs.Ahead.{load-more}
use Rattle.files.proofs.WindowLaws.{lies_more, long-more}
use Rattle.board.proofs.keep.turn.Goals as goal

pub returns-in-Ok : goal.returns-in-Ok
returns-in-Ok c =
    let p = rw c.in-Ok.is at c.read_on.ensures in
    let x = rw c.in-Read.is at c.load_next.ensures in
    let l = x.loads.long in
    rw p.next (load-more x p.brings, record { lies = lies_more x.moves p.brings; long = omega (arith, l, long-more x.moves p.brings) })

pub returns-in-Done : goal.returns-in-Done
returns-in-Done c = done (rw c.in-Done.is at c.load_next.ensures)

pub returns-in-Broken : goal.returns-in-Broken
returns-in-Broken c = rw c.in-Broken.is at c.load_next.ensures

pub returns-in-Refused : goal.returns-in-Refused
returns-in-Refused c = absurd (omega (arith, (rw c.in-Refused.is at c.load_next.ensures).short, c.requires.long))

pub returns-in-Astray : goal.returns-in-Astray
returns-in-Astray c = absurd ((rw c.in-Astray.is at c.load_next.ensures).outside c.requires.lies)
