-- `server::lines::send_reply` meets its contract. Assumes nothing.
use native.Mathlib.Omega.{arith}
use Rattle.service.proofs.Calls.{room_most}
use Rattle.server.proofs.LineLaws.{shows, gives, lent-room, line_replied}
use Rattle.server.proofs.lines.send_reply.Goals as goal

pub perform-a-requires-clause-room_in_bounds : goal.perform-a-requires-clause-room_in_bounds
perform-a-requires-clause-room_in_bounds c =
    omega (arith, lent-room c.args.out.now c.args.at c.requires.line_room_in_bounds, room_most c.args.r.head.op)

pub returns : goal.returns
returns c =
    let x = shows _ _ _ c.requires.sound c.requires.valid c.args.context.admissible _ c.perform-a.ensures in
    gives x (line_replied c.args.out.now c.args.at c.requires.line_room_in_bounds x.sent c.make_line.ensures)
