-- `server::serve_lines` meets its contract. Assumes nothing.
use Rattle.server.proofs.LineLaws.{if-short, unserved}
use Rattle.server.proofs.serve_lines.Goals as goal

pub returns-then-out-lt-ROOM : goal.returns-then-out-lt-ROOM
returns-then-out-lt-ROOM c = if-short _ _ _ _ c.if-out-lt-ROOM.true (unserved _ _ _)
