-- `server::serve_stream` meets its contract. Assumes nothing.
use Rattle.table.proofs.Lists.{refuted}
use Rattle.server.proofs.StreamLaws.{short, unsound}
use Rattle.server.proofs.serve_stream.Goals as goal

pub returns-then-reply-lt-ROOM : goal.returns-then-reply-lt-ROOM
returns-then-reply-lt-ROOM c = rw c.all_calls.ensures (short _ _ _ _ c.if-reply-lt-ROOM.true)

pub returns-then-not-is_table : goal.returns-then-not-is_table
returns-then-not-is_table c =
    rw c.all_calls-then-not-is_table.ensures (unsound _ _ _ _ c.if-reply-lt-ROOM.false (refuted c.is_table.ensures c.if-not-is_table.true))
