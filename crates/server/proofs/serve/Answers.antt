-- `server::serve` meets its contract. Assumes nothing.
use Rattle.server.proofs.StepLaws.{serves-short, serves-unsound}
use Rattle.table.proofs.Lists.{refuted}
use Rattle.server.proofs.serve.Goals as goal

pub returns-then-reply-lt-ROOM : goal.returns-then-reply-lt-ROOM
returns-then-reply-lt-ROOM c = serves-short _ _ _ _ c.if-reply-lt-ROOM.true c.unsent.ensures

pub returns-then-not-is_table : goal.returns-then-not-is_table
returns-then-not-is_table c =
    serves-unsound _ _ _ _ c.if-reply-lt-ROOM.false (refuted c.is_table.ensures c.if-not-is_table.true) c.unsent-then-not-is_table.ensures
