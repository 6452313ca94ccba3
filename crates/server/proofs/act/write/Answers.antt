-- `server::act::write` meets its contract: each operation's reply is the one that the map gives. Assumes nothing.
use mathlib.Core.Bool.{true, false}
use Rattle.message.proofs.RequestParts.{parts}
use Rattle.server.specs.CallDone.{as_context}
use Rattle.server.proofs.SendLaws.{plain-op, stats-sent, bulk-sent, bulk-room}
use Rattle.server.proofs.act.write.Goals as goal

pub returns-in-Stats : goal.returns-in-Stats
returns-in-Stats c name key value l g =
    stats-sent (as_context c.args.context) g _ c.in-Stats.is c.statistics-x.ensures (rw (c.asked_by.ensures name key value) at c.write_statistics.ensures)

pub returns-in-BulkGet : goal.returns-in-BulkGet
returns-in-BulkGet c name key value l g =
    bulk-sent (as_context c.args.context) g true {n = c.args.h.bulk} _ c.in-BulkGet.is (rw c.in-BulkGet.is) (c.asked_by-in-BulkGet.ensures name key value)
    (c.write_bulk.ensures g.sound (parts _ g.valid).id (bulk-room true c.args.h.op c.in-BulkGet.is l))

pub returns-in-BulkGetKeys : goal.returns-in-BulkGetKeys
returns-in-BulkGetKeys c name key value l g =
    bulk-sent (as_context c.args.context) g false {n = 0} _ c.in-BulkGetKeys.is (rw c.in-BulkGetKeys.is) (c.asked_by-in-BulkGetKeys.ensures name key value)
    (c.write_bulk-in-BulkGetKeys.ensures g.sound (parts _ g.valid).id (bulk-room false c.args.h.op c.in-BulkGetKeys.is l))

pub returns-in_default : goal.returns-in_default
returns-in_default c name key value l g = c.write_held.ensures (as_context c.args.context) name key value (plain-op _ c.in_default.not-Stats c.in_default.not-BulkGet c.in_default.not-BulkGetKeys) g
