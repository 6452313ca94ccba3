-- `statistics::put::put_statistics` meets its contract: it judges, then measures, and then writes. Assumes nothing.
use mathlib.Core.Path.{sym, ◌∙◌}
use native.Mathlib.Omega.{arith}
use Rattle.wire.proofs.WriteLaws.{put-broken, put-short, put-done}
use Rattle.statistics.specs.Statistics.{statistics, list_of}
use Rattle.statistics.proofs.Writing.{statistics-ok, first_more, rest-room, wrote-statistics}
use Rattle.statistics.proofs.put.put_statistics.Goals as goal

pub returns-then-not-can_send : goal.returns-then-not-can_send
returns-then-not-can_send c = put-broken statistics _ _ _ (sym c.if-not-can_send.ensures)

pub returns-then-out-at : goal.returns-then-out-at
returns-then-out-at c = put-short statistics _ _ _ (sym c.if-not-can_send.ensures) (omega (arith, first_more (list_of c.args.x)))

pub returns-then-out-at-2 : goal.returns-then-out-at-2
returns-then-out-at-2 c = put-short statistics _ _ _ (sym c.if-not-can_send.ensures) (omega (arith, c.statistics_len.ensures))

pub put_values-requires-clause-valid : goal.put_values-requires-clause-valid
put_values-requires-clause-valid c = rw c.into.ensures (sym (statistics-ok _) ∙ sym c.if-not-can_send.ensures)

pub put_values-requires-clause-room : goal.put_values-requires-clause-room
put_values-requires-clause-room c = rw c.into.ensures (rest-room _ _ _ (omega (arith, c.statistics_len.ensures, c.if-out-at-2.false)) c.put_byte-first.ensures)

pub returns : goal.returns
returns c =
    put-done statistics _ _ _ (sym c.if-not-can_send.ensures) (omega (arith, c.statistics_len.ensures, c.if-out-at-2.false)) _ _
    (wrote-statistics _ _ _ (omega (arith, c.statistics_len.ensures, c.if-out-at-2.false)) c.put_byte-first.ensures (rw c.into.ensures at c.put_values.ensures))
