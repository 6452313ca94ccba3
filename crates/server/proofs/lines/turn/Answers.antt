-- `server::lines::turn` meets its contract: each case of a turn. Assumes nothing.
use mathlib.Core.Path.{sym, ◌∙◌}
use native.Mathlib.Omega.{arith}
use lib.Seq.{length-take-le}
use Rattle.service.proofs.Chunks.{end-within}
use Rattle.server.proofs.TurnLaws.{turn-passed, turn-passing, turn-line, turn-rest, turn_more, quiet, spoke}
use Rattle.server.proofs.lines.turn.Goals as goal

pub returns-then-end-s : goal.returns-then-end-s
returns-then-end-s c = quiet (turn-passed _ _ _ c.line_end-end.ensures c.if-passing.true c.if-end-s.true) (omega arith) c.counts.ensures

pub returns-then-passing : goal.returns-then-passing
returns-then-passing c =
    quiet (turn-passing _ _ _ c.line_end-end.ensures c.if-passing.true c.if-end-s.false) (omega arith) c.counts-then-passing.ensures

pub returns-then-not-is_due : goal.returns-then-not-is_due
returns-then-not-is_due c =
    quiet (turn_more _ _ _ c.line_end-end.ensures c.if-passing.false (sym c.is_due.ensures ∙ c.if-not-is_due.true)) (omega arith) c.counts-then-not-is_due.ensures

pub slice_bounds-line_sound-end : goal.slice_bounds-line_sound-end
slice_bounds-line_sound-end c = sym (length-take-le _ _ (omega (arith, c.line_end-end.ensures, end-within c.args.s.now)))

pub returns-then-end-s-2 : goal.returns-then-end-s-2
returns-then-end-s-2 c =
    spoke (turn-line _ _ _ c.line_end-end.ensures c.if-passing.false c.if-end-s-2.true) c.line_sound-n.ensures c.counts-then-end-s-2.ensures

pub returns : goal.returns
returns c =
    spoke (turn-rest _ _ _ c.line_end-end.ensures c.if-passing.false (sym c.is_due.ensures ∙ c.if-not-is_due.false) c.if-end-s-2.false)
    c.line_sound-n.ensures c.counts-2.ensures
