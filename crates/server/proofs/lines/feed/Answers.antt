-- `server::lines::feed` meets its contract: between two turns the loop knows what `Going` says. Assumes nothing.
use native.Mathlib.Omega.{arith}
use Rattle.server.proofs.LineLaws.{puts-long}
use Rattle.server.proofs.TurnLaws.{going_begin, taken-within, going_on, going_full, going_done}
use Rattle.server.proofs.lines.feed.Goals as goal

pub loop-out-init : goal.loop-out-init
loop-out-init c = going_begin _ _ _ _ _ c.requires.sound

pub overflow_add-taken : goal.overflow_add-taken
overflow_add-taken c = omega (arith, taken-within _ _ _ _ _ c.loop-out.invariant c.turn-r.ensures, c.well_formed)

pub loop-out-smaller : goal.loop-out-smaller
loop-out-smaller c = omega (arith, taken-within _ _ _ _ _ c.loop-out.invariant c.turn-r.ensures, c.if-r-eq0.false)

pub loop-out-preserved : goal.loop-out-preserved
loop-out-preserved c =
    let g = c.loop-out.invariant in going_on _ _ _ _ _ g (omega (arith, c.loop-out-test.true, puts-long g.puts)) c.turn-r.ensures c.if-r-eq0.false

pub returns-after-loop-out : goal.returns-after-loop-out
returns-after-loop-out c = let g = c.loop-out.invariant in going_full _ _ _ _ _ g (omega (arith, c.loop-out-test.false, puts-long g.puts))

pub returns-then-r-eq0 : goal.returns-then-r-eq0
returns-then-r-eq0 c = going_done _ _ _ _ _ c.loop-out.invariant c.turn-r.ensures c.if-r-eq0.true
