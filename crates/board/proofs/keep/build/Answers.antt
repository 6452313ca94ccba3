-- `board::keep::build` meets its contract: between two turns the loop knows what a run from there on adds to.  Assumes nothing.
use mathlib.Core.Path.{refl}
use Rattle.files.proofs.Ahead.{load-none, load-both}
use Rattle.board.proofs.FileLaws.{built, load-begin}
use borrow.Author.Rules.{rules}
use borrow.Enum.Refused.{opened}
use Rattle.board.proofs.keep.build.Goals as goal

pub loop-init : goal.loop-init
loop-init c = let e = c.start-s.ensures in (refl, search rules, rw e load-none, rw e (load-begin _ (search rules)))

pub turn-r-requires : goal.turn-r-requires
turn-r-requires c = c.loop.invariant.3

pub returns-in_default : goal.returns-in_default
returns-in_default c =
    built c.turn-r.new.input c.turn-r.new.t c.turn-r.result (opened c.in_default.in_default-own.keys2) c.loop.invariant.2 c.turn-r.ensures

pub loop-preserved : goal.loop-preserved
loop-preserved c =
    let x = rw c.in-On.is at c.turn-r.ensures in
    (search rules, search rules, load-both c.loop.invariant.2 x.0, x.1)
