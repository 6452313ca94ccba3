-- `board::serve::serve_file` meets its contract: between two turns the loop knows what a run from there on adds to.  Assumes nothing.
use mathlib.Core.Path.{refl}
use Rattle.wire.proofs.Laws.{never}
use Rattle.files.proofs.Ahead.{ahead_none, ahead-both}
use Rattle.board.proofs.FileLaws.{served-file, serve-begin}
use borrow.Author.Rules.{rules}
use Rattle.board.proofs.serve.serve_file.Goals as goal

pub loop-init : goal.loop-init
loop-init c =
    let e = c.start-s.ensures in
    (refl, search rules, search rules, rw e ahead_none, rw e (serve-begin _ _ _ (search rules) (search rules) c.requires))

pub turn-r-requires : goal.turn-r-requires
turn-r-requires c = c.loop.invariant.4

pub returns-in_default : goal.returns-in_default
returns-in_default c e =
    served-file c.loop.invariant.3 (rw (c.is_done.ensures e) at c.turn-r.ensures)

pub loop-preserved : goal.loop-preserved
loop-preserved c =
    let x = rw c.in-On.is at c.turn-r.ensures in
    (search rules, search rules, search rules, ahead-both c.loop.invariant.3 x.0, x.1)

pub returns : goal.returns
returns c e = never (cc)
