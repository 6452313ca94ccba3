-- `board::keep::build` meets its contract: between two turns the loop knows what a run from there on adds to.  Assumes nothing.
use mathlib.Core.Path.{◌≡◌}
use lib.ListN.{length}
use Rattle.files.specs.Window.{begin}
use Rattle.files.specs.Loading.{LoadAhead}
use Rattle.board.specs.Turn.{LoadReady}
use Rattle.board.proofs.keep.build.Given as goal

abbrev pub invariant-loop : goal.invariant-loop
invariant-loop l = (length l.t ≡ length l.initial.t) × (length l.input ≡ 65536) × LoadAhead l.initial.input l.initial.t begin l.input l.t l.s × LoadReady l.input l.s
