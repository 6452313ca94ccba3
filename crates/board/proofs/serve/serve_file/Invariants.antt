-- `board::serve::serve_file` meets its contract: between two turns the loop knows what a run from there on adds to.  Assumes nothing.
use mathlib.Core.Path.{◌≡◌}
use lib.ListN.{length}
use Rattle.files.specs.Window.{begin}
use Rattle.files.specs.Serving.{Ready, Ahead}
use Rattle.board.proofs.serve.serve_file.Given as goal

abbrev pub invariant-loop : goal.invariant-loop
invariant-loop l = (length l.t ≡ length l.initial.t) × (length l.input ≡ 65536) × (length l.out ≡ 131072) × Ahead l.initial.input l.initial.t begin l.input l.t l.s × Ready l.input l.t l.out l.s
