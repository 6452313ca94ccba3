-- `board::file::read_on` meets its contract. Assumes nothing.
use mathlib.Core.Path.{◌∙◌}
use native.Mathlib.Omega.{arith}
use lib.ListN.{drop, length-drop}
use lib.Seq.{length-take-le}
use Rattle.std.proofs.Common.{◌≡◌, ◌-◌, ℕ, length}
use Rattle.board.proofs.FileLaws.{read-chunk}
use Rattle.board.proofs.file.read_on.Goals as goal

pub returns : goal.returns
returns g c =
    let s = c.args.s in
    let buf = c.args.buf.now in
    let k : ℕ = length buf - s.held in
    let l : length c.read.new.buf ≡ k = c.read.auto.buf ∙ length-take-le k (drop s.held buf) (omega (arith, length-drop s.held buf)) in
    read-chunk buf c.read.new.buf s _ c.in_ok-n.n (omega arith) l c.in_ok-n.ensures.bound.0 (omega arith) c.after_read.ensures
