-- `files::load_next` meets its contract. Assumes nothing.
use mathlib.Core.Path.{◌≡◌}
use mathlib.Core.Bool.{true}
use native.Mathlib.Omega.{arith}
use Rattle.files.specs.Loading.{Loads}
use Rattle.files.proofs.LoadNextLaws.{is-bad, no_head, no_end, no_line, all, on}
use borrow.Author.Tests.{not-true, not-false}
use Rattle.files.proofs.load_next.Goals as goal

-- the call, and that its lines were good

pub returns-then-not-p : goal.returns-then-not-p
returns-then-not-p c =
    rw c.broken.ensures (is-bad ((let loads' : let a = c.args in Loads a.buf.now a.table.now a.s c.load_lines-p.result c.load_lines-p.new.t = record { lies = record { order = omega arith; within = omega arith }; long = omega arith; lines = c.load_lines-p.ensures } in loads')) (not-true _ c.if-not-p.true))

pub returns-then-not-p-2 : goal.returns-then-not-p-2
returns-then-not-p-2 c =
    rw c.broken-then-not-p-2.ensures (no_head ((let loads' : let a = c.args in Loads a.buf.now a.table.now a.s c.load_lines-p.result c.load_lines-p.new.t = record { lies = record { order = omega arith; within = omega arith }; long = omega arith; lines = c.load_lines-p.ensures } in loads')) ((let good' : c.load_lines-p.result.good ≡ true = (not-false _ c.if-not-p.false) in good')) c.if-s.true (not-true _ c.if-not-p-2.true))

pub returns-then-at-held : goal.returns-then-at-held
returns-then-at-held c =
    rw c.broken-then-at-held.ensures (no_end ((let loads' : let a = c.args in Loads a.buf.now a.table.now a.s c.load_lines-p.result c.load_lines-p.new.t = record { lies = record { order = omega arith; within = omega arith }; long = omega arith; lines = c.load_lines-p.ensures } in loads')) ((let good' : c.load_lines-p.result.good ≡ true = (not-false _ c.if-not-p.false) in good')) c.if-s.true c.if-at-held.true)

pub returns-then-s : goal.returns-then-s
returns-then-s c =
    all ((let loads' : let a = c.args in Loads a.buf.now a.table.now a.s c.load_lines-p.result c.load_lines-p.new.t = record { lies = record { order = omega arith; within = omega arith }; long = omega arith; lines = c.load_lines-p.ensures } in loads')) ((let good' : c.load_lines-p.result.good ≡ true = (not-false _ c.if-not-p.false) in good')) c.if-s.true (not-false _ c.if-not-p-2.false) c.if-at-held.false

pub returns-then-held-at-gt-LONGEST : goal.returns-then-held-at-gt-LONGEST
returns-then-held-at-gt-LONGEST c =
    rw c.broken-then-held-at-gt-LONGEST.ensures (no_line ((let loads' : let a = c.args in Loads a.buf.now a.table.now a.s c.load_lines-p.result c.load_lines-p.new.t = record { lies = record { order = omega arith; within = omega arith }; long = omega arith; lines = c.load_lines-p.ensures } in loads')) ((let good' : c.load_lines-p.result.good ≡ true = (not-false _ c.if-not-p.false) in good')) c.if-held-at-gt-LONGEST.true)

pub returns : goal.returns
returns c =
    on ((let loads' : let a = c.args in Loads a.buf.now a.table.now a.s c.load_lines-p.result c.load_lines-p.new.t = record { lies = record { order = omega arith; within = omega arith }; long = omega arith; lines = c.load_lines-p.ensures } in loads')) ((let good' : c.load_lines-p.result.good ≡ true = (not-false _ c.if-not-p.false) in good')) c.if-s.false c.if-held-at-gt-LONGEST.false c.move_down-n.ensures.buf_after c.move_down-n.ensures.value
