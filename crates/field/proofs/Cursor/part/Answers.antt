-- `field::Cursor::part` meets its contract: `take` and `drop` stop at the end, as the function does. Assumes nothing.
use mathlib.Core.Path.{◌≡◌}
use Prim.Native.Nat.{◌+◌, ◌-◌}
use native.Mathlib.Omega.{arith}
use Rattle.field.proofs.Parts.{past, cut}
use Rattle.field.proofs.Cursor.part.Goals as goal

pub returns-then-s-start : goal.returns-then-s-start
returns-then-s-start c = let a = c.args in past a.s.now a.self.at a.len c.if-s-start.true

pub returns-then-s-start-2 : goal.returns-then-s-start-2
returns-then-s-start-2 c = let a = c.args in cut a.s.now a.self.at a.len c.if-s-start-2.true

pub returns : goal.returns
returns c =
    let a = c.args in
    let e : a.self.at + a.len - a.self.at ≡ a.len = omega arith in
    rw e
