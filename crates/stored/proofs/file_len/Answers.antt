-- `stored::file_len` meets its contract. Assumes nothing.
use mathlib.Core.Path.{◌≡◌, ap, ◌∙◌}
use Prim.Native.Nat.{ℕ, ◌+◌}
use native.Mathlib.Omega.{arith}
use lib.ListN.{length, length-append}
use Rattle.table.specs.Memory.{state_of}
use Rattle.table.specs.Found.{entry_at}
use Rattle.stored.specs.File.{form1, line_of}
use Rattle.stored.proofs.FileLaws.{few, front, front_head, front-entry, front-all}
use Rattle.stored.proofs.file_len.Goals as goal

pub loop-i-init : goal.loop-i-init
loop-i-init c = (omega (arith, front_head form1 c.args.t.now), omega arith)

pub overflow_add-sum : goal.overflow_add-sum
overflow_add-sum c = omega (arith, few c.args.t.now)

pub loop-i-preserved : goal.loop-i-preserved
loop-i-preserved c =
    let l = c.loop-i in
    let t = c.args.t.now in
    let e = entry_at t l.i in
    let s = (state_of t).history.latest in
    let r : c.line_len-sum.result ≡ length (line_of form1 s e) = c.line_len-sum.ensures.0 ∙ ap (λ (m : ℕ). length (line_of form1 m e)) c.latest-latest.ensures in
    (omega (arith, ap length (front-entry form1 t l.i (omega arith)), length-append (front form1 t (l.i + 1)) (line_of form1 s e)), omega arith)

pub returns : goal.returns
returns c = omega (arith, ap length (front-all form1 c.args.t.now (c.loop-i.i + 1) (omega arith)))
