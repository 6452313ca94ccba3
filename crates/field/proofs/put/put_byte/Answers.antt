-- `field::put::put_byte` meets its contract. Assumes nothing.
use mathlib.Core.Path.{refl}
use native.Mathlib.Omega.{arith}
use lib.ListN.{length-set}
use borrow.Author.Tests.{lt-ltb}
use Rattle.wire.specs.Codec.{byte}
use Rattle.wire.proofs.WriteLaws.{put-done, put-short}
use Rattle.field.proofs.put.put_byte.Goals as goal

pub returns-then-at-out : goal.returns-then-at-out
unfolding byte
returns-then-at-out c =
    let a = c.args in
    put-done byte a.b a.at a.out.now (lt-ltb a.b 256 (omega arith)) (omega arith) _ _ (record { next = refl; list = refl; long = simp length-set })

pub returns-else-at-out : goal.returns-else-at-out
unfolding byte
returns-else-at-out c =
    let a = c.args in
    put-short byte a.b a.at a.out.now (lt-ltb a.b 256 (omega arith)) (omega arith)
