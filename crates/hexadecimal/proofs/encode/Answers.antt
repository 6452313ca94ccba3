-- `hexadecimal::encode` meets its contract: between two bytes the loop knows what `Pasted` says. Assumes nothing.
use Prim.Native.Nat.{◌*◌}
use native.Mathlib.Omega.{arith}
use Rattle.hexadecimal.proofs.HexLaws.{hex_length}
use Rattle.hexadecimal.proofs.Paste.{encode_on, encode_end}
use Rattle.hexadecimal.proofs.encode.Goals as goal

pub loop-i-preserved : goal.loop-i-preserved
loop-i-preserved c =
    let d = c.before in
    let l = d.before.before in
    rw (d.digit.ensures, c.digit-in-loop-i.ensures) (encode_on _ _ _ l.loop-i.i (omega arith) l.loop-i-test.true l.loop-i.invariant)

pub returns : goal.returns
returns c = encode_end _ _ _ (2 * c.loop-i.i) (omega arith) (omega (arith, hex_length c.args.s.now, c.loop-i.invariant.within)) c.loop-i.invariant
