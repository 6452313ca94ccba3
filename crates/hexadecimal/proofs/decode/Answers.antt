-- `hexadecimal::decode` meets its contract: between two bytes the loop knows what `Pasted` says. Assumes nothing.
use mathlib.Core.Path.{sym, ◌∙◌}
use Prim.Native.Nat.{◌/◌}
use lib.ListN.{length}
use lib.Seq.{length-take-le}
use native.Mathlib.Omega.{arith}
use Rattle.hexadecimal.proofs.Pairs.{pairs_length, pairs-at, from-digits, from_odd, from-other}
use Rattle.hexadecimal.proofs.Paste.{paste_on, decode_bad, decode_short, decode_done}
use Rattle.hexadecimal.proofs.decode.Goals as goal
use Rattle.hexadecimal.proofs.decode.Goals.{then-s-eq1-via-then-s-eq1, then-s-eq1-via-else-s-eq1+then-not-are_digits}

pub returns-then-s-eq1 : goal.returns-then-s-eq1
returns-then-s-eq1 c = elim c.then-s-eq1.branch [
  | then-s-eq1-via-then-s-eq1 w ↦ decode_bad _ _ (from_odd _ (omega arith))
  | then-s-eq1-via-else-s-eq1+then-not-are_digits w ↦ decode_bad _ _ (from-other _ (sym w.are_digits.ensures ∙ w.if-not-are_digits.true))
]

pub returns-then-out-n : goal.returns-then-out-n
returns-then-out-n c =
    decode_short _ _ (from-digits _ (sym c.are_digits.ensures ∙ c.if-not-are_digits.false) (omega arith)) (omega (arith, pairs_length c.args.s.now))

pub loop-i-preserved : goal.loop-i-preserved
loop-i-preserved c =
    let s = c.args.s.now in
    let l = length-take-le (length s / 2) c.args.out.now c.if-out-n.false in
    paste_on _ _ 0 c.loop-i.i _ _ _ (omega (arith, pairs_length s)) (omega (arith, pairs_length s)) (omega arith)
    (c.pair.ensures ∙ sym (pairs-at s c.loop-i.i (omega arith))) (omega arith) c.loop-i.invariant

pub returns : goal.returns
returns c =
    let s = c.args.s.now in
    let l = length-take-le (length s / 2) c.args.out.now c.if-out-n.false in
    decode_done _ _ _ c.loop-i.i (from-digits _ (sym c.are_digits.ensures ∙ c.if-not-are_digits.false) (omega arith)) (omega (arith, pairs_length s)) (sym (pairs_length s))
    (omega (arith, pairs_length s, c.loop-i.invariant.within)) c.loop-i.invariant
