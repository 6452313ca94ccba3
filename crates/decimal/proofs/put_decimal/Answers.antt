-- `decimal::put_decimal` meets its contract: from the last digit to the first, the loop knows what `Filled` says. Assumes nothing.
use native.Mathlib.Omega.{arith}
use Rattle.wire.proofs.Digits.{fill_on}
use Rattle.wire.proofs.WriteLaws.{put-broken, put-short, put-done}
use Rattle.decimal.specs.Decimal.{decimal}
use Rattle.decimal.proofs.DecimalLaws.{decimal-good, decimal-bad}
use Rattle.decimal.proofs.DecimalWrite.{wrote-decimal, enc_length}
use Rattle.decimal.proofs.put_decimal.Goals as goal

pub returns-then-v-gt-LARGEST : goal.returns-then-v-gt-LARGEST
returns-then-v-gt-LARGEST c = put-broken decimal _ _ _ (decimal-bad _ c.if-v-gt-LARGEST.true)

pub returns-then-out-at : goal.returns-then-out-at
returns-then-out-at c = put-short decimal _ _ _ (decimal-good _ c.if-v-gt-LARGEST.false) (omega (arith, enc_length c.args.v))

pub returns-then-out-at-2 : goal.returns-then-out-at-2
returns-then-out-at-2 c = put-short decimal _ _ _ (decimal-good _ c.if-v-gt-LARGEST.false) (omega (arith, c.decimal_len-size.ensures))

pub loop-i-preserved : goal.loop-i-preserved
loop-i-preserved c = fill_on _ _ _ _ _ _ _ c.loop-i-test.true c.loop-i.invariant

pub returns : goal.returns
returns c =
    put-done decimal _ _ _ (decimal-good _ c.if-v-gt-LARGEST.false) (omega (arith, c.decimal_len-size.ensures, c.if-out-at-2.false)) _ _
    (wrote-decimal _ _ _ _ _ _ _ c.if-v-gt-LARGEST.false c.decimal_len-size.ensures.1 (omega arith) c.loop-i.invariant)
