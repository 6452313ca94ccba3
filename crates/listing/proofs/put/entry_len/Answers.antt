-- `listing::put::entry_len` meets its contract: each length is judged, and then both are counted. Assumes nothing.
use native.Mathlib.Omega.{arith}
use Rattle.message.specs.Listing.{item_of}
use Rattle.listing.proofs.Writing.{length_bad, key-over, value-over, value-sent, key_length, pair_length}
use Rattle.listing.proofs.put.entry_len.Goals as goal

pub returns-then-k-gt-KEY : goal.returns-then-k-gt-KEY
returns-then-k-gt-KEY c = length_bad (item_of c.args.values) _ (key-over _ _ c.args.values c.if-k-gt-KEY.true)

pub returns-then-v-ne0 : goal.returns-then-v-ne0
returns-then-v-ne0 c = rw c.if-not-values.true (length_bad (item_of _) _ (value-sent _ _ c.if-v-ne0.true))

pub returns-then-not-values : goal.returns-then-not-values
returns-then-not-values c =
    rw (c.if-not-values.true, c.number_len.ensures.0) (key_length _ _ (λ i. omega (arith, c.type_inv.key i)) c.if-k-gt-KEY.false c.if-v-ne0.false)

pub returns-then-v-gt-VALUE : goal.returns-then-v-gt-VALUE
returns-then-v-gt-VALUE c = rw c.if-not-values.false (length_bad (item_of _) _ (value-over _ _ c.if-v-gt-VALUE.true))

pub returns : goal.returns
returns c =
    rw (c.if-not-values.false, c.number_len-2.ensures.0, c.number_len-3.ensures.0)
    (pair_length _ _ (λ i. omega (arith, c.type_inv.key i)) c.if-k-gt-KEY.false (λ i. omega (arith, c.type_inv.value i)) c.if-v-gt-VALUE.false)
