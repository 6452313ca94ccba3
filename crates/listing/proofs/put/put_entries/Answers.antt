-- `listing::put::put_entries` meets its contract: it judges, measures where that is needed, and then writes. Assumes nothing.
use native.Mathlib.Omega.{arith}
use Rattle.wire.proofs.WriteLaws.{put-broken, put-short, put-done}
use Rattle.message.specs.Listing.{listing}
use Rattle.listing.proofs.Writing.{length_some, length_none, sure}
use Rattle.listing.proofs.put.put_entries.Goals as goal

pub put_all-requires-clause-room : goal.put_all-requires-clause-room
put_all-requires-clause-room c = (sure _ _ _ _ _ (λ i. omega (arith, c.type_inv.bytes i)) (c.is_sure.ensures c.if-is_sure.true)).1

pub returns-then-is_sure : goal.returns-then-is_sure
returns-then-is_sure c =
    let t = sure c.args.bytes.now c.args.numbers.now c.args.values c.args.at c.args.out.now (λ i. omega (arith, c.type_inv.bytes i)) (c.is_sure.ensures c.if-is_sure.true) in
    put-done (listing _) _ _ _ t.0 t.1 _ _ c.put_all.ensures

pub returns-in_default : goal.returns-in_default
returns-in_default c = put-broken (listing _) _ _ _ (length_none (listing _) _ c.in_default.ensures)

pub returns-then-out-at : goal.returns-then-out-at
returns-then-out-at c = put-short (listing _) _ _ _ (length_some (listing _) _ _ c.in-Some.ensures).0 (omega arith)

pub returns-then-out-at-2 : goal.returns-then-out-at-2
returns-then-out-at-2 c =
    let g = length_some (listing c.args.values) _ _ c.in-Some.ensures in
    put-short (listing _) _ _ _ g.0 (omega (arith, g.1))

pub put_all-requires-2-clause-valid : goal.put_all-requires-2-clause-valid
put_all-requires-2-clause-valid c = (length_some (listing _) _ _ c.in-Some.ensures).0

pub put_all-requires-2-clause-room : goal.put_all-requires-2-clause-room
put_all-requires-2-clause-room c = omega (arith, (length_some (listing c.args.values) _ _ c.in-Some.ensures).1)

pub returns : goal.returns
returns c =
    let g = length_some (listing c.args.values) _ _ c.in-Some.ensures in
    put-done (listing _) _ _ _ g.0 (omega (arith, g.1, c.if-out-at.false, c.if-out-at-2.false)) _ _ c.put_all-2.ensures
