-- `order::write_keys` meets its contract: the entries that the first of the numbers name are the listing. Assumes nothing.
use Rattle.map.specs.KeyListing.{listing_body}
use Rattle.order.proofs.ListKeys.{listing-valid, listed, not_sent, was_sent}
use Rattle.order.proofs.write_keys.Goals as goal

pub returns-then-size-eq0 : goal.returns-then-size-eq0
unfolding listing_body
returns-then-size-eq0 c =
    let l = listed c.args.t.now c.args.k.now c.args.n _ _ _ c.keys_from-keys.ensures c.requires c.latest.ensures in
    not_sent _ _ _ _ (listing-valid _ _ _ c.requires) (rw (c.min.ensures, l) at c.put_entries-size.ensures) c.if-size-eq0.true

pub returns : goal.returns
unfolding listing_body
returns c =
    let l = listed c.args.t.now c.args.k.now c.args.n _ _ _ c.keys_from-keys.ensures c.requires c.latest.ensures in
    was_sent _ _ _ _ (listing-valid _ _ _ c.requires) (rw (c.min.ensures, l) at c.put_entries-size.ensures) c.if-size-eq0.false
