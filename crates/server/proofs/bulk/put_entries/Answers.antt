-- `server::bulk::put_entries` meets its contract. The loop's invariant: those before i are written. Assumes nothing.
use mathlib.Core.Path.{◌≡◌, refl}
use mathlib.Core.List.{List, []}
use mathlib.Core.Bool.{Bool}
use Prim.Native.Nat.{ℕ, ◌≤◌, ◌<◌}
use native.Mathlib.Omega.{arith}
use lib.ListN.{length, get_or}
use Rattle.wire.specs.Codec.{byte}
use Rattle.wire.proofs.ListedEnc.{listed-few}
use Rattle.wire.proofs.ListedWrite.{begun, on-valid, on_room, on, end-room, written}
use Rattle.wire.proofs.WriteLaws.{put-wrote}
use Rattle.message.specs.Listing.{item_of, listing}
use Rattle.map.specs.Reply.{pair_of}
use Rattle.table.specs.Memory.{entry, state_of}
use Rattle.server.specs.Bulk.{entry_pair, listed_pairs, Listable}
use Rattle.server.proofs.SendLaws.{listed-long, listed_at}
use Rattle.server.proofs.bulk.put_entries.Goals as goal

-- there are at most 128
few : (values : Bool) (n m : ℕ) (t : List ℕ) (at : ℕ) (old : List ℕ) → Listable values n m t at old → length (listed_pairs values n (state_of t)) ≤ 128
unfolding listing
few values n m t at old g = listed-few (item_of values) 128 _ g.valid

-- entry i is one of them
module _ {values : Bool} {n m : ℕ} {t : List ℕ} {at : ℕ} {old : List ℕ} (g : Listable values n m t at old) (i : ℕ) (h : i < m) where
  within : i < length (listed_pairs values n (state_of t))
  within = omega (arith, h, g.many, listed-long n t values)

  pair : get_or (listed_pairs values n (state_of t)) i (pair_of values (entry [] [] 0 0)) ≡ entry_pair values t i
  pair = listed_at n t values i (omega (arith, h, g.many))

pub loop-i-init : goal.loop-i-init
unfolding listing
loop-i-init c n g = begun _ _ _ _ _ g.valid

pub loop-i-preserved : goal.loop-i-preserved
unfolding listing
loop-i-preserved c n g =
    let a = c.args in
    let i = c.loop-i.i in
    let d = pair_of a.values (entry [] [] 0 0) in
    let b = c.loop-i.invariant n g in
    let f = few a.values n _ _ _ _ g in
    let w = within g i c.loop-i-test.true in
    let p = pair g i c.loop-i-test.true in
    let v = on-valid (item_of a.values) 128 _ f d i w _ _ _ _ b in
    let r = on_room (item_of a.values) 128 _ f d i w _ _ _ _ b g.room in
    on (item_of a.values) 128 _ f d i w _ _ _ _ b _ _ (rw p (c.put_entry-here.ensures (rw p at v) (rw p at r)))

pub returns : goal.returns
unfolding listing byte
returns c n g =
    let a = c.args in
    let b = c.loop-i.invariant n g in
    let i : c.loop-i.i ≡ length (listed_pairs a.values n (state_of a.t.now)) = omega (arith, c.loop-i-test.false, c.loop-i.auto.i-end, g.many, listed-long n a.t.now a.values) in
    let r = end-room (item_of a.values) 128 _ c.loop-i.i i _ _ _ _ b g.room in
    written (item_of a.values) 128 _ c.loop-i.i i _ _ _ _ b _ _ (put-wrote byte 0 _ _ refl r _ _ c.put_byte.ensures)
