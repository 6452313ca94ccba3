-- `field::put::put_number` meets its contract: it judges the number, then the room, and then writes. Assumes nothing.
-- the number is one of the kind
use mathlib.Core.Path.{◌≡◌, ap}
use Prim.Native.Nat.{◌≤◌}
use native.Mathlib.Omega.{arith}
use lib.ListN.{length}
use Rattle.wire.specs.Number.{number, v_long}
use Rattle.wire.proofs.NumberWrite.{enc-some}
use Rattle.wire.proofs.WriteLaws.{put-broken, put-short, put-done}
use Rattle.field.specs.FieldRead.{codec_of, greatest_of}
use Rattle.field.proofs.Numbers.{kind_good, kind_bad, kind_bytes, wrote_kind, greatest-long}
use Rattle.field.proofs.put.put_number.Goals as goal

pub returns-then-greatest-v : goal.returns-then-greatest-v
returns-then-greatest-v c = let a = c.args in
    put-broken (codec_of a.k) _ _ _ (kind_bad a.v a.k (omega (arith, c.greatest.ensures)))

pub returns-then-out-at : goal.returns-then-out-at
unfolding v_long number
returns-then-out-at c = let b = c.before in
    let a = b.args in
    put-short (codec_of a.k) _ _ _ (kind_good a.v a.k ((let fits' : let a = b.args in a.v ≤ greatest_of a.k = omega (arith, b.greatest.ensures, b.if-greatest-v.false) in fits'))) (omega (arith, (let size' : let a = b.args in length ((codec_of a.k).enc a.v) ≡ length (v_long.enc a.v) = let a = b.args in ap length (kind_bytes a.v a.k ((let fits' : let a = b.args in a.v ≤ greatest_of a.k = omega (arith, b.greatest.ensures, b.if-greatest-v.false) in fits'))) in size'), enc-some 8 a.v))

pub returns-then-out-at-2 : goal.returns-then-out-at-2
returns-then-out-at-2 c = let b = c.before.before.before in
    let a = b.args in
    put-short (codec_of a.k) _ _ _ (kind_good a.v a.k ((let fits' : let a = b.args in a.v ≤ greatest_of a.k = omega (arith, b.greatest.ensures, b.if-greatest-v.false) in fits'))) (omega (arith, (let size' : let a = b.args in length ((codec_of a.k).enc a.v) ≡ length (v_long.enc a.v) = let a = b.args in ap length (kind_bytes a.v a.k ((let fits' : let a = b.args in a.v ≤ greatest_of a.k = omega (arith, b.greatest.ensures, b.if-greatest-v.false) in fits'))) in size'), c.number_len.ensures))

pub write_number-requires : goal.write_number-requires
write_number-requires c = let l = c.before.before in
    let b = l.before.before in
    let a = b.args in record { v_bound = greatest-long a.v a.k ((let fits' : let a = b.args in a.v ≤ greatest_of a.k = omega (arith, b.greatest.ensures, b.if-greatest-v.false) in fits')); room = omega (arith, l.number_len.ensures) }

pub returns : goal.returns
returns c = let w = c.before.before in
    let e = w.before.before in
    let b = e.before.before.before in
    let a = b.args in
    put-done (codec_of a.k) _ _ _ (kind_good a.v a.k ((let fits' : let a = b.args in a.v ≤ greatest_of a.k = omega (arith, b.greatest.ensures, b.if-greatest-v.false) in fits'))) (omega (arith, (let size' : let a = b.args in length ((codec_of a.k).enc a.v) ≡ length (v_long.enc a.v) = let a = b.args in ap length (kind_bytes a.v a.k ((let fits' : let a = b.args in a.v ≤ greatest_of a.k = omega (arith, b.greatest.ensures, b.if-greatest-v.false) in fits'))) in size'), e.number_len.ensures)) _ _
    (wrote_kind a.v a.k ((let fits' : let a = b.args in a.v ≤ greatest_of a.k = omega (arith, b.greatest.ensures, b.if-greatest-v.false) in fits')) w.write_number.ensures)
