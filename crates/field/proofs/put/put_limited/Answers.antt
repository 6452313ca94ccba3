-- `field::put::put_limited` meets its contract: it judges the length, then the room, and then writes. Assumes nothing.
-- a slice holds bytes
use mathlib.Core.Path.{◌≡◌, ap}
use Prim.Native.Nat.{◌+◌, ◌≤◌, ◌<◌}
use native.Mathlib.Omega.{arith}
use lib.ListN.{length}
use Rattle.wire.specs.Codec.{Valid, Bytes, raw}
use Rattle.wire.specs.Number.{number, v_int, v_long}
use Rattle.wire.specs.Field.{limited}
use Rattle.wire.proofs.Laws.{raw-good}
use Rattle.wire.proofs.NumberWrite.{enc-some, int_long, number-good}
use Rattle.wire.proofs.FieldLaws.{limited-good, limited-long, limited-over, limited_length, wrote-limited}
use Rattle.wire.proofs.WriteLaws.{put-broken, put-short, put-done, put-wrote}
use Rattle.field.proofs.put.put_limited.Goals as goal

pub returns-then-lim-n : goal.returns-then-lim-n
returns-then-lim-n c = let a = c.args in
    put-broken (limited a.lim) _ _ _ (limited-long a.lim a.s.now c.if-lim-n.true)

pub returns-then-n-gt4294967295 : goal.returns-then-n-gt4294967295
returns-then-n-gt4294967295 c = let a = c.args in
    put-broken (limited a.lim) _ _ _ (limited-over a.lim a.s.now c.if-n-gt4294967295.true)

pub returns-then-out-at : goal.returns-then-out-at
unfolding v_long number
returns-then-out-at c = let b = c.before in
    let a = b.args in
    put-short (limited a.lim) _ _ _ ((let good' : let a = b.args in Valid (limited a.lim) a.s.now = let a = b.args in limited-good a.lim a.s.now (omega (arith, b.if-n-gt4294967295.false)) (omega (arith, b.if-lim-n.false)) ((let bytes' : Bytes b.args.s.now = λ i. omega (arith, b.shared_slice_known-1.given i) in bytes')) in good')) (omega (arith, (let size' : let a = b.args in length ((limited a.lim).enc a.s.now) ≡ length (v_long.enc (length a.s.now)) + length a.s.now = let a = b.args in limited_length a.lim a.s.now (omega (arith, b.if-n-gt4294967295.false)) in size'), enc-some 8 (length a.s.now)))

pub overflow_add-number_len : goal.overflow_add-number_len
overflow_add-number_len c = omega (arith, c.number_len.ensures)

pub returns-then-room-number_len : goal.returns-then-room-number_len
returns-then-room-number_len c = let b = c.before.before.before in
    put-short (limited _) _ _ _ ((let good' : let a = b.args in Valid (limited a.lim) a.s.now = let a = b.args in limited-good a.lim a.s.now (omega (arith, b.if-n-gt4294967295.false)) (omega (arith, b.if-lim-n.false)) ((let bytes' : Bytes b.args.s.now = λ i. omega (arith, b.shared_slice_known-1.given i) in bytes')) in good')) (omega (arith, (let size' : let a = b.args in length ((limited a.lim).enc a.s.now) ≡ length (v_long.enc (length a.s.now)) + length a.s.now = let a = b.args in limited_length a.lim a.s.now (omega (arith, b.if-n-gt4294967295.false)) in size'), c.number_len.ensures))

pub returns : goal.returns
unfolding v_int raw
returns c = let w2 = c.before.before in
    let w1 = w2.before.before.before.before in
    let l = w1.before.before.before in
    let b = l.before.before in
    let a = b.args in
    let n = length a.s.now in
    let h : n < 0x1_0000_0000 = omega (arith, b.if-n-gt4294967295.false) in
    let u : a.at + length (v_long.enc n) + n ≤ length a.out.now = omega (arith, l.number_len.ensures, w1.if-room-number_len.false, l.if-out-at.false) in
    let x = put-wrote v_int n _ _ (number-good 5 15 4 0 n (omega arith) h) (rw (int_long n h) (omega arith)) _ _ w1.put_number-next.ensures in
    let y = put-wrote (raw n) a.s.now _ _ (raw-good a.s.now ((let bytes' : Bytes b.args.s.now = λ i. omega (arith, b.shared_slice_known-1.given i) in bytes'))) (omega (arith, x.next, x.long, (let int_size' : let n = length b.args.s.now in length (v_int.enc n) ≡ length (v_long.enc n) = ap length (int_long (length b.args.s.now) (omega (arith, b.if-n-gt4294967295.false))) in int_size'))) _ _ w2.put_raw.ensures in
    put-done (limited a.lim) _ _ _ ((let good' : let a = b.args in Valid (limited a.lim) a.s.now = let a = b.args in limited-good a.lim a.s.now (omega (arith, b.if-n-gt4294967295.false)) (omega (arith, b.if-lim-n.false)) ((let bytes' : Bytes b.args.s.now = λ i. omega (arith, b.shared_slice_known-1.given i) in bytes')) in good')) (omega (arith, (let size' : let a = b.args in length ((limited a.lim).enc a.s.now) ≡ length (v_long.enc (length a.s.now)) + length a.s.now = let a = b.args in limited_length a.lim a.s.now (omega (arith, b.if-n-gt4294967295.false)) in size'))) _ _ (wrote-limited a.lim a.s.now x y)
