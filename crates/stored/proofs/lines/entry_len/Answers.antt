-- `stored::lines::entry_len` meets its contract: the line is at most 679 characters long. Assumes nothing.
use native.Mathlib.Omega.{arith}
use Rattle.stored.proofs.StoreLaws.{held-length}
use Rattle.stored.proofs.lines.entry_len.Goals as goal

pub overflow_add-n-4 : goal.overflow_add-n-4
overflow_add-n-4 c =
    let h = held-length c.args.t.now c.args.i (λ j. omega (arith, c.type_inv.t j)) c.key_at-k.ensures c.value_at-v.ensures c.number_len.ensures.0 c.number_len-2.ensures.0 in
    omega (arith, h.0, h.1)

pub overflow_mul-result : goal.overflow_mul-result
overflow_mul-result c =
    let h = held-length c.args.t.now c.args.i (λ j. omega (arith, c.type_inv.t j)) c.key_at-k.ensures c.value_at-v.ensures c.number_len.ensures.0 c.number_len-2.ensures.0 in
    omega (arith, h.0, h.1)

pub overflow_add-result : goal.overflow_add-result
overflow_add-result c =
    let h = held-length c.args.t.now c.args.i (λ j. omega (arith, c.type_inv.t j)) c.key_at-k.ensures c.value_at-v.ensures c.number_len.ensures.0 c.number_len-2.ensures.0 in
    omega (arith, h.0, h.1)

pub returns : goal.returns
returns c =
    held-length c.args.t.now c.args.i (λ j. omega (arith, c.type_inv.t j)) c.key_at-k.ensures c.value_at-v.ensures c.number_len.ensures.0 c.number_len-2.ensures.0
