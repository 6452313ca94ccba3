-- `table::collect::collect` meets its contract. The loop's invariant: the keys passed that stand are named. Assumes nothing.
use mathlib.Core.Path.{sym, ap, subst₂, ◌∙◌}
use mathlib.Core.List.{List}
use Prim.Native.Nat.{ℕ, ◌+◌, ◌*◌, ◌<◌, min}
use native.Mathlib.Omega.{arith}
use borrow.Author.Tests.{not-true, not-false}
use Rattle.message.specs.Arguments.{key_limit}
use Rattle.map.specs.Deadline.{expired}
use Rattle.table.specs.Bytes.{be8}
use Rattle.table.specs.Memory.{rows_at, row_width, key_length_start, key_start, row_entry, count_of}
use Rattle.table.proofs.Bisect.{insertion_is}
use Rattle.table.proofs.KeyWalk.{Walked, walked_none, walked_pass, walked_take, walked_all}
use Rattle.table.proofs.collect.collect.Goals as goal
use Rattle.table.proofs.collect.collect.Goals.{then-row_stands, else-row_stands}

pub loop-p-init : goal.loop-p-init
loop-p-init c = walked_none _ _ _ (insertion_is c.place_for-p.ensures).within

pub loop-p-preserved : goal.loop-p-preserved
loop-p-preserved c =
    let l = c in
    let s = l in
    let t = s.args.t.now in
    let p = l.loop-p.p in
    let now = s.args.second.0 in
    let first = l.place_for-p.result in
    let q : p < count_of t = omega (arith, c.loop-p-test.true, l.count-p-end.ensures.0) in
    let r = c.row_by_key-row.ensures.0 in
    let e = c.row_stands.ensures in
    let x = ap (λ (i : ℕ). expired now (row_entry t i)) (sym r) in
    elim c.if-row_stands.branch [
      | then-row_stands w ↦
          subst₂ (λ (ns : List ℕ) (m : ℕ). Walked t now first ns m (p + 1)) (sym w.numbers-is) (sym w.many-is)
          (walked_take t now first l.loop-p.numbers l.loop-p.many p l.loop-p.invariant _ _ q (x ∙ not-true _ (sym e ∙ w.if-row_stands.true)) (ap (λ (i : ℕ). rows_at + row_width * i + key_start) r)
          (w.capped.ensures ∙ ap (λ (i : ℕ). min (be8 t (rows_at + row_width * i + key_length_start)) key_limit) r))
      | else-row_stands w ↦
          subst₂ (λ (ns : List ℕ) (m : ℕ). Walked t now first ns m (p + 1)) (sym w.numbers-is) (sym w.many-is)
          (walked_pass t now first l.loop-p.numbers l.loop-p.many p l.loop-p.invariant q (x ∙ not-false _ (sym e ∙ w.if-row_stands.false)))
    ]

pub returns : goal.returns
returns c = let l = c in
    walked_all _ _ _ _ _ _ l.loop-p.invariant _ l.told-t (omega (arith, l.count-p-end.ensures.0)) l.place_for-p.ensures
