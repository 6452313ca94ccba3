-- `table::expiry::keep_standing` meets its contract. The loop's invariant: the rows passed that stand are kept. Assumes nothing.
use mathlib.Core.Path.{◌≡◌, sym, ap, subst, subst₂, ◌∙◌}
use mathlib.Core.List.{List}
use Prim.Native.Nat.{ℕ, ◌+◌, ◌%◌, ◌<◌}
use native.Mathlib.Omega.{arith}
use lib.ListN.{set, get_or}
use borrow.Author.Tests.{not-true, not-false}
use Rattle.map.specs.Deadline.{expired}
use Rattle.map.specs.Step.{most_keys}
use Rattle.table.specs.Memory.{order_at, row_entry, count_of, order_of}
use Rattle.table.proofs.KeepStanding.{Sifted, sifted-none, sifted-all, sifted-read, sifted-row, sifted_take, sifted-pass}
use Rattle.table.proofs.expiry.keep_standing.Goals as goal
use Rattle.table.proofs.expiry.keep_standing.Goals.{then-row_stands, else-row_stands}

pub loop-p-init : goal.loop-p-init
loop-p-init c = sifted-none _ _ c.told-t

pub loop-p-preserved : goal.loop-p-preserved
loop-p-preserved c =
    let l = c in
    let s = l in
    let t = s.args.t.now in
    let now = s.args.second.0 in
    let u = l.loop-p.t in
    let kept = l.loop-p.kept in
    let p = l.loop-p.p in
    let f = l.loop-p.invariant in
    let q : p < count_of t = omega (arith, c.loop-p-test.true, l.count-p-end.ensures.0) in
    let row = get_or u (order_at + p) 0 in
    let r : row ≡ order_of t p = sifted-read now t s.told-t u kept p f q in
    let e = c.row_stands.ensures in
    let x : expired now (row_entry t (order_of t p % most_keys)) ≡ expired now (row_entry u (row % most_keys)) =
    sym (ap (expired now) (sifted-row now t s.told-t u kept p f q (row % most_keys) (omega arith)) ∙ ap (λ (i : ℕ). expired now (row_entry t (i % most_keys))) r) in
    elim c.if-row_stands.branch [
      | then-row_stands w ↦
          subst₂ (λ (y : List ℕ) (k : ℕ). Sifted now t y k (p + 1)) (sym w.t-is) (sym w.kept-is)
          (subst (λ (y : ℕ). Sifted now t (set u (order_at + kept) y) (kept + 1) (p + 1)) (sym r) (sifted_take now t s.told-t u kept p f q (x ∙ not-true _ (sym e ∙ w.if-row_stands.true))))
      | else-row_stands w ↦
          subst₂ (λ (y : List ℕ) (k : ℕ). Sifted now t y k (p + 1)) (sym w.t-is) (sym w.kept-is)
          (sifted-pass now t s.told-t u kept p f q (x ∙ not-false _ (sym e ∙ w.if-row_stands.false)))
    ]

pub returns : goal.returns
returns c =
    let l = c in
    let s = l in
    sifted-all _ _ s.told-t _ _ _ (omega (arith, l.count-p-end.ensures.0)) l.loop-p.invariant
