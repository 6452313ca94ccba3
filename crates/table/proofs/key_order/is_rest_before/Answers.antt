-- `table::key_order::is_rest_before` meets its contract. The loop's invariant: the bytes passed are alike. Assumes nothing.
use mathlib.Core.Path.{◌≡◌, sym, ap, ◌∙◌}
use mathlib.Core.Logic.{⊎_elim}
use Prim.Native.Nat.{suc, ◌+◌}
use native.Mathlib.Omega.{arith}
use native.Mathlib.Numerals.{add-one}
use lib.ListN.{length}
use Rattle.table.proofs.Lists.{lt-or_ge}
use Rattle.wire.proofs.Words.{from, byte-alike, byte-unlike, first_ends, second-ends}
use Rattle.table.proofs.key_order.is_rest_before.Goals as goal

pub returns-then-a-i : goal.returns-then-a-i
returns-then-a-i c =
    let l = c in
    sym (l.loop-i.invariant.2 ∙ byte-unlike _ _ l.loop-i.i (omega arith) (omega arith) c.if-a-i.true)

pub loop-i-preserved : goal.loop-i-preserved
loop-i-preserved c =
    let l = c.before.before.before.before in
    let e : l.loop-i.i + 1 ≡ suc l.loop-i.i = add-one l.loop-i.i in
    let s = l in (
      omega arith,
      l.loop-i.invariant.1,
      l.loop-i.invariant.2 ∙ byte-alike _ _ l.loop-i.i (omega arith) (omega arith) c.if-a-i.false ∙ ap (from s.args.a.now s.args.b.now) (sym e),
    )

pub returns : goal.returns
returns c =
    let l = c.before in
    let s = l in
    let a = s.args.a.now in
    let b = s.args.b.now in
    let i = l.loop-i.i in
    sym (l.loop-i.invariant.2 ∙ ⊎_elim (λ q. first_ends a b i (omega arith)) (λ q. second-ends a b i (omega arith) (omega arith)) (lt-or_ge (length a) (length b)))
