-- `table::number::put64` meets its contract. Assumes nothing.
use mathlib.Core.Path.{sym, ap, ◌∙◌}
use mathlib.Core.List.{List}
use Prim.Native.Nat.{ℕ}
use lib.Seq.{sets}
use Rattle.table.proofs.RowLaws.{eight}
use Rattle.table.proofs.number.put64.Goals as goal

pub returns : goal.returns
returns c = c.copy_at.ensures ∙ ap (λ (vs : List ℕ). sets c.args.t.now c.args.a vs) (c.to_be_bytes.ensures ∙ sym (eight c.args.x))
