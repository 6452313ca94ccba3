-- `statistics::put::can_send` meets its contract. Assumes nothing.
use Rattle.std.proofs.Common.{rules, tests}
use mathlib.Core.Path.{refl, sym, ◌∙◌}
use lib.Dec.{leb}
use Rattle.std.proofs.lemmas.Iterator.{YieldsList-from_slice}
use Rattle.std.proofs.lemmas.Iterator.Search.{all_from_yields_List}
use Rattle.statistics.specs.Statistics.{list_of}
use Rattle.statistics.proofs.Writing.{statistics-all}
use Rattle.statistics.proofs.put.can_send.Goals as goal

pub returns : goal.returns
returns c =
    all_from_yields_List (λ n. leb n 0x7fff_ffff_ffff_ffff) _ _ _ c.all.ensures.ran (YieldsList-from_slice c.from.result cc) (λ x b q k. search (rules, tests))
    ∙ rw c.from.ensures (sym (statistics-all (list_of c.args.x) refl))
