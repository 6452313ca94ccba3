-- `exports::fq_make` meets its contract. Assumes nothing.
use mathlib.Core.Path.{ap, ◌∙◌}
use Rattle.exports.specs.Calls.{done_code}
use Rattle.exports.proofs.fq_make.Goals as goal

pub returns : goal.returns
returns c = let m = c.make.ensures in (c.done.ensures ∙ ap done_code m.0, m.1)
