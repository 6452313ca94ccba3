-- `field::put::put_eight` meets its contract: the bytes are those of the format. Assumes nothing.
use mathlib.Core.Path.{◌∙◌}
use native.Mathlib.Omega.{arith}
use Rattle.field.proofs.Parts.{raw-eight}
use Rattle.field.proofs.put.put_eight.Goals as goal

pub returns : goal.returns
returns c = c.put_raw.ensures ∙ raw-eight _ _ _ _ (omega arith) c.to_be_bytes.ensures
