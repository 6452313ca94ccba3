-- `field::read_byte` meets its contract. Assumes nothing.
use Rattle.std.proofs.Common.{rules}
use Rattle.field.proofs.Parts.{byte-at, byte-past}
use Rattle.field.proofs.read_byte.Goals as goal

pub returns-in_err-b : goal.returns-in_err-b
returns-in_err-b c = search (rules, byte-past)

pub returns : goal.returns
returns c = search (rules, byte-at)
