-- `field::read_eight` meets its contract. Assumes nothing.
use Rattle.std.proofs.Common.{rules}
use Rattle.field.proofs.Parts.{few, read-eight}
use Rattle.field.proofs.read_eight.Goals as goal

pub returns-in_err-get : goal.returns-in_err-get
returns-in_err-get c = search (rules, few)

pub returns-in_err-bytes : goal.returns-in_err-bytes
returns-in_err-bytes c = search (rules, few)

pub returns : goal.returns
returns c = read-eight c.args.s.now c.in_ok-get.field-0.now c.in_ok-bytes.bytes.now c.args.c.at _ (search rules) (search rules) c.in_ok-bytes.ensures.cases c.from_be_bytes.ensures
