-- `rules::has_transaction` meets its contract. Assumes nothing.
use mathlib.Core.Path.{sym}
use Rattle.message.proofs.Editions.{transaction-is}
use Rattle.rules.proofs.has_transaction.Goals as goal

pub returns : goal.returns
returns c = sym (transaction-is c.args.version)
