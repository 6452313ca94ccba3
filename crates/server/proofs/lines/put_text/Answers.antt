-- `server::lines::put_text` meets its contract. Assumes nothing.
use borrow.Author.Rules.{rules}
use Rattle.server.proofs.LineLaws.{raw-puts}
use Rattle.server.proofs.lines.put_text.Goals as goal

pub returns : goal.returns
returns c = raw-puts _ _ (λ i. search rules) c.requires c.put_raw.ensures
