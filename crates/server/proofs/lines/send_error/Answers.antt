-- `server::lines::send_error` meets its contract. Assumes nothing.
use borrow.Author.Rules.{rules}
use Rattle.service.proofs.Ids.{id-small}
use Rattle.server.proofs.LineLaws.{error-in, line_replied}
use Rattle.server.proofs.lines.send_error.Goals as goal

pub refuse-a-requires-clause-id_bound : goal.refuse-a-requires-clause-id_bound
refuse-a-requires-clause-id_bound c = rw c.read_id.ensures (id-small _ (λ i. search rules))

pub returns : goal.returns
returns c =
    line_replied c.args.out.now c.args.at c.requires.line_room_in_bounds
    (error-in _ _ (rw c.read_id.ensures at c.refuse-a.ensures) c.requires.refusal_bound (id-small _ (λ i. search rules))) c.make_line.ensures
