-- `rules::awaited_by` meets its contract. Assumes nothing.
use Rattle.std.proofs.Common.{rules}
use mathlib.Core.Path.{sym, ◌∙◌}
use Rattle.message.specs.Reply.{awaited}
use Rattle.message.proofs.Codes.{found-some, found-none}
use Rattle.message.proofs.Editions.{no_edition, edition-is}
use Rattle.rules.proofs.awaited_by.Goals as goal

pub returns-then-not-is_served : goal.returns-then-not-is_served
unfolding awaited
returns-then-not-is_served c = rw (no_edition _ (sym c.is_served.ensures ∙ c.if-not-is_served.true))

pub returns-in_err-op : goal.returns-in_err-op
unfolding awaited
returns-in_err-op c =
    rw ((edition-is _ (sym c.is_served.ensures ∙ c.if-not-is_served.false)), (found-none _ _ c.in_err-op.ensures).0)
    (let k = (found-none _ _ c.in_err-op.ensures).1 in search (rules, k))

pub returns-then-not-serves : goal.returns-then-not-serves
unfolding awaited
returns-then-not-serves c =
    rw ((edition-is _ (sym c.is_served.ensures ∙ c.if-not-is_served.false)), found-some _ _ c.in_ok-op.ensures, sym c.serves.ensures ∙ c.if-not-serves.true)

pub returns : goal.returns
unfolding awaited
returns c =
    rw ((edition-is _ (sym c.is_served.ensures ∙ c.if-not-is_served.false)), found-some _ _ c.in_ok-op.ensures, sym c.serves.ensures ∙ c.if-not-serves.false)
