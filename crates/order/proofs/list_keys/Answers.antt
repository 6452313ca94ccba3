-- `order::list_keys` meets its contract. Assumes nothing.
use mathlib.Core.Path.{sym}
use borrow.Author.Tests.{eqb-true, eqb-false}
use Rattle.table.proofs.Lists.{refuted}
use Rattle.order.proofs.ListKeys.{lists_no_table, lists_no_cache, lists-keys}
use Rattle.order.proofs.list_keys.Goals as goal

pub returns-then-not-is_table : goal.returns-then-not-is_table
returns-then-not-is_table c = lists_no_table _ _ _ _ _ (refuted c.is_table.ensures c.if-not-is_table.true)

pub returns-then-not-is_empty : goal.returns-then-not-is_empty
returns-then-not-is_empty c =
    lists_no_cache _ _ _ _ _ (c.is_table.ensures.0 c.if-not-is_table.false) (eqb-false _ _ (sym c.if-not-is_empty.ensures))

pub returns : goal.returns
returns c =
    lists-keys _ _ _ _ _ _ (c.is_table.ensures.0 c.if-not-is_table.false) (eqb-true _ _ (sym c.if-not-is_empty.ensures)) c.write_keys.ensures
