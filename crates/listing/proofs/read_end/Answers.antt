-- `listing::read_end` meets its contract: the more byte decides. Assumes nothing.
use mathlib.Core.Path.{sym, ◌∙◌}
use native.Mathlib.Omega.{arith}
use borrow.Author.Tests.{lt-leb}
use Rattle.listing.proofs.Reading.{end-by}
use Rattle.listing.proofs.read_end.Goals as goal

pub returns-in_default : goal.returns-in_default
returns-in_default c = sym (end-by _ _ _ c.in_default.ensures)

pub returns-in-0 : goal.returns-in-0
returns-in-0 c = sym (end-by _ _ _ (rw c.in-0.is at c.in-Some.ensures))

pub returns-in-1 : goal.returns-in-1
returns-in-1 c = sym (end-by _ _ _ (rw c.in-1.is at c.in-Some.ensures))

pub returns-in_default-b : goal.returns-in_default-b
returns-in_default-b c = sym (end-by _ _ _ c.in-Some.ensures ∙ rw (lt-leb c.in-Some.b 1 (omega arith)))
