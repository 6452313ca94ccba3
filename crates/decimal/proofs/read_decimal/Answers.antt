-- `decimal::read_decimal` meets its contract: `decimal-by` says what its reading goes by, and each way out has those answers. Assumes nothing.
use Rattle.std.proofs.Common.{rules}
use mathlib.Core.Path.{sym, ◌∙◌}
use Rattle.decimal.proofs.DecimalRead.{decimal-by, part-short, not_digits, not_shortest, not_small, is-decimal}
use Rattle.decimal.proofs.read_decimal.Goals.{then-not-are_digits-via-then-not-are_digits, then-not-are_digits-via-else-not-are_digits+then-not-is_shortest}
use Rattle.decimal.proofs.read_decimal.Goals as goal

pub returns-in_err-p : goal.returns-in_err-p
returns-in_err-p c = search (rules, decimal-by)

pub returns-in_default : goal.returns-in_default
returns-in_default c = search (rules, decimal-by)

pub returns-then-not-are_digits : goal.returns-then-not-are_digits
returns-then-not-are_digits c =
    let by = decimal-by _ _ _ (rw c.in-Some.is at c.in_ok-p.ensures) in
    elim c.then-not-are_digits.branch [
      | then-not-are_digits-via-then-not-are_digits w ↦ sym (by ∙ rw (← c.part-d.ensures, not_digits _ (sym c.are_digits.ensures ∙ w.if-not-are_digits.true)))
      | then-not-are_digits-via-else-not-are_digits+then-not-is_shortest w ↦ sym (by ∙ rw (← c.part-d.ensures, not_shortest _ (sym w.is_shortest.ensures ∙ w.if-not-is_shortest.true)))
    ]

pub value-v-requires-clause-s_len_bound : goal.value-v-requires-clause-s_len_bound
value-v-requires-clause-s_len_bound c = rw c.part-d.ensures (part-short _ _ 19 _ _ (rw c.in-Some.is at c.in_ok-p.ensures))

pub returns-then-v-gt-LARGEST : goal.returns-then-v-gt-LARGEST
returns-then-v-gt-LARGEST c =
    sym (decimal-by _ _ _ (rw c.in-Some.is at c.in_ok-p.ensures) ∙ rw (← c.part-d.ensures, not_small _ (rw c.value-v.ensures at c.if-v-gt-LARGEST.true)))

pub returns : goal.returns
returns c =
    sym (decimal-by _ _ _ (rw c.in-Some.is at c.in_ok-p.ensures)
    ∙ rw (← c.part-d.ensures, is-decimal _ (sym c.are_digits.ensures ∙ c.if-not-are_digits.false) (sym c.is_shortest.ensures ∙ c.if-not-is_shortest.false) (rw c.value-v.ensures at c.if-v-gt-LARGEST.false), c.value-v.ensures))
