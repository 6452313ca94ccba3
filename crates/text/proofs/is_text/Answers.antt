-- `text::is_text` meets its contract: once nothing can follow, the rest does not matter. Assumes nothing.
use Rattle.std.proofs.Common.{◌≡◌, ℕ, ◌+◌, ◌<◌, List, length, get_or, drop, false, sym, ap, ◌∙◌, Option, Some, None}
use Rattle.std.proofs.lemmas.List.{at_drop_more}
use Rattle.text.specs.declared.Pending.{Pending}
use Rattle.text.specs.Text.{step_of, text_after}
use Rattle.text.proofs.GrammarLaws.{lost}
use Rattle.text.proofs.is_text.Goals as goal

stopped : (w : Pending) (s : List ℕ) (i : ℕ) → i < length s → step_of (Some w) (get_or s i 0) ≡ None → text_after (Some w) (drop i s) ≡ false
unfolding text_after
stopped w s i h e = at_drop_more (text_after (Some w)) s i 0 h ∙ ap (λ (x : Option Pending). text_after x (drop (i + 1) s)) e ∙ lost (drop (i + 1) s)

pub returns-in_default : goal.returns-in_default
returns-in_default c =
    sym (c.loop-b.invariant ∙ stopped c.loop-b.w c.args.s.now c.loop-b.b-index c.loop-b-test.true (sym c.step.ensures ∙ c.in_default.is))
