-- `text::is_text` meets its contract: at each byte, what is still wanted decides of the rest. Assumes nothing.
use Rattle.std.proofs.Common.{◌≡◌, drop, Some}
use Rattle.text.specs.Text.{is_text, text_after}
use Rattle.text.proofs.is_text.Given as goal

abbrev pub invariant-loop-b : goal.invariant-loop-b
invariant-loop-b l = is_text l.s ≡ text_after (Some l.w) (drop l.b-index l.s)
