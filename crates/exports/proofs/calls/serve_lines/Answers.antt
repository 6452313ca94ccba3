-- `exports::calls::serve_lines` meets its contract. Assumes nothing.
use mathlib.Core.Path.{◌≡◌, refl, sym, ap, ◌∙◌}
use mathlib.Core.List.{List}
use mathlib.Core.Bool.{Bool, true, false}
use mir.Val.{bool_byte}
use Prim.Native.Nat.{ℕ}
use Rattle.std.specs.Prelude.{Result}
use Rattle.field.specs.declared.refusals.Refusal.{Refusal}
use Rattle.server.specs.declared.Fed.{Fed}
use Rattle.exports.specs.Calls.{bit, done_code, served_told}
use Rattle.exports.proofs.CodeLaws.{told_third}
use Rattle.exports.proofs.calls.serve_lines.Goals as goal

-- its answer, told
tells : (a : Result Fed Refusal) {b : Result Fed Refusal} → a ≡ b → (old new : List ℕ) → new ≡ served_told b old → new ≡ served_told a old
tells a e old new t = t ∙ sym (ap (λ (c : Result Fed Refusal). served_told c old) e)

-- a flag as a byte
byte-bit : (b : Bool) → bool_byte b ≡ bit b
byte-bit true = refl
byte-bit false = refl

pub returns-in-Ok : goal.returns-in-Ok
returns-in-Ok c =
    record { answer = _; serves = c.serve_lines.ensures; told = tells _ c.in-Ok.is _ _ (told_third _ _ _ (c.from-passing.ensures ∙ byte-bit _) c.numbers.ensures); code = sym (ap done_code c.in-Ok.is) }

pub returns-in-Err : goal.returns-in-Err
returns-in-Err c =
    record { answer = _; serves = c.serve_lines.ensures; told = tells _ c.in-Err.is _ _ refl; code = c.from.ensures ∙ sym (ap done_code c.in-Err.is) }
