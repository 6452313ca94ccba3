-- What the code's awaited replies stand for.
use Rattle.std.specs.Prelude.{ℕ, Result, Ok, Err}
use Rattle.message.specs.Request.{edition_at}
use Rattle.message.specs.Reply.{Awaited, known, refused}
use Rattle.message.specs.declared.Operation.{Operation}
use Rattle.field.specs.declared.refusals.Refusal.{Refusal}
use Rattle.field.specs.Refusal.{number_of}

-- of a version
abbrev pub as_awaited : ℕ → Result Operation Refusal → Awaited
as_awaited v (Ok o) = known (edition_at v) o
as_awaited v (Err k) = refused (number_of k)
