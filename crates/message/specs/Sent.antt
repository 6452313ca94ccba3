-- What a writer's answer says.
use Rattle.std.specs.Prelude.{ℕ, Result, Ok, Err}
use Rattle.wire.specs.Write as wire
use Rattle.field.specs.declared.refusals.Refusal.{Refusal}
use Rattle.field.specs.Refusal.{number_of}

abbrev pub as_sent : Result ℕ Refusal → wire.Sent
as_sent (Ok n) = wire.written n
as_sent (Err k) = wire.kept (number_of k)
