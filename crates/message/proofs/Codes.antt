-- What one who looks for an operation by its code answers. Assumes nothing.
use mathlib.Core.Path.{◌≡◌, refl}
use mathlib.Core.Option.{Option, none, some}
use Rattle.std.specs.Prelude.{Ok, Err}
use Rattle.field.specs.declared.refusals.Refusal.{Refusal}
use Rattle.field.specs.declared.refusals.Refusal.TheVariants as r
use Rattle.message.specs.declared.Operation.{Operation}
use Rattle.message.specs.Operation.{found_by}
use Rattle.std.proofs.Common.{rules}

pub found-some : (f : Option Operation) (o : Operation) → Ok o ≡ found_by f → f ≡ some o
found-some none o e = search rules
found-some (some q) o e = search rules

pub found-none : (f : Option Operation) (k : Refusal) → Err k ≡ found_by f → (f ≡ none) × (k ≡ r.Operation)
found-none none k e = (refl, search rules)
found-none (some q) k e = search rules
