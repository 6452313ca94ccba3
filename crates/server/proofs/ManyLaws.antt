-- What `serve_many` gives where it is refused. Assumes nothing.
use mathlib.Core.Path.{◌≡◌, refl}
use mathlib.Core.List.{List}
use Prim.Native.Nat.{ℕ}
use Rattle.std.proofs.Math.Option.{some}
use Rattle.map.specs.Step.{Context}
use Rattle.service.proofs.Decides.{is_sound}
use Rattle.service.proofs.Sounds.{tells-sound}
use Rattle.std.specs.Prelude as std
use Rattle.field.specs.declared.refusals.Refusal.{Refusal}
use Rattle.server.specs.Gives.{refusal_of, ServesMany}

-- nothing is done, whether the memory is a table or not
pub stopped : (c : Context) (row ends table lent old : List ℕ) {k : Refusal} → refusal_of row ends lent old (is_sound table) ≡ some k
    → ServesMany c row ends table lent old (std.Err k) lent table old
stopped c row ends table lent old e =
    record { ok = is_sound table; tells = tells-sound table; gives = rw e (record { answer = refl; buffer = refl; left = refl; told = refl }) }
