-- The numbers of the refusals.
use Rattle.std.specs.Prelude.{ℕ}
use Rattle.field.specs.declared.refusals.Refusal.{Refusal}
use Rattle.field.specs.declared.refusals.Refusal.TheVariants as r

abbrev pub number_of : Refusal → ℕ
number_of r.Magic = 1
number_of r.MessageId = 2
number_of r.Version = 3
number_of r.Operation = 4
number_of r.Number = 5
number_of r.Length = 6
number_of r.Text = 7
number_of r.Field = 8
number_of r.Cache = 9
number_of r.Full = 10
number_of r.Versions = 11
number_of r.Room = 12
number_of r.Table = 13
number_of r.Message = 16
number_of r.File = 17
number_of r.Ends = 258
