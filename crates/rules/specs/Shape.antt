-- What the code's shapes of arguments stand for.
use Rattle.message.specs.Arguments.{Shape, keyed, writes, writes_if, keyed_if, bare, bulk}
use Rattle.rules.specs.declared.Shape as code
use Rattle.rules.specs.declared.Shape.TheVariants as s

abbrev pub as_shape : code.Shape → Shape
as_shape s.Keyed = keyed
as_shape s.Writes = writes
as_shape s.WritesIf = writes_if
as_shape s.KeyedIf = keyed_if
as_shape s.Bare = bare
as_shape (s.Bulk most) = bulk most
