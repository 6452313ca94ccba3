-- What the code's bodies stand for.
use Rattle.std.specs.Prelude as std
use Rattle.std.specs.Prelude.{List, [], ◌∷◌, ℕ}
use Rattle.std.proofs.Math.Option.{Option, none, some}
use Rattle.message.specs.ReplyTable as m
use Rattle.rules.specs.declared.Body.{Body}
use Rattle.rules.specs.declared.Body.TheVariants as b

abbrev pub as_body : Body → m.Body
as_body b.Nothing = m.nothing
as_body b.Old = m.old
as_body b.OldNone = m.old_none
as_body b.Value = m.value
as_body b.Versioned = m.versioned
as_body b.Text = m.text
as_body b.Statistics = m.statistics
as_body b.Entries = m.entries
as_body b.Keys = m.keys

-- a body of the reply table, or none where the status is not allowed
abbrev pub as_allowed : std.Option Body → Option m.Body
as_allowed std.None = none
as_allowed (std.Some b) = some (as_body b)

-- rows of the reply table
abbrev pub as_rows : List (ℕ × Body) → List (ℕ × m.Body)
as_rows [] = []
as_rows (r ∷ rs) = (r.0, as_body r.1) ∷ as_rows rs
