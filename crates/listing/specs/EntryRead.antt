-- What the readers of a bulk reply's entries answer.
use Rattle.std.specs.Prelude.{List, ℕ, ◌+◌, length, Result, None, Some}
use Rattle.std.specs.Prelude as rust
use Rattle.std.proofs.Math.Option.{Option, none, some}
use Rattle.wire.specs.Codec.{Read, whole, after}
use Rattle.wire.specs.Field.{limited}
use Rattle.field.specs.FieldRead.{as_read, part_of, span_to}
use Rattle.field.specs.declared.Cursor.{Cursor}
use Rattle.field.specs.declared.Span.{Span}
use Rattle.field.specs.declared.refusals.Refusal.{Refusal}
use Rattle.message.specs.Arguments.{key_limit}
use Rattle.listing.specs.declared.Entry.{Entry}

-- an entry, and an entry or the end of the list
abbrev pub as_pair : Result (rust.Option (Entry × Cursor)) Refusal → Read (Span × Span)
as_pair r = after (as_read r) (λ x n. whole (x.key, x.value) n)

abbrev pub spans_of : rust.Option Entry → Option (Span × Span)
spans_of None = none
spans_of (Some x) = some (x.key, x.value)

abbrev pub as_entry : Result (rust.Option (rust.Option Entry × Cursor)) Refusal → Read (Option (Span × Span))
as_entry r = after (as_read r) (λ o n. whole (spans_of o) n)

-- where the key and the value of an entry stand, whose key's length stands at a place, and which ends at n
unfoldable pub pair_at : ℕ → List ℕ × List ℕ → ℕ → Span × Span
pair_at at p n = (span_to p.0 (at + length ((limited key_limit).enc p.0)), span_to p.1 n)

-- the same of an item, whose more byte stands at a place
unfoldable pub item_at : ℕ → Option (List ℕ × List ℕ) → ℕ → Option (Span × Span)
item_at at none n = none
item_at at (some p) n = some (pair_at (at + 1) p n)

-- the parts of the bytes that stand there
abbrev pub item_in : List ℕ → Option (Span × Span) → Option (List ℕ × List ℕ)
item_in s none = none
item_in s (some p) = some (part_of s p.0, part_of s p.1)
