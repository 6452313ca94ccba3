-- Entries that numbers name in bytes that are lent, and how many bytes they take.
use Rattle.std.specs.Prelude.{List, true, cond, ℕ, ◌+◌, ◌*◌, ◌/◌, length, get_or, None, Some}
use Rattle.std.specs.Prelude as rust
use Rattle.std.proofs.Math.Option.{Option, none, some}
use Rattle.wire.specs.Codec.{Codec, Valid, Bytes}
use Rattle.wire.specs.Upto.{upto}
use Rattle.field.specs.FieldRead.{part_of}
use Rattle.field.specs.declared.Span.{Span}
use Rattle.message.specs.Listing.{listing}

-- two numbers name a part: its start and its length
abbrev pub span_at : List ℕ → ℕ → Span
span_at numbers i = record { start = get_or numbers i 0; len = get_or numbers (i + 1) 0 }

-- four numbers name an entry: its key, and then its value
unfoldable pub entry_named : List ℕ → List ℕ → ℕ → List ℕ × List ℕ
entry_named bytes numbers i = (part_of bytes (span_at numbers (i * 4)), part_of bytes (span_at numbers (i * 4 + 2)))

-- the entries that numbers name; less than four at the end name none
unfoldable pub listed_in : List ℕ → List ℕ → List (List ℕ × List ℕ)
listed_in bytes numbers = upto (λ i. entry_named bytes numbers i) (length numbers / 4)

-- numbers that alone tell that the entries have a written form, with values, whatever the bytes are
abbrev pub Short : List ℕ → Type 0
Short numbers = (bytes : List ℕ) → Bytes bytes → Valid (listing true) (listed_in bytes numbers)

-- how many bytes a value takes that has a written form
unfoldable pub length_of : {A : Type 0} → Codec A → A → Option ℕ
length_of c a = cond (c.ok a) (some (length (c.enc a))) none

abbrev pub as_size : rust.Option ℕ → Option ℕ
as_size None = none
as_size (Some n) = some n
