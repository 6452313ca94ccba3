-- What the readers' answers say of the bytes that they were given.
use Rattle.std.specs.Prelude.{List, cond, ◌&&◌, ℕ, ◌-◌, length, eqb, leb, Option, None, Some, Result, Ok, Err}
use Rattle.wire.specs.Codec.{Read, whole, more, refused, after, Codec, byte, guard}
use Rattle.wire.specs.Number.{number}
use Rattle.wire.specs.Field.{limited}
use Rattle.wire.specs.Write.{part}
use Rattle.text.specs.Text.{is_text}
use Rattle.field.specs.declared.Span.{Span}
use Rattle.field.specs.declared.Kind.{Kind}
use Rattle.field.specs.declared.Kind.TheVariants.{VInt, VLong}
use Rattle.field.specs.declared.Cursor.{Cursor}
use Rattle.field.specs.declared.EntryVersion.{EntryVersion}
use Rattle.field.specs.declared.Second.{Second}
use Rattle.field.specs.declared.refusals.Refusal.{Refusal}
use Rattle.field.specs.Refusal.{number_of}

-- the kinds of number: the greatest last byte, the count of bytes before it, the refusal of a bad one
abbrev pub top_of : Kind → ℕ
top_of VInt = 0x0f
top_of VLong = 0x7f

abbrev pub most_of : Kind → ℕ
most_of VInt = 4
most_of VLong = 8

abbrev pub refusal_of : Kind → ℕ
refusal_of VInt = 5
refusal_of VLong = 2

abbrev pub greatest_of : Kind → ℕ
greatest_of VInt = 0xffff_ffff
greatest_of VLong = 0x7fff_ffff_ffff_ffff

-- vInt or vLong
abbrev pub codec_of : Kind → Codec ℕ
codec_of k = number (refusal_of k) (top_of k) (most_of k) 0

-- "Cache name and error text: well-formed UTF-8"; text that is not is 7
unfoldable pub limited_text : ℕ → Codec (List ℕ)
limited_text lim = guard is_text 7 (limited lim)

-- a byte between two bounds: another is refused
unfoldable pub between : (low high refusal : ℕ) → Codec ℕ
between low high refusal = guard (λ b. leb low b && leb b high) refusal byte

-- the bytes of a part: as many of them as there are
abbrev pub part_of : List ℕ → Span → List ℕ
part_of s p = part s p.start p.len

-- Where bytes that end at a place stand: "shown as the part of the caller's own bytes, not copied". No bytes, sent or not, stand nowhere.
abbrev pub nowhere : Span
nowhere = record { start = 0; len = 0 }

unfoldable pub span_to : List ℕ → ℕ → Span
span_to bs n = cond (eqb (length bs) 0) nowhere (record { start = n - length bs; len = length bs })

-- an answer of a reader that refuses nothing
abbrev pub as_whole : {A : Type 0} → Option (A × Cursor) → Read A
as_whole None = more
as_whole (Some p) = whole p.0 p.1.at

abbrev pub as_version : Option (EntryVersion × Cursor) → Read ℕ
as_version None = more
as_version (Some p) = whole p.0.0 p.1.at

abbrev pub as_second : Option (Second × Cursor) → Read ℕ
as_second None = more
as_second (Some p) = whole p.0.0 p.1.at

-- an answer of a reader, whose refusals have numbers
abbrev pub as_read_by : {A E : Type 0} → (E → ℕ) → Result (Option (A × Cursor)) E → Read A
as_read_by number (Ok None) = more
as_read_by number (Ok (Some p)) = whole p.0 p.1.at
as_read_by number (Err e) = refused (number e)

abbrev pub as_read : {A : Type 0} → Result (Option (A × Cursor)) Refusal → Read A
as_read r = as_read_by number_of r

-- what stops the reading of a field stops the reading of what it begins
abbrev pub stopped : {A B : Type 0} → Read A → Read B
stopped r = after r (λ a n. more)
