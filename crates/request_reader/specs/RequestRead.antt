-- What the reader answers of a request: its numbers, and where its name, key and value stand in the bytes.
use Rattle.std.specs.Prelude.{List, ◌&&◌, ℕ, ◌+◌, length, leb, Option, None, Some, Result, Ok, Err}
use Rattle.wire.specs.Codec.{Read, whole, more, refused, Codec, byte, guard, seq, as_type, all}
use Rattle.wire.specs.Number.{v_int}
use Rattle.wire.specs.Field.{limited}
use Rattle.field.specs.FieldRead.{limited_text, span_to}
use Rattle.message.specs.declared.Head.{Head}
use Rattle.message.specs.declared.Request as code
use Rattle.message.specs.Arguments.{name_limit, key_limit}
use Rattle.message.specs.Request.{Request, operation, transaction, is_version, edition_at}
use Rattle.message.specs.Start.{start}
use Rattle.request_reader.specs.declared.Front.{Front}
use Rattle.field.specs.declared.refusals.Refusal.{Refusal}
use Rattle.field.specs.Refusal.{number_of}

abbrev pub as_request : Result (Option (code.Request × ℕ)) Refusal → Read code.Request
as_request (Ok None) = more
as_request (Ok (Some p)) = whole p.0 p.1
as_request (Err k) = refused (number_of k)

-- The fields of a request before its arguments, in two parts: up to the operation, ..
unfoldable pub front : Codec Front
front =
    as_type all (λ p. record { id = p.0; version = p.1.0; op = p.1.1 }) (λ f. (f.id, (f.version, f.op)))
    (seq start λ _. seq (guard is_version 3 byte) λ version. operation (edition_at version))

-- .. and from the name on
abbrev pub Options : Type 0
Options = List ℕ × (ℕ × (ℕ × (ℕ × Unit {0})))

unfoldable pub options : ℕ → Codec Options
options version =
    seq (limited_text name_limit) λ _.
    seq (guard (λ f. leb f (edition_at version).flags) 8 v_int) λ _.
    seq (guard (λ i. leb 1 i && leb i 3) 8 byte) λ _.
    seq v_int λ _. transaction (edition_at version).transaction

abbrev pub front_of : Request → Front
front_of m = record { id = m.id; version = m.version; op = m.op }

abbrev pub options_of : Request → Options
options_of m = (m.name, (m.flags, (m.intelligence, (m.topology, tt))))

-- where the name of a written request ends, and its key
abbrev pub name_end : Request → ℕ
name_end m = length (front.enc (front_of m)) + length ((limited_text name_limit).enc m.name)

abbrev pub key_end : Request → ℕ
key_end m =
    length (front.enc (front_of m)) + length ((options m.version).enc (options_of m)) + length ((limited key_limit).enc m.args.key)

abbrev pub head_of : Request → Head
head_of m =
    record {
      id = m.id;
      version = m.version;
      op = m.op;
      flags = m.flags;
      intelligence = m.intelligence;
      topology = m.topology;
      lifespan = m.args.lifespan;
      idle = m.args.max_idle;
      entry = record { 0 = m.args.entry_version };
      bulk = m.args.bulk;
    }

-- the answer of a request of n bytes: a value that is sent ends it
unfoldable pub request_at : Request → ℕ → code.Request
request_at m n =
    record {
      head = head_of m;
      name = span_to m.name (name_end m);
      key = span_to m.args.key (key_end m);
      value = span_to m.args.value n;
    }
