-- What the readers of a request's parts answer, for their contracts.
use Rattle.std.specs.Prelude.{List, Bool, true, false, cond, ℕ, ◌+◌, length, leb, Option, None, Some}
use Rattle.wire.specs.Codec.{Read, whole, guard, mapped, read_at}
use Rattle.wire.specs.Number.{v_int}
use Rattle.wire.specs.Field.{limited, entry_version}
use Rattle.field.specs.FieldRead.{limited_text, between, nowhere, span_to}
use Rattle.field.specs.declared.Span.{Span}
use Rattle.message.specs.declared.Request.{Request}
use Rattle.message.specs.Arguments.{Shape, keyed, writes, writes_if, keyed_if, bare, bulk, Args, name_limit, key_limit}
use Rattle.request_reader.specs.RequestRead as a
use Rattle.request_reader.specs.declared.Front.{Front}
use Rattle.request_reader.specs.declared.Options.{Options}
use Rattle.request_reader.specs.declared.Sends.{Sends}
use Rattle.request_reader.specs.declared.Args as code-args

-- the answers of parts that begin at a place and end at n
unfoldable pub options_at : ℕ → a.Options → ℕ → Options
options_at at x n =
    record {
      name = span_to x.0 (at + length ((limited_text name_limit).enc x.0));
      flags = x.1.0;
      intelligence = x.1.1.0;
      topology = x.1.1.1.0;
    }

abbrev pub args_with : Span → (lifespan idle entry : ℕ) → Span → (bulk : ℕ) → code-args.Args
args_with key l i e value b = record { key = key; lifespan = l; idle = i; entry = record { 0 = e }; value = value; bulk = b }

unfoldable pub args_at : ℕ → Args → ℕ → code-args.Args
args_at at x n =
    args_with (span_to x.key (at + length ((limited key_limit).enc x.key))) x.lifespan x.max_idle x.entry_version (span_to x.value n) x.bulk

abbrev pub together_of : Front → Options → code-args.Args → Request
together_of f o a =
    record {
      head = record {
        id = f.id;
        version = f.version;
        op = f.op;
        flags = o.flags;
        intelligence = o.intelligence;
        topology = o.topology;
        lifespan = a.lifespan;
        idle = a.idle;
        entry = a.entry;
        bulk = a.bulk;
      };
      name = o.name;
      key = a.key;
      value = a.value;
    }

-- which arguments each shape has
abbrev pub sends : (key write version : Bool) → Sends
sends k w v = record { key = k; write = w; version = v; bulk = None }

abbrev pub sends_of : Shape → Sends
sends_of keyed = sends true false false
sends_of writes = sends true true false
sends_of writes_if = sends true true true
sends_of keyed_if = sends true false true
sends_of bare = sends false false false
sends_of (bulk most) = record { key = false; write = false; version = false; bulk = Some most }

-- the transaction type, which is 0, where the edition has one
abbrev pub transaction_in : List ℕ → (has : Bool) → ℕ → Read ℕ
transaction_in s has at = cond has (read_at (between 0 0 8) s at) (whole 0 at)

-- an argument that is not sent takes no bytes, and is blank: a part that stands nowhere, or 0
abbrev pub part_in : List ℕ → (lim : ℕ) → (sent : Bool) → ℕ → Read Span
part_in s lim sent at = cond sent (mapped span_to (read_at (limited lim) s at)) (whole nowhere at)

abbrev pub int_in : List ℕ → (sent : Bool) → ℕ → Read ℕ
int_in s sent at = cond sent (read_at v_int s at) (whole 0 at)

abbrev pub entry_in : List ℕ → (sent : Bool) → ℕ → Read ℕ
entry_in s sent at = cond sent (read_at entry_version s at) (whole 0 at)

abbrev pub bulk_in : List ℕ → (most : Option ℕ) → ℕ → Read ℕ
bulk_in s None at = whole 0 at
bulk_in s (Some most) at = read_at (guard (λ n. leb n most) 8 v_int) s at
