-- A request, field by field (document 01, 'A request, field by field').
use Rattle.std.specs.Prelude.{List, Bool, true, false, ◌&&◌, ℕ, eqb, leb}
use Rattle.wire.specs.Codec.{Codec, empty, byte, guard, seq, as_type, all}
use Rattle.wire.specs.Number.{v_int, v_long}
use Rattle.field.specs.FieldRead.{part_of, limited_text}
use Rattle.message.specs.declared.Operation.{Operation}
use Rattle.message.specs.declared.Head.{Head}
use Rattle.message.specs.declared.Request as code
use Rattle.message.specs.Operation.{code_of, find_code, is_known, known}
use Rattle.message.specs.Edition.{Edition, edition_of, is_served, served}
use Rattle.message.specs.Arguments.{name_limit, Args, args, shape_of, args_of}

pub record Request : Type 0 where
  pub id : ℕ
  pub version : ℕ
  pub op : Operation
  pub name : List ℕ
  pub flags : ℕ
  pub intelligence : ℕ
  pub topology : ℕ
  pub args : Args

-- an operation's byte: another code, or one that the edition does not have, is 4
abbrev pub op_fits : Edition → ℕ → Bool
op_fits e n = is_known (find_code n) && e.serves (known (find_code n))

unfoldable pub operation : Edition → Codec Operation
operation e = as_type all (λ n. known (find_code n)) code_of (guard (op_fits e) 4 byte)

-- the transaction type, where the edition has one
unfoldable pub transaction : Bool → Codec (Unit {0})
transaction true = as_type all (λ n. tt) (λ u. 0) (guard (λ n. eqb n 0) 8 byte)
transaction false = empty

-- the fields in the order of the bytes, behind the magic
abbrev pub Fields : Type 0
Fields = ℕ × (ℕ × (Operation × (List ℕ × (ℕ × (ℕ × (ℕ × (Unit {0} × Args)))))))

abbrev pub is_version : ℕ → Bool
is_version v = is_served (edition_of v)

abbrev pub edition_at : ℕ → Edition
edition_at v = served (edition_of v)

unfoldable pub fields : Codec (ℕ × Fields)
fields =
    seq (guard (λ m. eqb m 0xa0) 1 byte) λ _.
    seq v_long λ _.
    seq (guard is_version 3 byte) λ version.
    seq (operation (edition_at version)) λ op.
    seq (limited_text name_limit) λ _.
    seq (guard (λ f. leb f (edition_at version).flags) 8 v_int) λ _.
    seq (guard (λ i. leb 1 i && leb i 3) 8 byte) λ _.
    seq v_int λ _.
    seq (transaction (edition_at version).transaction) λ _. args_of (shape_of op)

abbrev pub to_request : ℕ × Fields → Request
to_request p =
    let f = p.1 in
    record {
      id = f.0;
      version = f.1.0;
      op = f.1.1.0;
      name = f.1.1.1.0;
      flags = f.1.1.1.1.0;
      intelligence = f.1.1.1.1.1.0;
      topology = f.1.1.1.1.1.1.0;
      args = f.1.1.1.1.1.1.1.1;
    }

abbrev pub from_request : Request → ℕ × Fields
from_request r = (0xa0, (r.id, (r.version, (r.op, (r.name, (r.flags, (r.intelligence, (r.topology, (tt, r.args)))))))))

unfoldable pub request : Codec Request
request = as_type all to_request from_request fields

-- the request of a head, a name, a key and a value
abbrev pub request_of : Head → List ℕ → List ℕ → List ℕ → Request
request_of h name key value =
    record {
      id = h.id;
      version = h.version;
      op = h.op;
      name = name;
      flags = h.flags;
      intelligence = h.intelligence;
      topology = h.topology;
      args = args key h.lifespan h.idle h.entry.0 h.bulk value;
    }

-- the request that an answer of the reader stands for, over the bytes that it was read from
abbrev pub request_in : List ℕ → code.Request → Request
request_in s r = request_of r.head (part_of s r.name) (part_of s r.key) (part_of s r.value)
