-- A reply (document 01, 'A reply'). Its format goes by what was asked.
use Rattle.std.specs.Prelude.{◌≡◌, List, Bool, true, false, cond, ◌&&◌, ◌||◌, ℕ, ◌+◌, eqb}
use Rattle.std.proofs.Math.Option.{Option, none, some}
use Rattle.wire.specs.Codec.{Codec, refuse, byte, guard, seq, as_type, all}
use Rattle.wire.specs.Number.{v_long}
use Rattle.field.specs.FieldRead.{part_of}
use Rattle.message.specs.declared.Operation.{Operation}
use Rattle.message.specs.declared.Operation.TheVariants.{Stats, BulkGet, BulkGetKeys}
use Rattle.message.specs.declared.Asked.{Asked}
use Rattle.message.specs.declared.ReplyHead.{ReplyHead}
use Rattle.message.specs.declared.Reply as code-reply
use Rattle.message.specs.Operation.{code_of, find_code}
use Rattle.message.specs.Edition.{Edition, edition_of}
use Rattle.message.specs.ReplyTable.{Body, table, error_code, errors, body_at, is_allowed, allowed}
use Rattle.message.specs.Payload.{Payload, payload, counted, bulk_payload, fields_of, form_of}

-- what was asked: the version, the operation's code, and whether flag 0x0001 was set
abbrev pub asked : ℕ → ℕ → Bool → Asked
asked version op flag = record { version = version; op = op; flag = flag }

-- a reply: a header and a payload
pub record Reply : Type 0 where
  pub id : ℕ
  pub op : ℕ
  pub status : ℕ
  pub payload : Payload

abbrev pub Fields : Type 0
Fields = ℕ × (ℕ × (ℕ × (ℕ × Payload)))

-- the fields in the order of the bytes: the operations that may come, and the statuses of each
unfoldable pub fields : (ℕ → Bool) → (ℕ → List (ℕ × Body)) → Bool → Codec (ℕ × Fields)
fields comes statuses flag =
    seq (guard (λ m. eqb m 0xa1) 1 byte) λ _.
    seq v_long λ _.
    seq (guard comes 4 byte) λ op.
    seq (guard (λ s. is_allowed (body_at s (statuses op))) 8 byte) λ status.
    seq (guard (λ m. eqb m 0) 8 byte) λ _. fields_of (form_of flag (allowed (body_at status (statuses op))))

abbrev pub to_reply : ℕ × Fields → Reply
to_reply p = let f = p.1 in record { id = f.0; op = f.1.0; status = f.1.1.0; payload = f.1.1.1.1 }

abbrev pub from_reply : Reply → ℕ × Fields
from_reply r = (0xa1, (r.id, (r.op, (r.status, (0, r.payload)))))

unfoldable pub message : (ℕ → Bool) → (ℕ → List (ℕ × Body)) → Bool → Codec Reply
message comes statuses flag = as_type all to_reply from_reply (fields comes statuses flag)

-- "The reply's code is the request's plus 1; 0x50 is the error reply." Another is 4.
abbrev pub is_awaited : Operation → ℕ → Bool
is_awaited o op = eqb op (code_of o + 1) || eqb op error_code

abbrev pub statuses_of : Bool → Operation → ℕ → List (ℕ × Body)
statuses_of with_old o op = cond (eqb op error_code) errors (table with_old o)

-- What reply is awaited, by what was asked: that to an operation in an edition, or none, by the refusal's number.
pub data Awaited : Type 0 where
  known : Edition → Operation → Awaited
  refused : ℕ → Awaited

-- A version that is not served "gives the reader 3 before all else"; "an operation not served gives the reader 4 before any byte is looked at", and so does one that
-- the edition does not have.
abbrev pub awaited_in : Option Edition → Option Operation → Awaited
awaited_in none o = refused 3
awaited_in (some e) none = refused 4
awaited_in (some e) (some o) = cond (e.serves o) (known e o) (refused 4)

unfoldable pub awaited : Asked → Awaited
awaited a = awaited_in (edition_of a.version) (find_code a.op)

-- the reply to the operation o in the edition e is awaited
pub record Awaits (a : Asked) (e : Edition) (o : Operation) : Type 0 where
  pub is : awaited a ≡ known e o

abbrev pub reply_to : Bool → Awaited → Codec Reply
reply_to flag (known e o) = message (is_awaited o) (statuses_of (e.old_statuses && flag) o) flag
reply_to flag (refused k) = refuse k

unfoldable pub reply : Asked → Codec Reply
reply a = reply_to a.flag (awaited a)

-- an error reply alone, which the server sends whatever was asked
unfoldable pub error_reply : Codec Reply
error_reply = message (λ op. eqb op error_code) (λ op. errors) false

-- the reply of a head, a value and a text
abbrev pub reply_of : ReplyHead → List ℕ → List ℕ → Reply
reply_of a v t = record { id = a.id; op = a.op; status = a.status; payload = payload a.entry.0 v t }

-- the reply that an answer tells: its numbers, the parts of the bytes, the statistics and the entries
abbrev pub reply_in : List ℕ → code-reply.Reply → List ℕ → List (List ℕ × List ℕ) → Reply
reply_in s r ns es =
    record {
      id = r.head.id;
      op = r.head.op;
      status = r.head.status;
      payload = record { entry_version = r.head.entry.0; value = part_of s r.value; text = part_of s r.text; statistics = ns; entries = es };
    }

-- the stats reply of an id and the nine
abbrev pub statistics_reply : ℕ → List ℕ → Reply
statistics_reply id ns = record { id = id; op = code_of Stats + 1; status = 0x00; payload = counted ns }

-- the operation of bulkGet, or of bulkGetKeys where values are not asked for
abbrev pub bulk_operation : Bool → Operation
bulk_operation true = BulkGet
bulk_operation false = BulkGetKeys

-- the reply of an id and the entries to one of them
abbrev pub bulk_reply : Bool → ℕ → List (List ℕ × List ℕ) → Reply
bulk_reply values id es = record { id = id; op = code_of (bulk_operation values) + 1; status = 0x00; payload = bulk_payload es }

-- the same to what was asked: with values where it is bulkGet
abbrev pub entries_reply : Asked → ℕ → List (List ℕ × List ℕ) → Reply
entries_reply a id es = bulk_reply (eqb a.op (code_of BulkGet)) id es

-- The greatest length of a reply to an operation: "No reply is longer than 279 bytes", but "a stats reply may pass 279 bytes and stays under 512", and the
-- replies to bulkGet and bulkGetKeys "may pass 279 bytes".
abbrev pub longest_reply : Operation → ℕ
longest_reply o =
    cond (eqb (code_of o) (code_of Stats)) 307
    (cond (eqb (code_of o) (code_of BulkGet)) 41_486 (cond (eqb (code_of o) (code_of BulkGetKeys)) 8_462 279))
