-- A reply by its header and its body.
use Rattle.std.specs.Prelude.{List, [], Bool, false, cond, ℕ, ◌+◌, length, eqb, ltb, leb, Option, None, Some, Result, Ok, Err}
use Rattle.field.specs.declared.refusals.Refusal.{Refusal}
use Rattle.field.specs.declared.refusals.Refusal.TheVariants as r
use Rattle.wire.specs.Codec.{Codec, byte, guard, seq, as_type, all}
use Rattle.wire.specs.Number.{v_long}
use Rattle.wire.specs.Write.{Sent, kept, send}
use Rattle.message.specs.ReplyTable.{error_code}
use Rattle.message.specs.Payload.{Payload, payload, no_body}
use Rattle.message.specs.Reply.{Reply, to_reply, from_reply, is_awaited, Awaited, known, refused, awaited, entries_reply}
use Rattle.message.specs.declared.Asked.{Asked}
use Rattle.message.specs.declared.ReplyHead.{ReplyHead}

-- whether a reply with an operation is the one awaited
abbrev pub answers_to : ℕ → Awaited → Bool
answers_to op (known e o) = is_awaited o op
answers_to op (refused k) = false

-- the body of an answer, a value and a text
abbrev pub payload_of : ReplyHead → List ℕ → List ℕ → Payload
payload_of a v t = payload a.entry.0 v t

-- a reply whose operation and status were judged
unfoldable pub framed : Codec Payload → Codec Reply
framed c =
    as_type all to_reply from_reply
    (seq (guard (λ m. eqb m 0xa1) 1 byte) λ _.
    seq v_long λ _.
    seq byte λ _.
    seq byte λ _.
    seq (guard (λ m. eqb m 0) 8 byte) λ _. c)

-- an error reply of a status and a text
abbrev pub error_of : ℕ → ℕ → List ℕ → Reply
error_of id status text = record { id = id; op = error_code; status = status; payload = payload 0 [] text }

-- a header before no body
abbrev pub header_of : ℕ → ℕ → ℕ → Reply
header_of id op status = record { id = id; op = op; status = status; payload = payload 0 [] [] }

-- Whether a reply of an id can be written into so much room, before a body of so many bytes. "Writing: 16, then 12."
abbrev pub judged : ℕ → Option ℕ → ℕ → Result (Unit {0}) Refusal
judged id None room = Err r.Message
judged id (Some n) room =
    cond (ltb 0x7fff_ffff_ffff_ffff id) (Err r.Message) (cond (leb (4 + length (v_long.enc id) + n) room) (Ok tt) (Err r.Room))

-- The header of the reply to bulkGet or to bulkGetKeys, as a writer sends it into a buffer: nothing else that was asked has one.
abbrev pub sent_head : Asked → ℕ → List ℕ → Sent × List ℕ
sent_head a id old = cond (answers_to (entries_reply a id []).op (awaited a)) (send (framed no_body) (entries_reply a id []) old) (kept 16, old)
