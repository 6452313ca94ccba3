-- The numbers by which the exported readers and writers know a message.
use Rattle.std.specs.Prelude.{List, [], ◌∷◌, Bool, false, cond, ◌&&◌, ℕ, ◌+◌, ◌≤◌, length, drop, get_or, eqb, leb}
use Rattle.std.proofs.Math.Option.{Option, none, some}
use Rattle.wire.specs.Codec.{Read, mapped}
use Rattle.wire.specs.Listed.{item}
use Rattle.wire.specs.Write.{Sent, kept, send}
use Rattle.field.specs.declared.Span.{Span}
use Rattle.message.specs.declared.Operation.{Operation}
use Rattle.message.specs.declared.Head.{Head}
use Rattle.message.specs.declared.Asked.{Asked}
use Rattle.message.specs.declared.ReplyHead.{ReplyHead}
use Rattle.message.specs.declared.Request as code
use Rattle.message.specs.Operation.{code_of, find_code}
use Rattle.message.specs.Request.{request, request_of}
use Rattle.message.specs.Reply.{asked, reply, reply_of, statistics_reply, bulk_operation, bulk_reply}
use Rattle.message.specs.Listing.{item_of}
use Rattle.listing.specs.EntryRead.{item_at}
use Rattle.listing.specs.EntryWrite.{listed_in}
use Rattle.reply_reader.specs.ReplyRead.{Answer}

-- the count of bytes of a request that was read, its numbers, and where its name, key and value stand
abbrev pub whole_request : code.Request → ℕ → List ℕ
whole_request q n =
    n ∷ q.head.id ∷ q.head.version ∷ code_of q.head.op ∷ q.head.flags ∷ q.head.intelligence ∷ q.head.topology ∷ q.head.lifespan
    ∷ q.head.idle ∷ q.head.entry.0 ∷ q.head.bulk ∷ q.name.start ∷ q.name.len ∷ q.key.start ∷ q.key.len ∷ q.value.start ∷ q.value.len ∷ []

-- the same of a reply, where its value and text stand, its statistics, which are 0 where it is no stats reply, and how many entries it has and where they
-- stand, 0 where it is no bulk reply
abbrev pub whole_reply : Answer → ℕ → List ℕ
whole_reply a n =
    let q = a.0 in
    let x = a.1.0 in
    let e = a.1.1 in
    n ∷ q.head.id ∷ q.head.op ∷ q.head.status ∷ q.head.entry.0 ∷ q.value.start ∷ q.value.len ∷ q.text.start ∷ q.text.len
    ∷ get_or x 0 0 ∷ get_or x 1 0 ∷ get_or x 2 0 ∷ get_or x 3 0 ∷ get_or x 4 0 ∷ get_or x 5 0 ∷ get_or x 6 0 ∷ get_or x 7 0 ∷ get_or x 8 0
    ∷ e.count ∷ e.part.start ∷ e.part.len ∷ []

-- the count of bytes of an entry of a bulk reply, or of the end of its entries; 1 for an entry or 0 at the end; and where its key and its value stand
abbrev pub whole_entry : Option (Span × Span) → ℕ → List ℕ
whole_entry none n = n ∷ 0 ∷ 0 ∷ 0 ∷ 0 ∷ 0 ∷ []
whole_entry (some p) n = n ∷ 1 ∷ p.0.start ∷ p.0.len ∷ p.1.start ∷ p.1.len ∷ []

-- what the bytes from a place on begin with, an entry or the end, and where in all the bytes it stands
unfoldable pub entry_from : Bool → List ℕ → ℕ → Read (Option (Span × Span))
entry_from values s at = mapped (λ x n. item_at at x (at + n)) ((item (item_of values)).dec (drop at s))

-- the numbers of a request to be written: too few, one that does not fit its field, or a code that is not served are none of a request
abbrev pub head_with : List ℕ → Operation → Head
head_with ns o =
    record {
      id = get_or ns 0 0;
      version = get_or ns 1 0;
      op = o;
      flags = get_or ns 3 0;
      intelligence = get_or ns 4 0;
      topology = get_or ns 5 0;
      lifespan = get_or ns 6 0;
      idle = get_or ns 7 0;
      entry = record { 0 = get_or ns 8 0 };
      bulk = get_or ns 9 0;
    }

abbrev pub is_head : List ℕ → Bool
is_head ns = leb 10 (length ns) && (leb (get_or ns 1 0) 255 && (leb (get_or ns 2 0) 255 && leb (get_or ns 4 0) 255))

pub record HeadFits (ns : List ℕ) : Type 0 where
  pub long : 10 ≤ length ns
  pub version : get_or ns 1 0 ≤ 255
  pub op : get_or ns 2 0 ≤ 255
  pub intelligence : get_or ns 4 0 ≤ 255

-- "16 | writing: message breaks a rule above"
abbrev pub send_head : List ℕ → Option Operation → List ℕ → List ℕ → List ℕ → List ℕ → Sent × List ℕ
send_head ns none name key value old = (kept 16, old)
send_head ns (some o) name key value old = send request (request_of (head_with ns o) name key value) old

unfoldable pub send_request : List ℕ → List ℕ → List ℕ → List ℕ → List ℕ → Sent × List ℕ
send_request ns name key value old = cond (is_head ns) (send_head ns (find_code (get_or ns 2 0)) name key value old) (kept 16, old)

-- the same of a reply
abbrev pub reply_head_with : List ℕ → ReplyHead
reply_head_with ns = record { id = get_or ns 0 0; op = get_or ns 1 0; status = get_or ns 2 0; entry = record { 0 = get_or ns 3 0 } }

abbrev pub is_reply_head : List ℕ → Bool
is_reply_head ns = leb 4 (length ns) && (leb (get_or ns 1 0) 255 && leb (get_or ns 2 0) 255)

pub record ReplyHeadFits (ns : List ℕ) : Type 0 where
  pub long : 4 ≤ length ns
  pub op : get_or ns 1 0 ≤ 255
  pub status : get_or ns 2 0 ≤ 255

unfoldable pub send_reply : Asked → List ℕ → List ℕ → List ℕ → List ℕ → Sent × List ℕ
send_reply a ns value text old = cond (is_reply_head ns) (send (reply a) (reply_of (reply_head_with ns) value text) old) (kept 16, old)

-- the nine of a stats reply: a list of another length is none of them
unfoldable pub send_statistics : ℕ → ℕ → List ℕ → List ℕ → Sent × List ℕ
send_statistics version id ns old = cond (eqb (length ns) 9) (send (reply (asked version 0x15 false)) (statistics_reply id ns) old) (kept 16, old)

-- the entries of a bulk reply, which numbers name in bytes that are lent, four for each
unfoldable pub send_entries : ℕ → Bool → ℕ → List ℕ → List ℕ → List ℕ → Sent × List ℕ
send_entries version values id bytes ns old = send (reply (asked version (code_of (bulk_operation values)) false)) (bulk_reply values id (listed_in bytes ns)) old
