-- The bytes of a reply, in pieces: those of a value are told apart, with the entry whose value it is.
use Rattle.std.specs.Prelude.{List, [], ◌∷◌, ◌++◌, map, Bool, true, false, cond, ℕ, ◌+◌, length}
use Rattle.wire.specs.Number.{v_int, v_long}
use Rattle.wire.specs.Field.{entry_version, limited}
use Rattle.statistics.specs.Statistics as stats
use Rattle.message.specs.Operation.{code_of}
use Rattle.message.specs.Arguments.{key_limit}
use Rattle.message.specs.Request.{Request}
use Rattle.message.specs.Payload.{Payload}
use Rattle.message.specs.Reply as message
use Rattle.message.specs.declared.Asked.{Asked}
use Rattle.message.specs.Reply.{asked}
use Rattle.map.specs.State.{Entry}
use Rattle.map.specs.Shown.{Shown, nothing, no_value, value, versioned, counted, listed}
use Rattle.map.specs.Step.{Result, wants_old}

-- what was asked by a request
abbrev pub asked_by : Request → Asked
asked_by r = asked r.version (code_of r.op) (wants_old r)

abbrev pub version_in : Shown → ℕ
version_in nothing = 0
version_in no_value = 0
version_in (value e) = 0
version_in (versioned e) = e.version
version_in (counted ns) = 0
version_in (listed values es) = 0

abbrev pub value_of : Shown → List ℕ
value_of nothing = []
value_of no_value = []
value_of (value e) = e.value
value_of (versioned e) = e.value
value_of (counted ns) = []
value_of (listed values es) = []

abbrev pub numbers_of : Shown → List ℕ
numbers_of nothing = []
numbers_of no_value = []
numbers_of (value e) = []
numbers_of (versioned e) = []
numbers_of (counted ns) = ns
numbers_of (listed values es) = []

-- key and value of an entry, or the key alone
abbrev pub pair_of : Bool → Entry → List ℕ × List ℕ
pair_of values e = (e.key, cond values e.value [])

abbrev pub entries_of : Shown → List (List ℕ × List ℕ)
entries_of nothing = []
entries_of no_value = []
entries_of (value e) = []
entries_of (versioned e) = []
entries_of (counted ns) = []
entries_of (listed values es) = map (pair_of values) es

-- what a reply carries
abbrev pub payload_of : Shown → Payload
payload_of s = record { entry_version = version_in s; value = value_of s; text = []; statistics = numbers_of s; entries = entries_of s }

-- the reply to a request
abbrev pub reply_to : Request → Result → message.Reply
reply_to r a =
    record { id = r.id; op = code_of r.op + 1; status = a.status; payload = payload_of a.shown }

pub data Piece : Type 0 where
  fixed : List ℕ → Piece
  of_entry : Entry → Piece

abbrev pub bytes : Piece → List ℕ
bytes (fixed s) = s
bytes (of_entry e) = e.value

unfoldable pub flat : List Piece → List ℕ
flat [] = []
flat (p ∷ ps) = bytes p ++ flat ps

-- a value behind its length
abbrev pub sized : Entry → List Piece
sized e = fixed (v_int.enc (length e.value)) ∷ of_entry e ∷ []

-- an entry of a list: "a byte 1 before each entry", its key behind its length, and its value if values are asked for
abbrev pub item_pieces : Bool → Entry → List Piece
item_pieces true e = fixed (1 ∷ (limited key_limit).enc e.key) ∷ sized e
item_pieces false e = fixed (1 ∷ (limited key_limit).enc e.key) ∷ []

-- "and a byte 0 at the end"
unfoldable pub list_pieces : Bool → List Entry → List Piece
list_pieces values [] = fixed (0 ∷ []) ∷ []
list_pieces values (e ∷ es) = item_pieces values e ++ list_pieces values es

unfoldable pub shown_pieces : Shown → List Piece
shown_pieces nothing = []
shown_pieces no_value = fixed (0 ∷ []) ∷ []
shown_pieces (value e) = sized e
shown_pieces (versioned e) = fixed (entry_version.enc e.version) ∷ sized e
shown_pieces (counted ns) = fixed ((stats.statistics).enc ns) ∷ []
shown_pieces (listed values es) = list_pieces values es

-- magic, message id, operation, status and marker, and what is shown: the law `pieces-reply` says that these are the bytes of `reply_to`
unfoldable pub pieces : Request → Result → List Piece
pieces r a = fixed (0xa1 ∷ v_long.enc r.id ++ ((code_of r.op + 1) ∷ a.status ∷ 0 ∷ [])) ∷ shown_pieces a.shown
