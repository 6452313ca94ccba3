-- The reply table: which statuses an operation can give, and what a reply carries with each (document 01, 'A reply').
use Rattle.std.specs.Prelude.{List, [], ◌∷◌, Bool, true, false, cond, ◌&&◌, ◌||◌, ℕ, eqb}
use Rattle.std.proofs.Math.Option.{Option, none, some}
use Rattle.message.specs.declared.Operation.{Operation}
use Rattle.message.specs.declared.Operation.TheVariants.{Put, Get, PutIfAbsent, Replace, ReplaceIfUnmodified, Remove, RemoveIfUnmodified, ContainsKey, GetWithVersion, Clear, Stats, Ping, BulkGet, BulkGetKeys}

-- what a reply carries behind its marker
pub data Body : Type 0 where
  -- nothing
  nothing : Body
  -- the value held before the call, if flag 0x0001 was set
  old : Body
  -- length 0, if flag 0x0001 was set
  old_none : Body
  -- a value
  value : Body
  -- an entry version and a value
  versioned : Body
  -- the text of an error
  text : Body
  -- the nine statistics
  statistics : Body
  -- entries, each a key and a value
  entries : Body
  -- entries, each a key alone
  keys : Body

-- The reply table: the statuses that an operation can give, and what follows each. "Where the status says that the key was absent, and at 01 of
-- the IfUnmodified operations, an old value has length 0." withOld: the edition has the statuses 03 and 04, and flag 0x0001 was set: "There flag
-- 0x0001, at the operations with an old value and where the key was held, turns 00 into 03 and 01 into 04; the value held before, length first, follows 03
-- and 04 and no other status of these."
abbrev pub table : (with_old : Bool) → Operation → List (ℕ × Body)
table with_old Put = cond with_old ((0x00, nothing) ∷ (0x03, value) ∷ []) ((0x00, old) ∷ [])
table with_old PutIfAbsent = cond with_old ((0x00, nothing) ∷ (0x04, value) ∷ []) ((0x00, old_none) ∷ (0x01, old) ∷ [])
table with_old Replace = cond with_old ((0x03, value) ∷ (0x01, nothing) ∷ []) ((0x00, old) ∷ (0x01, old_none) ∷ [])
table with_old ReplaceIfUnmodified =
    cond with_old ((0x03, value) ∷ (0x04, value) ∷ (0x02, nothing) ∷ []) ((0x00, old) ∷ (0x01, old_none) ∷ (0x02, old_none) ∷ [])
table with_old Remove = cond with_old ((0x03, value) ∷ (0x02, nothing) ∷ []) ((0x00, old) ∷ (0x02, old_none) ∷ [])
table with_old RemoveIfUnmodified =
    cond with_old ((0x03, value) ∷ (0x04, value) ∷ (0x02, nothing) ∷ []) ((0x00, old) ∷ (0x01, old_none) ∷ (0x02, old_none) ∷ [])
table with_old Get = (0x00, value) ∷ (0x02, nothing) ∷ []
table with_old GetWithVersion = (0x00, versioned) ∷ (0x02, nothing) ∷ []
table with_old ContainsKey = (0x00, nothing) ∷ (0x02, nothing) ∷ []
table with_old Clear = (0x00, nothing) ∷ []
table with_old Stats = (0x00, statistics) ∷ []
table with_old Ping = (0x00, nothing) ∷ []
table with_old BulkGet = (0x00, entries) ∷ []
table with_old BulkGetKeys = (0x00, keys) ∷ []

-- "the operations with an old value": those at which the table has one where the status does not say whether it follows
abbrev is_old : Body → Bool
is_old nothing = false
is_old old = true
is_old old_none = true
is_old value = false
is_old versioned = false
is_old text = false
is_old statistics = false
is_old entries = false
is_old keys = false

abbrev any_old : List (ℕ × Body) → Bool
any_old [] = false
any_old (r ∷ rs) = is_old r.1 || any_old rs

abbrev pub has_old : Operation → Bool
has_old o = any_old (table false o)

-- "turns 00 into 03 and 01 into 04"
abbrev pub status_with_old : ℕ → ℕ
status_with_old s = cond (eqb s 0x00) 0x03 (cond (eqb s 0x01) 0x04 s)

-- the status of a reply, of the planned one, by whether the key was held
unfoldable pub reply_status : (with_old : Bool) → Operation → (held : Bool) → ℕ → ℕ
reply_status with_old o held s = cond (has_old o && (with_old && held)) (status_with_old s) s

-- "An error reply has operation 0x50, status 0x81 to 0x86, then text length and text."
abbrev pub error_code : ℕ
error_code = 0x50

abbrev pub errors : List (ℕ × Body)
errors = (0x81, text) ∷ (0x82, text) ∷ (0x83, text) ∷ (0x84, text) ∷ (0x85, text) ∷ (0x86, text) ∷ []

unfoldable pub body_at : ℕ → List (ℕ × Body) → Option Body
body_at s [] = none
body_at s (r ∷ rs) = cond (eqb s r.0) (some r.1) (body_at s rs)

abbrev pub is_allowed : Option Body → Bool
is_allowed none = false
is_allowed (some b) = true

-- the body of a status that is allowed; of another, any
abbrev pub allowed : Option Body → Body
allowed none = nothing
allowed (some b) = b
