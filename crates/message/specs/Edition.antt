-- What goes by the protocol version.
use Rattle.std.specs.Prelude.{Bool, true, false, cond, not, ℕ, eqb}
use Rattle.std.proofs.Math.Option.{Option, none, some}
use Rattle.message.specs.declared.Operation.{Operation}
use Rattle.message.specs.declared.Operation.TheVariants.{BulkGetKeys}
use Rattle.message.specs.Operation.{code_of}

pub record Edition : Type 0 where
  -- the greatest flags
  pub flags : ℕ
  -- whether the header ends with a transaction type, which is 0
  pub transaction : Bool
  -- the operations that it has
  pub serves : Operation → Bool
  -- whether it has the statuses 03 and 04, which say that an old value follows
  pub old_statuses : Bool

abbrev edition : ℕ → (Operation → Bool) → Edition
edition n s = record { flags = n; transaction = true; serves = s; old_statuses = false }

-- "The request header has no transaction type or id; flags are 0 to 31"
abbrev pub twenty : Edition
twenty = record { flags = 31; transaction = false; serves = λ o. true; old_statuses = true }

-- "bulkGetKeys (0x1D) from 12 on": every other operation is in all served versions
abbrev pub early : Operation → Bool
early o = not (eqb (code_of o) (code_of BulkGetKeys))

-- "Served versions: 10, 11, 12"; "flags: 0 or 1 in versions 10 and 11, 0 to 7 in 12"; "Serve version 20 beside the others"
unfoldable pub edition_of : ℕ → Option Edition
edition_of v =
    cond (eqb v 10) (some (edition 1 early))
    (cond (eqb v 11) (some (edition 1 early)) (cond (eqb v 12) (some (edition 7 (λ o. true))) (cond (eqb v 20) (some twenty) none)))

abbrev pub is_served : Option Edition → Bool
is_served none = false
is_served (some e) = true

-- the edition of a version; of a version that is not served, any
abbrev pub served : Option Edition → Edition
served none = edition 0 (λ o. true)
served (some e) = e
