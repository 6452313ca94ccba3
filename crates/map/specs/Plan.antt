-- What a request is going to do: the status of its reply, and what becomes of the entries (document 01, 'A reply').
use Rattle.std.specs.Prelude.{cond, ℕ, eqb}
use Rattle.std.proofs.Math.Option.{Option, none, some}
use Rattle.message.specs.declared.Operation.{Operation}
use Rattle.message.specs.declared.Operation.TheVariants.{Put, Get, PutIfAbsent, Replace, ReplaceIfUnmodified, Remove, RemoveIfUnmodified, ContainsKey, GetWithVersion, Clear, Stats, Ping, BulkGet, BulkGetKeys}

-- what becomes of the entries
pub data Change : Type 0 where
  keep store drop empty : Change

pub record Plan : Type 0 where
  pub status : ℕ
  pub change : Change

unfoldable pub plans : ℕ → Change → Plan
plans s c = record { status = s; change = c }

-- one plan where an entry has the key, and another where none has: a plan goes by the version held, if one is
abbrev pub if_held : Option ℕ → Plan → Plan → Plan
if_held none present absent = absent
if_held (some w) present absent = present

-- the change where the version held is the one asked for, and what is answered where it is another, or none is held
abbrev pub if_same : Option ℕ → ℕ → Change → Plan
if_same none v change = plans 0x02 keep
if_same (some w) v change = cond (eqb w v) (plans 0x00 change) (plans 0x01 keep)

-- The reply table's status and condition: by the operation, the version asked for, and the version of the entry that has the key.
unfoldable pub plan : Operation → ℕ → Option ℕ → Plan
plan Put v h = plans 0x00 store
plan PutIfAbsent v h = if_held h (plans 0x01 keep) (plans 0x00 store)
plan Replace v h = if_held h (plans 0x00 store) (plans 0x01 keep)
plan ReplaceIfUnmodified v h = if_same h v store
plan Remove v h = if_held h (plans 0x00 drop) (plans 0x02 keep)
plan RemoveIfUnmodified v h = if_same h v drop
plan Get v h = if_held h (plans 0x00 keep) (plans 0x02 keep)
plan GetWithVersion v h = if_held h (plans 0x00 keep) (plans 0x02 keep)
plan ContainsKey v h = if_held h (plans 0x00 keep) (plans 0x02 keep)
plan Clear v h = plans 0x00 empty
plan Stats v h = plans 0x00 keep
plan Ping v h = plans 0x00 keep
plan BulkGet v h = plans 0x00 keep
plan BulkGetKeys v h = plans 0x00 keep
