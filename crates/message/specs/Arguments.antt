-- The arguments of a request, by its operation (document 01, 'A request, field by field').
use Rattle.std.specs.Prelude.{List, [], Bool, ◌&&◌, ℕ, length, eqb, leb}
use Rattle.wire.specs.Codec.{Codec, empty, guard, seq, as_type}
use Rattle.wire.specs.Number.{v_int}
use Rattle.wire.specs.Field.{entry_version, limited}
use Rattle.message.specs.declared.Operation.{Operation}
use Rattle.message.specs.declared.Operation.TheVariants.{Put, Get, PutIfAbsent, Replace, ReplaceIfUnmodified, Remove, RemoveIfUnmodified, ContainsKey, GetWithVersion, Clear, Stats, Ping, BulkGet, BulkGetKeys}

-- "Largest sizes"
abbrev pub name_limit : ℕ
name_limit = 32

abbrev pub key_limit : ℕ
key_limit = 64

abbrev pub value_limit : ℕ
value_limit = 256

-- which arguments an operation is sent
pub data Shape : Type 0 where
  keyed writes writes_if keyed_if bare : Shape
  -- a number, up to a greatest one
  bulk : ℕ → Shape

unfoldable pub shape_of : Operation → Shape
shape_of Put = writes
shape_of Get = keyed
shape_of PutIfAbsent = writes
shape_of Replace = writes
shape_of ReplaceIfUnmodified = writes_if
shape_of Remove = keyed
shape_of RemoveIfUnmodified = keyed_if
shape_of ContainsKey = keyed
shape_of GetWithVersion = keyed
shape_of Clear = bare
shape_of Stats = bare
shape_of Ping = bare
-- "bulkGet asks for a number of entries, 0 for all; bulkGetKeys for a scope 0, 1 or 2 (both vInts)"
shape_of BulkGet = bulk 4_294_967_295
shape_of BulkGetKeys = bulk 2

-- the arguments; one that is not sent is 0 or empty
pub record Args : Type 0 where
  pub key : List ℕ
  pub lifespan : ℕ
  pub max_idle : ℕ
  pub entry_version : ℕ
  -- the number of entries that bulkGet asks for, or the scope of bulkGetKeys
  pub bulk : ℕ
  pub value : List ℕ

abbrev pub args : List ℕ → ℕ → ℕ → ℕ → ℕ → List ℕ → Args
args k l m e b v = record { key = k; lifespan = l; max_idle = m; entry_version = e; bulk = b; value = v }

abbrev pub is_empty : List ℕ → Bool
is_empty s = eqb (length s) 0

-- the tests that what is not sent is 0 or empty
abbrev pub no_times : Args → Bool
no_times a = eqb a.lifespan 0 && eqb a.max_idle 0

abbrev pub no_entry_version : Args → Bool
no_entry_version a = eqb a.entry_version 0

abbrev pub no_bulk : Args → Bool
no_bulk a = eqb a.bulk 0

abbrev pub no_value : Args → Bool
no_value a = is_empty a.value

-- "Then: ..", by shape
unfoldable pub args_of : Shape → Codec Args
args_of keyed = as_type (λ a. no_times a && (no_entry_version a && (no_bulk a && no_value a))) (λ k. args k 0 0 0 0 []) (λ a. a.key) (limited key_limit)
args_of writes =
    as_type (λ a. no_entry_version a && no_bulk a) (λ p. args p.0 p.1.0 p.1.1.0 0 0 p.1.1.1) (λ a. (a.key, (a.lifespan, (a.max_idle, a.value))))
    (seq (limited key_limit) λ _. seq v_int λ _. seq v_int λ _. limited value_limit)
args_of writes_if =
    as_type no_bulk (λ p. args p.0 p.1.0 p.1.1.0 p.1.1.1.0 0 p.1.1.1.1)
    (λ a. (a.key, (a.lifespan, (a.max_idle, (a.entry_version, a.value)))))
    (seq (limited key_limit) λ _. seq v_int λ _. seq v_int λ _. seq entry_version λ _. limited value_limit)
args_of keyed_if =
    as_type (λ a. no_times a && (no_bulk a && no_value a)) (λ p. args p.0 0 0 p.1 0 []) (λ a. (a.key, a.entry_version))
    (seq (limited key_limit) λ _. entry_version)
args_of bare = as_type (λ a. is_empty a.key && (no_times a && (no_entry_version a && (no_bulk a && no_value a)))) (λ u. args [] 0 0 0 0 []) (λ a. tt) empty
-- "8 for another scope"
args_of (bulk most) =
    as_type (λ a. is_empty a.key && (no_times a && (no_entry_version a && no_value a))) (λ n. args [] 0 0 0 n []) (λ a. a.bulk) (guard (λ n. leb n most) 8 v_int)
