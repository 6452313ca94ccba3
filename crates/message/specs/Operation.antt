-- The served operations (document 01, 'What is built'; document 02, C-13).
use Rattle.std.proofs.Math.Option.{Option, none, some}
use Rattle.std.specs.Prelude.{Bool, true, false, cond, ℕ, eqb, Result, Ok, Err}
use Rattle.message.specs.declared.Operation.{Operation}
use Rattle.message.specs.declared.Operation.TheVariants.{Put, Get, PutIfAbsent, Replace, ReplaceIfUnmodified, Remove, RemoveIfUnmodified, ContainsKey, GetWithVersion, Clear, Stats, Ping, BulkGet, BulkGetKeys}
use Rattle.field.specs.declared.refusals.Refusal.{Refusal}
use Rattle.field.specs.declared.refusals.Refusal.TheVariants as r

abbrev pub code_of : Operation → ℕ
code_of Put = 0x01
code_of Get = 0x03
code_of PutIfAbsent = 0x05
code_of Replace = 0x07
code_of ReplaceIfUnmodified = 0x09
code_of Remove = 0x0b
code_of RemoveIfUnmodified = 0x0d
code_of ContainsKey = 0x0f
code_of GetWithVersion = 0x11
code_of Clear = 0x13
code_of Stats = 0x15
code_of Ping = 0x17
code_of BulkGet = 0x19
code_of BulkGetKeys = 0x1d

-- the operation that has a code
unfoldable pub find_code : ℕ → Option Operation
find_code n =
    cond (eqb n 0x01) (some Put)
    (cond (eqb n 0x03) (some Get)
    (cond (eqb n 0x05) (some PutIfAbsent)
    (cond (eqb n 0x07) (some Replace)
    (cond (eqb n 0x09) (some ReplaceIfUnmodified)
    (cond (eqb n 0x0b) (some Remove)
    (cond (eqb n 0x0d) (some RemoveIfUnmodified)
    (cond (eqb n 0x0f) (some ContainsKey)
    (cond (eqb n 0x11) (some GetWithVersion)
    (cond (eqb n 0x13) (some Clear)
    (cond (eqb n 0x15) (some Stats)
    (cond (eqb n 0x17) (some Ping)
    (cond (eqb n 0x19) (some BulkGet)
    (cond (eqb n 0x1d) (some BulkGetKeys) none)))))))))))))

-- the answer of one who looks for it
abbrev pub found_by : Option Operation → Result Operation Refusal
found_by none = Err r.Operation
found_by (some o) = Ok o

abbrev pub is_known : Option Operation → Bool
is_known none = false
is_known (some o) = true

-- the operation found; of a code that is none, any
abbrev pub known : Option Operation → Operation
known none = Ping
known (some o) = o
