-- What the exported functions on keys, tables and calls tell.
use Rattle.std.specs.Prelude.{◌≡◌, List, [], ◌∷◌, Bool, true, false, ℕ, Result, Ok, Err}
use Rattle.field.specs.declared.refusals.Refusal.{Refusal}
use Rattle.field.specs.Refusal.{number_of}
use Rattle.wire.specs.Write.{Sent}
use Rattle.map.specs.Step.{Context}
use Rattle.table.specs.declared.Compared.{Compared}
use Rattle.service.specs.Stream.{Call, Done, Serves}
use Rattle.service.specs.Many.{Total, Streams}
use Rattle.service.specs.Shares.{verdict_code}
use Rattle.server.specs.declared.Fed.{Fed}
use Rattle.server.specs.Gives.{ServesMany}
use Rattle.server.specs.Lines.{ServesLines}
use Rattle.stored.specs.File.{form1}
use Rattle.stored.specs.StoreLoad.{Storing, Loaded}
use Rattle.order.specs.Lists.{Lists}
use Rattle.exports.specs.Codes.{sent_code, tell}

-- nothing is done, and each list lent is as it was: 12, since the list for the answer is too short
pub record Untold (n : ℕ) (old new lent out t t' : List ℕ) : Type 0 where
  pub code : n ≡ 12
  pub told : new ≡ old
  pub buffer : out ≡ lent
  pub table : t' ≡ t

-- the reply buffer and the table that a call leaves, the numbers of its answer told, and its code
pub record TellsDone (input t : List ℕ) (c : Call) (out t' old new : List ℕ) (n : ℕ) : Type 0 where
  pub done : Done
  pub serves : Serves input t c done
  pub buffer : out ≡ done.buffer
  pub table : t' ≡ done.table
  pub told : new ≡ tell (done.answer.taken ∷ done.size ∷ []) old
  pub code : n ≡ verdict_code done.answer.verdict

-- the same of calls one after the other, with how many there were
pub record TellsTotal (c : Context) (input t lent out t' old new : List ℕ) (n : ℕ) : Type 0 where
  pub total : Total
  pub streams : Streams c false input t lent total
  pub buffer : out ≡ total.buffer
  pub table : t' ≡ total.table
  pub told : new ≡ tell (total.taken ∷ total.size ∷ total.calls ∷ []) old
  pub code : n ≡ verdict_code total.verdict

-- something is done, or refused by a number
abbrev pub done_code : {A : Type 0} → Result A Refusal → ℕ
done_code (Ok a) = 256
done_code (Err k) = number_of k

-- the same of the streams of several connections, whose numbers `ServesMany` tells
pub record TellsMany (c : Context) (row ends t lent old out t' new : List ℕ) (n : ℕ) : Type 0 where
  pub answer : Result ℕ Refusal
  pub serves : ServesMany c row ends t lent old answer out t' new
  pub code : n ≡ done_code answer

abbrev pub bit : Bool → ℕ
bit true = 1
bit false = 0

-- 1 is told of equal keys, and how many pairs of bytes were compared
abbrev pub keys_compared : Compared → List ℕ
keys_compared c = bit c.equal ∷ c.pairs ∷ []

-- 1 is told where the rest of a line is still to be passed over; where nothing was done, nothing is told
abbrev pub served_told : Result Fed Refusal → List ℕ → List ℕ
served_told (Ok f) old = tell (f.taken ∷ f.size ∷ bit f.passing ∷ []) old
served_told (Err k) old = old

-- the same of a chunk of a file of lines
pub record TellsServed (last pass : Bool) (input t lent out t' old new : List ℕ) (n : ℕ) : Type 0 where
  pub answer : Result Fed Refusal
  pub serves : ServesLines last pass input t lent answer out t'
  pub told : new ≡ served_told answer old
  pub code : n ≡ done_code answer

-- the stored file in a list lent, and its code
pub record TellsStored (t old new : List ℕ) (n : ℕ) : Type 0 where
  pub sent : Sent
  pub storing : Storing form1 t old sent new
  pub code : n ≡ sent_code sent

-- the table that a stored file was loaded to, and its code
pub record TellsLoaded (file t t' : List ℕ) (n : ℕ) : Type 0 where
  pub outcome : Result (Unit {0}) Refusal
  pub loaded : Loaded form1 file t outcome t'
  pub code : n ≡ done_code outcome

-- the keys listed in a list lent, and the code
pub record TellsListed (t name k : List ℕ) (most : ℕ) (old new : List ℕ) (n : ℕ) : Type 0 where
  pub sent : Sent
  pub lists : Lists t name k most old (sent, new)
  pub code : n ≡ sent_code sent
