-- A stream: "a row of bytes and a list of calls to the server, each with a second and a reply buffer apart from the row. Each gets the table that
-- the last one left and the row behind all bytes taken so far."
use Rattle.std.specs.Prelude.{◌≡◌, List, [], ◌∷◌, Bool, ℕ, length, drop}
use Rattle.std.proofs.Math.Option.{Option, none, some}
use Rattle.std.proofs.lemmas.List.Edits.{sets}
use Rattle.map.specs.State.{State}
use Rattle.map.specs.Step.{Context}
use Rattle.map.specs.Reply.{flat}
use Rattle.table.specs.Memory.{state_of, Sound}
use Rattle.table.specs.Found.{Tells}
use Rattle.service.specs.Serve.{Answer, Effect, serve}

-- what a call is given beside input and table: its context, and the reply buffer as it is lent
pub record Call : Type 0 where
  pub context : Context
  pub buffer : List ℕ

-- what a call leaves: its answer, the number of bytes sent, and buffer and table
pub record Done : Type 0 where
  pub answer : Answer
  pub size : ℕ
  pub buffer : List ℕ
  pub table : List ℕ

-- of a table that was changed, its state is known, and that it is sound; its bytes are the program's choice
abbrev pub Becomes : List ℕ → Option State → List ℕ → Type 0
Becomes old none new = new ≡ old
Becomes old (some st) new = (state_of new ≡ st) × Sound new

-- d is what the effect e makes of the table and of the buffer lent; behind the bytes sent the buffer keeps its bytes
pub record Does (e : Effect) (old lent : List ℕ) (d : Done) : Type 0 where
  pub answer : d.answer ≡ e.answer
  pub size : d.size ≡ length (flat e.sent)
  pub buffer : d.buffer ≡ sets lent 0 (flat e.sent)
  pub table : Becomes old e.next d.table

-- ok: whether the table is sound
abbrev pub effect_of : Bool → List ℕ → List ℕ → Call → Effect
effect_of ok input table c = serve input ok (state_of table) c.context (length c.buffer)

-- what the function `serve` ensures, literally
pub record Serves (input table : List ℕ) (c : Call) (d : Done) : Type 0 where
  pub ok : Bool
  pub tells : Tells ok (Sound table)
  pub does : Does (effect_of ok input table c) table c.buffer d

pub data Run : List ℕ → List ℕ → List Call → List Done → Type 0 where
  run_end : {input table : List ℕ} → Run input table [] []
  run_call : {input table : List ℕ} {c : Call} {cs : List Call} {d : Done} {ds : List Done} → Serves input table c d
      → Run (drop d.answer.taken input) d.table cs ds → Run input table (c ∷ cs) (d ∷ ds)
