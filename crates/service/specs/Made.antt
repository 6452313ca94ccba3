-- The calls that streams make (`serve_stream`, `serve_many`). A stream is a `Run`, so what holds of every `Run` holds of it.
use Rattle.std.specs.Prelude.{◌≡◌, List, [], ◌∷◌, ◌++◌, map, ℕ, length, take, drop}
use Rattle.message.specs.Request.{Request}
use Rattle.message.specs.Written.{written, WellFormed}
use Rattle.map.specs.Step.{Context}
use Rattle.map.specs.Issued.{IssuedOnce}
use Rattle.table.specs.Memory.{state_of, Sound}
use Rattle.service.specs.Serve.{Verdict}
use Rattle.service.specs.Stream.{Call, Done, Run}
use Rattle.service.specs.Many.{Total, at, behind}
use Rattle.service.specs.Demand3.{seen, play, Roomy}
use Rattle.service.specs.Expiry.{AllInTime, Rises}

-- each call at the one second, on the reply buffer behind what is sent
abbrev pub EndToEnd : Context → List ℕ → List Call → List Done → Type 0
EndToEnd c lent [] ds = Unit {0}
EndToEnd c lent (k ∷ ks) [] = Unit {0}
EndToEnd c lent (k ∷ ks) (d ∷ ds) = (k ≡ at c lent) × EndToEnd c (drop d.size d.buffer) ks ds

-- what calls took and sent together, and what they left
unfoldable pub total_by : Verdict → List ℕ → List ℕ → List Done → Total
total_by v lent table [] = record { taken = 0; size = 0; calls = 0; verdict = v; buffer = lent; table = table }
total_by v lent table (d ∷ ds) = behind d.answer.taken d.size 1 d.buffer (total_by v (drop d.size d.buffer) d.table ds)

-- the calls that a stream is made of
pub record Made (c : Context) (input table lent : List ℕ) (t : Total) (calls : List Call) (dones : List Done) : Type 0 where
  pub run : Run input table calls dones
  pub placed : EndToEnd c lent calls dones
  pub total : t ≡ total_by t.verdict lent table dones

-- those of the streams of several connections
pub data AllMade (c : Context) : List (List ℕ) → List ℕ → List ℕ → List Total → List (List Call) → List (List Done) → Type 0 where
  none_made : {table lent : List ℕ} → AllMade c [] table lent [] [] []
  one-made : {input : List ℕ} {inputs : List (List ℕ)} {table lent : List ℕ} {t : Total} {ts : List Total} {cs : List Call} {css : List (List Call)} {ds : List Done}
      {dss : List (List Done)} → Made c input table lent t cs ds → AllMade c inputs t.table (drop t.size t.buffer) ts css dss
      → AllMade c (input ∷ inputs) table lent (t ∷ ts) (cs ∷ css) (ds ∷ dss)

-- What holds of every `Run`: demand 3's calls are the simple map's, each version is issued once, no reply shows what has expired, and the latest second never
-- falls. Its last part, a changed value, is of two streams (`PairedShares`).
pub record Holds (input table : List ℕ) (calls : List Call) (dones : List Done) : Type 0 where
  pub served : (rs : List Request) (tail : List ℕ) → input ≡ written rs ++ tail → WellFormed rs → Sound table → Roomy rs calls
      → take (length rs) (map seen dones) ≡ play rs calls (state_of table)
  pub once : IssuedOnce (state_of table) (map (λ (d : Done). state_of d.table) dones)
  pub in-time : AllInTime input table calls dones
  pub rises : Rises (state_of table).history.latest dones
