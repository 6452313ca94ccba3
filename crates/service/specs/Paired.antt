-- Demand 3's last part over the streams of several connections: bytes of one request's value change, in the row of one connection, and nothing else of what any
-- of them gets.
use Rattle.std.specs.Prelude.{◌≡◌, List, [], ◌∷◌, ℕ, drop}
use Rattle.map.specs.Step.{Context}
use Rattle.service.specs.Stream.{Call, Done}
use Rattle.service.specs.Many.{Total}
use Rattle.service.specs.Demand3.{Progress, ahead, wrote, gone, progress, SameCalls, Independent}
use Rattle.service.specs.Made.{Made}

-- Two streams of one connection, the value being u in the one and w in the other: the same numbers are told of both, and call for call they are alike.
pub record PairedStreams (u w : List ℕ) (c : Context) (p : Progress) (input input' table table' lent lent' : List ℕ) (t t' : Total) : Type 0 where
  pub taken : t'.taken ≡ t.taken
  pub size : t'.size ≡ t.size
  pub count : t'.calls ≡ t.calls
  pub verdict : t'.verdict ≡ t.verdict
  pub calls : List Call
  pub dones : List Done
  pub calls' : List Call
  pub dones' : List Done
  pub made : Made c input table lent t calls dones
  pub made' : Made c input' table' lent' t' calls' dones'
  pub same : SameCalls calls calls'
  pub alike : Independent u w p input table calls calls' dones dones'

-- how far the request has come behind calls of its own connection
abbrev pub progress_behind : Progress → List ℕ → List Done → Progress
progress_behind p table [] = p
progress_behind p table (d ∷ ds) = progress_behind (progress p table d) d.table ds

-- what calls of other connections find of it: the entry that it wrote, or nothing
abbrev pub for_others : Progress → Progress
for_others (ahead n) = gone
for_others (wrote v) = wrote v
for_others gone = gone

-- Connection by connection. n requests stand before the one whose value is changed, in the row of its own connection; to those before it all is the same (`gone`), and
-- those behind it find the entry that it wrote.
pub data PairedShares (u w : List ℕ) (c : Context) (n : ℕ) : Progress → List (List ℕ) → List (List ℕ) → List ℕ → List ℕ → List ℕ → List ℕ → List Total → List Total → Type 0 where
  nobody : {p : Progress} {table table' lent lent' : List ℕ} → PairedShares u w c n p [] [] table table' lent lent' [] []
  other : {p : Progress} {input : List ℕ} {inputs inputs' : List (List ℕ)} {table table' lent lent' : List ℕ} {t t' : Total} {ts ts' : List Total}
      → PairedStreams u w c p input input table table' lent lent' t t'
      → PairedShares u w c n p inputs inputs' t.table t'.table (drop t.size t.buffer) (drop t'.size t'.buffer) ts ts'
      → PairedShares u w c n p (input ∷ inputs) (input ∷ inputs') table table' lent lent' (t ∷ ts) (t' ∷ ts')
  own : {input input' : List ℕ} {inputs : List (List ℕ)} {table table' lent lent' : List ℕ} {t t' : Total} {ts ts' : List Total}
      → (x : PairedStreams u w c (ahead n) input input' table table' lent lent' t t')
      → PairedShares u w c n (for_others (progress_behind (ahead n) table x.dones)) inputs inputs t.table t'.table (drop t.size t.buffer) (drop t'.size t'.buffer) ts ts'
      → PairedShares u w c n gone (input ∷ inputs) (input' ∷ inputs) table table' lent lent' (t ∷ ts) (t' ∷ ts')
