-- `table::opened_mut` meets its contract. Assumes nothing.
use mathlib.Core.Path.{◌≡◌, ap, ◌∙◌}
use mathlib.Core.List.{List, ◌++◌, append-nil}
use Prim.Native.Nat.{ℕ, ◌<◌}
use native.Mathlib.Omega.{arith}
use lib.ListN.{length, drop, drop_of_length-le}
use lib.Seq.{take_all}
use Rattle.std.specs.Option.{ghost_name_of}
use borrow.Follows.Closed.{read_of}
use Rattle.std.proofs.Common.{MutBor}
use Rattle.std.specs.Prelude.{Option, Some, None, MatchOption, ◌≢◌}
use Rattle.std.specs.Array.{IsFirstChunk}
use Rattle.table.specs.Memory.{size}
use Rattle.table.proofs.opened_mut.Goals as goal

-- the chunk is the whole
cases : (t : List ℕ) (r : Option (MutBor (List ℕ))) → length t ≡ size → MatchOption r (length t < size) (λ y. IsFirstChunk t y.now size) → MatchOption r (length t ≢ size) (λ m. (m.now ≡ t) × (length t ≡ size))
cases t (Some m) h f = (f.same ∙ take_all size t (omega arith), h)
cases t None h f = λ e. omega arith

behind : (t : List ℕ) → length t ≡ size → (ws : List ℕ) → ws ++ drop size t ≡ ws
behind t h ws = rw (drop_of_length-le t {i = size} (omega arith), append-nil)

pub returns : goal.returns
returns c = (ap (λ (F : List ℕ → List ℕ). read_of (ghost_name_of c.first_chunk_mut.result) F c.args.t.now) (λ i ws. behind c.args.t.now c.if-t-ne-SIZE.false ws i), record { cases = cases c.args.t.now _ c.if-t-ne-SIZE.false c.first_chunk_mut.ensures.cases; writes_back = tt })
