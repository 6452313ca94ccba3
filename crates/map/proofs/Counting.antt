-- What a call that is served counts, and that it leaves a table one. Assumes nothing.
use mathlib.Core.Path.{◌≡◌, refl, ap}
use mathlib.Core.List.{List, [], ◌∷◌}
use mathlib.Core.Bool.{Bool, false, cond}
use mathlib.Core.Option.{Option, none, some}
use Prim.Native.Nat.{ℕ, zero, suc, ◌≤◌, ◌<◌}
use native.Mathlib.Nat.{max-le}
use native.Mathlib.Omega.{arith}
use lib.ListN.{length, get_or}
use lib.Dec.{ltb}
use borrow.Author.Tests.{ltb-true}
use Rattle.wire.proofs.Basics.{pick}
use Rattle.message.specs.Request.{Request}
use Rattle.map.specs.History.{most_count, onward, adds, marked, tally, start_of}
use Rattle.map.specs.State.{State}
use Rattle.map.specs.Deadline.{expired}
use Rattle.map.specs.Step.{Context, is_none, held, present, swept, noted, arrive}
use Rattle.map.specs.Table.{Counts, last_second, Seconds, IsTable}
use Rattle.map.proofs.Each.{table-without, table-history}

abbrev Within : ℕ → Type 0
Within n = n ≤ most_count

onward-most : (n : ℕ) → n ≤ most_count → onward n ≤ most_count
onward-most n h = pick Within (ltb n most_count) (λ q. ltb-true n most_count q) (omega arith)

-- there are as many counts as before, each within its limit
marked-long : (bs : List Bool) (ns : List ℕ) → length (marked bs ns) ≡ length ns
unfolding marked
marked-long [] ns = refl
marked-long (b ∷ bs) [] = refl
marked-long (b ∷ bs) (n ∷ ns) = ap suc (marked-long bs ns)

marked-most : (bs : List Bool) (ns : List ℕ) → ((i : ℕ) → get_or ns i 0 ≤ most_count) → (i : ℕ) → get_or (marked bs ns) i 0 ≤ most_count
unfolding marked
marked-most [] ns h i = h i
marked-most (b ∷ bs) [] h i = h i
marked-most (b ∷ bs) (n ∷ ns) h zero = pick Within b (λ q. onward-most n (h 0)) (h 0)
marked-most (b ∷ bs) (n ∷ ns) h (suc i) = marked-most bs ns (λ j. h (suc j)) i

-- a count goes on by one where its mark is true
pub marked-at : (bs : List Bool) (ns : List ℕ) (i : ℕ) → i < length ns
    → get_or (marked bs ns) i 0 ≡ cond (get_or bs i false) (onward (get_or ns i 0)) (get_or ns i 0)
unfolding marked
marked-at [] ns i h = refl
marked-at (b ∷ bs) [] i h = absurd (omega arith)
marked-at (b ∷ bs) (n ∷ ns) zero h = refl
marked-at (b ∷ bs) (n ∷ ns) (suc i) h = marked-at bs ns i (omega arith)

-- so a call that comes leaves the counts those of a table
pub arrive-counts : (c : Context) (r : Request) (st : State) → Counts st.history → Counts (arrive c r st).history
unfolding arrive noted swept tally
arrive-counts c r st s =
    let bs = adds r.op (is_none (held r (swept c st))) in
    record {
      long = rw (marked-long bs st.history.counts) s.long;
      most = marked-most bs st.history.counts s.most;
    }

-- its seconds too, at a second within its range
module _ (c : Context) (r : Request) (st : State) (h : c.second < 0x1_0000_0000) where
  present-most : Seconds st.history → present c st ≤ last_second
  present-most s = max-le (omega arith) s.latest

  arrive-seconds : Seconds st.history → Seconds (arrive c r st).history
  unfolding arrive noted swept
  arrive-seconds s = record { first = omega (arith, go st.history.first s.first); latest = omega (arith, present-most s) }
    where
      go : (o : Option ℕ) → start_of o 0 ≤ last_second → start_of o c.second ≤ last_second
      go none q = omega arith
      go (some n) q = q

  -- and a table one
  pub arrive-table : IsTable st → IsTable (arrive c r st)
  unfolding arrive noted swept
  arrive-table s = table-history (arrive c r st).history (arrive-counts c r st s.counts) (arrive-seconds s.seconds) (table-without (expired (present c st)) s)
