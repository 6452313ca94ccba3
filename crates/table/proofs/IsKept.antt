-- In memory that is a sound table, the order kept equals the order made afresh exactly if it ascends and has the rows held. Assumes nothing.
use mathlib.Core.Path.{◌≡◌, sym, ◌∙◌}
use mathlib.Core.List.{List, []}
use Prim.Native.Nat.{ℕ, ◌<◌}
use native.Mathlib.Omega.{arith}
use lib.ListN.{length}
use Rattle.map.specs.Table.{Pairs, OtherKey}
use Rattle.table.specs.Memory.{size, place_of, entry, count_of, state_of, Permutation, Sound, order_of, name_of, row_before, OrderKept}
use Rattle.table.specs.Found.{entry_at}
use Rattle.table.proofs.Order.{pairs-at}
use Rattle.table.proofs.RowLaws.{length_entries, count_most}
use Rattle.table.specs.Order.{OrderedRows}
use Rattle.wire.proofs.BeforeLaws.{before_self, before-apart, before-onward}
use Rattle.wire.proofs.SortedLaws.{Apart}
use Rattle.wire.proofs.OrderedLaws.{ordered-sorted, sorted-ordered}
use Rattle.table.proofs.FindLaws.{key-of-place}

-- an order of the rows held is the one made afresh
pub order-afresh : (t : List ℕ) → Permutation t → OrderedRows t → OrderKept t
order-afresh t p o =
    ordered-sorted (row_before t) (λ a b c. before-onward (name_of t a) (name_of t b) (name_of t c)) (λ a. before_self (name_of t a)) (order_of t) (place_of t) (count_of t) o
    (λ i j l m. p.once i j (omega (arith, count_most t)) (omega (arith, count_most t)))

-- rows of keys that differ stand apart
module _ (t : List ℕ) (h : length t ≡ size) (p : Permutation t) (d : Pairs OtherKey (state_of t).entries) where
  other : (i j : ℕ) → i < j → j < count_of t → (entry_at t i).key ≡ (entry_at t j).key → ⊥
  unfolding entry_at
  other i j l m e = pairs-at OtherKey (state_of t).entries (entry [] [] 0 0) i j d l (omega (arith, length_entries t h)) e

  pub rows_apart : (i j : ℕ) → i < j → j < count_of t → Apart (row_before t) (place_of t i) (place_of t j)
  rows_apart i j l m =
      before-apart (name_of t (place_of t i)) (name_of t (place_of t j))
      (λ q. other i j l m (key-of-place t h p i (omega arith) ∙ q ∙ sym (key-of-place t h p j m)))

-- and the one made afresh is one, in a table
module _ (t : List ℕ) (s : Sound t) where
  pub afresh-order : OrderKept t → OrderedRows t
  afresh-order e =
      sorted-ordered (row_before t) (λ a b c. before-onward (name_of t a) (name_of t b) (name_of t c)) (λ a. before_self (name_of t a)) (order_of t) (place_of t) (count_of t) e
      (rows_apart t s.layout.long s.layout.places s.table.keys)
