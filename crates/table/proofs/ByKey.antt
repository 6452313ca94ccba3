-- The order in memory lists the entries in the order sortedByKey afresh, and the keys that are not before a given one stand from its place on. Assumes nothing.
use mathlib.Core.Path.{◌≡◌, refl, sym, ap, ◌∙◌}
use mathlib.Core.List.{List, [], ◌∷◌, map}
use mathlib.Core.Bool.{Bool, true, false}
use Prim.Native.Nat.{ℕ, zero, suc, ◌%◌, ◌≤◌, ◌<◌}
use native.Mathlib.Omega.{arith}
use lib.ListN.{length, get_or, drop}
use Rattle.map.specs.State.{Entry, without}
use Rattle.map.specs.Step.{most_keys}
use Rattle.table.specs.Memory.{size, place_of, row_at, entry_of, count_of, entries_of, state_of, Permutation, name_of, row_entry, rows_held, order_held, OrderKept}
use Rattle.table.proofs.Lists.{upto_ext}
use Rattle.table.proofs.RowLaws.{entries_are, count_most}
use Rattle.wire.proofs.SortedLaws.{sorted-map}
use Rattle.wire.proofs.UptoLaws.{map-upto}
use Rattle.map.specs.KeyListing.{entry_before, sorted_by_key}

module _ (t : List ℕ) (h : length t ≡ size) (p : Permutation t) where
  held-entries : map (row_entry t) (rows_held t) ≡ (state_of t).entries
  unfolding entries_of
  held-entries =
      map-upto (row_entry t) (place_of t) (count_of t)
      ∙ upto_ext (λ (i : ℕ). entry_of t (row_at t i)) (λ (i : ℕ). row_entry t (place_of t i)) (count_of t)
      (λ i l.
      let b = p.below i (omega (arith, count_most t)) in
      let e : place_of t i ≡ place_of t i % most_keys = omega arith in
      ap (row_entry t) e)
      ∙ sym (entries_are t h)

  -- the entries by the order are those of the order sortedByKey afresh
  pub order-entries : OrderKept t → map (row_entry t) (order_held t) ≡ sorted_by_key (state_of t).entries
  unfolding name_of
  order-entries e = ap (map (row_entry t)) e ∙ sorted-map (row_entry t) entry_before (rows_held t) ∙ ap sorted_by_key held-entries

-- the elements that pass a test stand in front: those that do not are what is left
pub dropped : (test : Entry → Bool) (d : Entry) (es : List Entry) (p : ℕ) → p ≤ length es → ((i : ℕ) → i < p → test (get_or es i d) ≡ true)
    → ((i : ℕ) → p ≤ i → i < length es → test (get_or es i d) ≡ false) → without test es ≡ drop p es
unfolding without
dropped test d [] zero l f g = refl
dropped test d [] (suc p) l f g = refl
dropped test d (e ∷ es) zero l f g =
    rw (g 0 (omega arith) (omega arith)) (ap (λ (r : List Entry). e ∷ r) (dropped test d es zero (omega arith) (λ i q. absurd (omega arith)) (λ i q r. g (suc i) (omega arith) (omega arith))))
dropped test d (e ∷ es) (suc p) l f g =
    rw (f 0 (omega arith)) (dropped test d es p (omega arith) (λ i q. f (suc i) (omega arith)) (λ i q r. g (suc i) (omega arith) (omega arith)))
