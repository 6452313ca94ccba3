-- Entries in an order that tells any two of them apart. Assumes nothing.
use mathlib.Core.Path.{◌≡◌, refl, sym, ap, subst₂, ◌∙◌}
use mathlib.Core.List.Permᴰ
use mathlib.Core.List.Permᴰ.{cons}
use mathlib.Core.List.Permᴰ.{nil}
use mathlib.Core.List.Permᴰ.{swap}
use mathlib.Core.List.Permᴰ.{trans}
use mathlib.Core.List.{List, [], ◌∷◌, Permᴰ as Perm}
use mathlib.Core.Bool.{Bool, true, false, cond, not}
use Prim.Native.Nat.{ℕ}
use Rattle.wire.proofs.Laws.{never}
use Rattle.wire.proofs.SortedLaws.{Apart, apart-turned}
use Rattle.map.specs.State.{Entry}
use Rattle.map.specs.Table.{Pairs}
use Rattle.map.specs.Revalue.{entry_with, entries_with}
use Rattle.wire.specs.Sorted.{insert, sorted}
use Rattle.map.proofs.Each.{same-pairs}
use Rattle.map.proofs.Finding.{cond_of}

module _ (less : Entry → Entry → Bool) where
  -- a list that is in the order already
  pub sorted-is : (es : List Entry) → Pairs (λ e f. less f e ≡ false) es → sorted less es ≡ es
  unfolding sorted insert
  sorted-is [] h = refl
  sorted-is (e ∷ []) h = refl
  sorted-is (e ∷ (f ∷ es)) h = let g = sorted-is (f ∷ es) h.1 in ap (insert less e) g ∙ rw h.0.0

  -- the same entries
  insert-same : (e : Entry) (es : List Entry) → Perm (e ∷ es) (insert less e es)
  unfolding insert
  insert-same e [] = Permᴰ.refl (e ∷ [])
  insert-same e (f ∷ es) = go (less f e) (insert-same e es)
    where
      go : (b : Bool) → Perm (e ∷ es) (insert less e es) → Perm (e ∷ (f ∷ es)) (cond b (f ∷ insert less e es) (e ∷ (f ∷ es)))
      go true ih = trans (swap refl refl) (cons refl ih)
      go false ih = Permᴰ.refl (e ∷ (f ∷ es))

  pub sorted-same : (es : List Entry) → Perm es (sorted less es)
  unfolding sorted
  sorted-same [] = nil
  sorted-same (e ∷ es) = trans (cons refl (sorted-same es)) (insert-same e (sorted less es))

  module _ (onward : (e f g : Entry) → less e f ≡ true → less f g ≡ true → less e g ≡ true) where
    swapped : (e f : Entry) → less e f ≡ true → less f e ≡ false → (xs : List Entry) → insert less e (insert less f xs) ≡ insert less f (insert less e xs)
    unfolding insert
    swapped e f p q [] = rw (p, q)
    swapped e f p q (x ∷ xs) = go (less x f) (less x e) refl refl (swapped e f p q xs)
      where
        go : (a b : Bool) → less x f ≡ a → less x e ≡ b → insert less e (insert less f xs) ≡ insert less f (insert less e xs)
            → insert less e (cond a (x ∷ insert less f xs) (f ∷ (x ∷ xs))) ≡ insert less f (cond b (x ∷ insert less e xs) (e ∷ (x ∷ xs)))
        go true true i j ih = rw (i, j, ih)
        go true false i j ih = rw (p, i, j)
        go false true i j ih = let z = onward x e f j p in never (cc)
        go false false i j ih = rw (p, q, i)

    either : (e f : Entry) → Apart less e f → (xs : List Entry) → insert less e (insert less f xs) ≡ insert less f (insert less e xs)
    either e f h xs = go (less e f) (less f e) refl refl h
      where
        go : (a b : Bool) → less e f ≡ a → less f e ≡ b → b ≡ not a → insert less e (insert less f xs) ≡ insert less f (insert less e xs)
        go true true p q h = never (cc)
        go true false p q h = swapped e f p q xs
        go false true p q h = sym (swapped f e q p xs)
        go false false p q h = never (cc)

    -- lists of the same entries
    pub same-sorted : {es fs : List Entry} → Perm es fs → Pairs (Apart less) es → sorted less es ≡ sorted less fs
    unfolding sorted
    same-sorted nil h = refl
    same-sorted (cons {b = e} p s) h = rw p (ap (insert less e) (same-sorted s h.1))
    same-sorted (swap {a' = f} {b' = e} {l = es} p q) h = rw (p, q) (either e f (subst₂ (Apart less) p q h.0.0) (sorted less es))
    same-sorted (trans s t) h = same-sorted s h ∙ same-sorted t (same-pairs (Apart less) (apart-turned less) s h)

  -- an order that looks at no value
  module _ (v : ℕ) (w : List ℕ) (blind : (e f : Entry) → less (entry_with v w e) (entry_with v w f) ≡ less e f) where
    insert_with : (e : Entry) (es : List Entry) → insert less (entry_with v w e) (entries_with v w es) ≡ entries_with v w (insert less e es)
    unfolding insert entries_with
    insert_with e [] = refl
    insert_with e (f ∷ es) = rw (blind f e, insert_with e es, cond_of (entries_with v w) (less f e))

    pub sorted_with : (es : List Entry) → sorted less (entries_with v w es) ≡ entries_with v w (sorted less es)
    unfolding sorted entries_with
    sorted_with [] = refl
    sorted_with (e ∷ es) = rw (sorted_with es) (insert_with e (sorted less es))
