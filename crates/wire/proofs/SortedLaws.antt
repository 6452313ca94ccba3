-- A list is the sorted one of another exactly if it ascends and has the same elements. Assumes nothing.
use mathlib.Core.Path.{◌≡◌, refl, sym, ap, ap₂, subst, ◌∙◌}
use mathlib.Core.List.{List, [], ◌∷◌, map}
use mathlib.Core.Bool.{Bool, true, false, cond, not}
use mathlib.Core.Logic.{⊎_elim, ◌⊎◌, inl, inr}
use Prim.Native.Nat.{ℕ, suc}
use native.Mathlib.Omega.{arith}
use lib.ListN.{length}
use Rattle.wire.proofs.Laws.{never}
use Rattle.wire.proofs.Basics.{pick}
use Rattle.wire.specs.Each.{Each, Pairs}
use Rattle.wire.specs.Sorted.{insert, sorted}

-- an element is one of the list
abbrev pub In : {A : Type 0} → A → List A → Type 0
In x [] = ⊥
In x (a ∷ xs) = (x ≡ a) ⊎ In x xs

module _ {A : Type 0} where
  each_in : (p : A → Type 0) (x : A) (xs : List A) → Each p xs → In x xs → p x
  each_in p x [] h i = absurd i
  each_in p x (a ∷ xs) h (inl e) = subst p (sym e) h.0
  each_in p x (a ∷ xs) h (inr i) = each_in p x xs h.1 i

  each_map : (p q : A → Type 0) → ((x : A) → p x → q x) → (xs : List A) → Each p xs → Each q xs
  each_map p q f [] h = tt
  each_map p q f (a ∷ xs) h = (f a h.0, each_map p q f xs h.1)

  module _ (less : A → A → Bool) where
    abbrev pub Before : A → A → Type 0
    Before a b = less a b ≡ true

    abbrev pub Apart : A → A → Type 0
    Apart a b = less b a ≡ not (less a b)

    -- an element inserted
    in_insert : (x a : A) (xs : List A) → In x (insert less a xs) → In x (a ∷ xs)
    unfolding insert
    in_insert x a [] h = h
    in_insert x a (b ∷ xs) h = go (less b a) (in_insert x a xs) h
      where
        go : (u : Bool) → (In x (insert less a xs) → In x (a ∷ xs)) → In x (cond u (b ∷ insert less a xs) (a ∷ (b ∷ xs))) → In x (a ∷ (b ∷ xs))
        go true ih (inl e) = inr (inl e)
        go true ih (inr i) = ⊎_elim (λ e. inl e) (λ j. inr (inr j)) (ih i)
        go false ih h = h

    insert_in : (x a : A) (xs : List A) → In x (a ∷ xs) → In x (insert less a xs)
    unfolding insert
    insert_in x a [] h = h
    insert_in x a (b ∷ xs) h = go (less b a) (insert_in x a xs) h
      where
        go : (u : Bool) → (In x (a ∷ xs) → In x (insert less a xs)) → In x (a ∷ (b ∷ xs)) → In x (cond u (b ∷ insert less a xs) (a ∷ (b ∷ xs)))
        go true ih (inl e) = inr (ih (inl e))
        go true ih (inr (inl e)) = inl e
        go true ih (inr (inr i)) = inr (ih (inr i))
        go false ih h = h

    pub in_sorted : (x : A) (xs : List A) → In x (sorted less xs) → In x xs
    unfolding sorted
    in_sorted x [] h = h
    in_sorted x (a ∷ xs) h = ⊎_elim (λ e. inl e) (λ i. inr (in_sorted x xs i)) (in_insert x a (sorted less xs) h)

    pub sorted_in : (x : A) (xs : List A) → In x xs → In x (sorted less xs)
    unfolding sorted
    sorted_in x [] h = h
    sorted_in x (a ∷ xs) (inl e) = insert_in x a (sorted less xs) (inl e)
    sorted_in x (a ∷ xs) (inr i) = insert_in x a (sorted less xs) (inr (sorted_in x xs i))

    each-insert : (p : A → Type 0) (a : A) (xs : List A) → p a → Each p xs → Each p (insert less a xs)
    unfolding insert
    each-insert p a [] h g = (h, tt)
    each-insert p a (b ∷ xs) h g = go (less b a) (each-insert p a xs h g.1)
      where
        go : (u : Bool) → Each p (insert less a xs) → Each p (cond u (b ∷ insert less a xs) (a ∷ (b ∷ xs)))
        go true k = (g.0, k)
        go false k = (h, g)

    pub each-sorted : (p : A → Type 0) (xs : List A) → Each p xs → Each p (sorted less xs)
    unfolding sorted
    each-sorted p [] h = tt
    each-sorted p (a ∷ xs) h = each-insert p a (sorted less xs) h.0 (each-sorted p xs h.1)

    long-insert : (a : A) (xs : List A) → length (insert less a xs) ≡ suc (length xs)
    unfolding insert
    long-insert a [] = refl
    long-insert a (b ∷ xs) = let k = long-insert a xs in pick (λ (l : List A). length l ≡ suc (suc (length xs))) (less b a) (λ q. ap suc k) refl

    pub length_sorted : (xs : List A) → length (sorted less xs) ≡ length xs
    unfolding sorted
    length_sorted [] = refl
    length_sorted (a ∷ xs) = long-insert a (sorted less xs) ∙ ap suc (length_sorted xs)

    pub apart-turned : (a b : A) → Apart a b → Apart b a
    apart-turned a b h = go (less a b) (less b a) h
      where
        go : (u v : Bool) → v ≡ not u → u ≡ not v
        go true true h = never (cc)
        go true false h = refl
        go false true h = refl
        go false false h = never (cc)

    module _ (onward : (a b c : A) → Before a b → Before b c → Before a c) where
      insert-order : (a : A) (xs : List A) → Each (Apart a) xs → Pairs Before xs → Pairs Before (insert less a xs)
      unfolding insert
      insert-order a [] p h = (tt, tt)
      insert-order a (b ∷ xs) p h = go (less b a) refl (insert-order a xs p.1 h.1)
        where
          go : (u : Bool) → less b a ≡ u → Pairs Before (insert less a xs) → Pairs Before (cond u (b ∷ insert less a xs) (a ∷ (b ∷ xs)))
          go true e ih = (each-insert (Before b) a xs e h.0, ih)
          go false e ih =
              let z : less a b ≡ true = apart-turned a b p.0 ∙ ap not e in
              ((z, each_map (Before b) (Before a) (λ c q. onward a b c z q) xs h.0), h)

      -- the sorted list ascends
      pub sorted-order : (xs : List A) → Pairs Apart xs → Pairs Before (sorted less xs)
      unfolding sorted
      sorted-order [] h = tt
      sorted-order (a ∷ xs) h = insert-order a (sorted less xs) (each-sorted (Apart a) xs h.0) (sorted-order xs h.1)

      module _ (self : (a : A) → less a a ≡ false) where
        both_ways : (a b : A) → Before a b → Before b a → ⊥
        both_ways a b h g = let z = onward a b a h g in let y = self a in let w : ◌≡◌ {A = ℕ} 0 1 = cc in omega arith

        other : (a b : A) → Before a b → b ≡ a → ⊥
        other a b h e = let z : less a a ≡ true = subst (λ (x : A). less a x ≡ true) e h in let y = self a in let w : ◌≡◌ {A = ℕ} 0 1 = cc in omega arith

        -- two lists that ascend and have the same elements are the same
        pub one-order : (xs bs : List A) → Pairs Before xs → Pairs Before bs → ((x : A) → In x xs → In x bs) → ((x : A) → In x bs → In x xs) → xs ≡ bs
        one-order [] [] h g to fro = refl
        one-order [] (b ∷ bs) h g to fro = absurd (fro b (inl refl))
        one-order (a ∷ xs) [] h g to fro = absurd (to a (inl refl))
        one-order (a ∷ xs) (b ∷ bs) h g to fro = ap₂ ◌∷◌ e (one-order xs bs h.1 g.1 rest-to rest-fro)
          where
            e : a ≡ b
            e = ⊎_elim (λ q. q)
                (λ i. ⊎_elim (λ q. sym q) (λ j. absurd (both_ways a b (each_in (Before a) b xs h.0 j) (each_in (Before b) a bs g.0 i))) (fro b (inl refl)))
                (to a (inl refl))

            rest-to : (x : A) → In x xs → In x bs
            rest-to x i = ⊎_elim (λ q. absurd (other a x (each_in (Before a) x xs h.0 i) (q ∙ sym e))) (λ j. j) (to x (inr i))

            rest-fro : (x : A) → In x bs → In x xs
            rest-fro x i = ⊎_elim (λ q. absurd (other b x (each_in (Before b) x bs g.0 i) (q ∙ e))) (λ j. j) (fro x (inr i))

-- sorting by what is made of the elements
module _ {A B : Type 0} (f : A → B) (less : B → B → Bool) where
  insert-map : (x : A) (xs : List A) → map f (insert (λ a b. less (f a) (f b)) x xs) ≡ insert less (f x) (map f xs)
  unfolding insert
  insert-map x [] = refl
  insert-map x (y ∷ xs) = go (less (f y) (f x)) (insert-map x xs)
    where
      go : (u : Bool) → map f (insert (λ a b. less (f a) (f b)) x xs) ≡ insert less (f x) (map f xs)
          → map f (cond u (y ∷ insert (λ a b. less (f a) (f b)) x xs) (x ∷ (y ∷ xs))) ≡ cond u (f y ∷ insert less (f x) (map f xs)) (f x ∷ (f y ∷ map f xs))
      go true e = ap (λ (l : List B). f y ∷ l) e
      go false e = refl

  pub sorted-map : (xs : List A) → map f (sorted (λ a b. less (f a) (f b)) xs) ≡ sorted less (map f xs)
  unfolding sorted
  sorted-map [] = refl
  sorted-map (x ∷ xs) = insert-map x (sorted (λ a b. less (f a) (f b)) xs) ∙ ap (insert less (f x)) (sorted-map xs)
