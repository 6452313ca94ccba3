-- The first n of f are the sorted first n of g exactly if they ascend and are the same ones. Assumes nothing.
use mathlib.Core.Path.{◌≡◌, refl, sym, ap, subst, subst₂, ◌∙◌}
use mathlib.Core.List.{List, [], ◌∷◌, ◌++◌}
use mathlib.Core.Bool.{Bool, true, false, not}
use mathlib.Core.Logic.{⊎_elim, ◌⊎◌, inl, inr}
use Prim.Native.Nat.{ℕ, zero, suc, ◌≤◌, ◌<◌}
use native.Mathlib.Omega.{arith}
use lib.ListN.{length, get_or}
use Rattle.wire.specs.Upto.{upto}
use Rattle.wire.proofs.UptoLaws.{length_upto, get_or_upto}
use Rattle.wire.proofs.Basics.{lt-or_ge}
use Rattle.wire.specs.Each.{Each, Pairs}
use Rattle.wire.specs.Sorted.{sorted, Ordered}
use Rattle.wire.proofs.SortedLaws.{In, Before, Apart, in_sorted, sorted_in, sorted-order, one-order}

module _ {A : Type 0} where
  in_snoc : (x a : A) (xs : List A) → In x (xs ++ (a ∷ [])) → In x xs ⊎ (x ≡ a)
  in_snoc x a [] (inl e) = inr e
  in_snoc x a [] (inr i) = elim i [ ]
  in_snoc x a (b ∷ xs) (inl e) = inl (inl e)
  in_snoc x a (b ∷ xs) (inr i) = ⊎_elim (λ j. inl (inr j)) (λ e. inr e) (in_snoc x a xs i)

  snoc_in : (x a : A) (xs : List A) → In x xs ⊎ (x ≡ a) → In x (xs ++ (a ∷ []))
  snoc_in x a [] (inl i) = absurd i
  snoc_in x a [] (inr e) = inl e
  snoc_in x a (b ∷ xs) (inl (inl e)) = inl e
  snoc_in x a (b ∷ xs) (inl (inr i)) = inr (snoc_in x a xs (inl i))
  snoc_in x a (b ∷ xs) (inr e) = inr (snoc_in x a xs (inr e))

  each_snoc : (p : A → Type 0) (a : A) (xs : List A) → Each p xs → p a → Each p (xs ++ (a ∷ []))
  each_snoc p a [] h g = (g, tt)
  each_snoc p a (b ∷ xs) h g = (h.0, each_snoc p a xs h.1 g)

  pairs_snoc : (r : A → A → Type 0) (a : A) (xs : List A) → Pairs r xs → Each (λ x. r x a) xs → Pairs r (xs ++ (a ∷ []))
  pairs_snoc r a [] h g = (tt, tt)
  pairs_snoc r a (b ∷ xs) h g = (each_snoc (r b) a xs h.0 g.0, pairs_snoc r a xs h.1 g.1)

  each_at : (p : A → Type 0) (xs : List A) (d : A) (i : ℕ) → Each p xs → i < length xs → p (get_or xs i d)
  each_at p [] d i h l = absurd (omega arith)
  each_at p (a ∷ xs) d zero h l = h.0
  each_at p (a ∷ xs) d (suc i) h l = each_at p xs d i h.1 (omega arith)

  pairs-at : (r : A → A → Type 0) (xs : List A) (d : A) (i j : ℕ) → Pairs r xs → i < j → j < length xs → r (get_or xs i d) (get_or xs j d)
  pairs-at r [] d i j h l m = absurd (omega arith)
  pairs-at r (a ∷ xs) d i zero h l m = absurd (omega arith)
  pairs-at r (a ∷ xs) d zero (suc j) h l m = each_at (r a) xs d j h.0 (omega arith)
  pairs-at r (a ∷ xs) d (suc i) (suc j) h l m = pairs-at r xs d i j h.1 (omega arith) (omega arith)

  module _ (f : ℕ → A) where
    in_upto : (x : A) (n : ℕ) → In x (upto f n) → (i : ℕ) × (i < n) × (f i ≡ x)
    unfolding upto
    in_upto x zero h = absurd h
    in_upto x (suc n) h =
        ⊎_elim
        (λ i. let q = in_upto x n i in (q.0, omega (arith, q.1), q.2))
        (λ e. (n, omega arith, sym e))
        (in_snoc x (f n) (upto f n) h)

    upto_in : (i n : ℕ) → i < n → In (f i) (upto f n)
    unfolding upto
    upto_in i zero l = absurd (omega arith)
    upto_in i (suc n) l =
        snoc_in (f i) (f n) (upto f n)
        (⊎_elim (λ q. inl (upto_in i n q)) (λ q. let e : i ≡ n = omega arith in inr (ap f e)) (lt-or_ge i n))

    each-upto : (p : A → Type 0) (n : ℕ) → ((i : ℕ) → i < n → p (f i)) → Each p (upto f n)
    unfolding upto
    each-upto p zero h = tt
    each-upto p (suc n) h = each_snoc p (f n) (upto f n) (each-upto p n (λ i l. h i (omega arith))) (h n (omega arith))

    pairs-upto : (r : A → A → Type 0) (n : ℕ) → ((i j : ℕ) → i < j → j < n → r (f i) (f j)) → Pairs r (upto f n)
    unfolding upto
    pairs-upto r zero h = tt
    pairs-upto r (suc n) h =
        pairs_snoc r (f n) (upto f n) (pairs-upto r n (λ i j l m. h i j l (omega arith))) (each-upto (λ x. r x (f n)) n (λ i l. h i n l (omega arith)))

    upto-pairs : (r : A → A → Type 0) (n : ℕ) → Pairs r (upto f n) → (i j : ℕ) → i < j → j < n → r (f i) (f j)
    upto-pairs r n h i j l m =
        subst₂ r (get_or_upto f n i (f 0) (omega arith)) (get_or_upto f n j (f 0) m)
        (pairs-at r (upto f n) (f 0) i j h l (omega (arith, length_upto f n)))

  module _ (less : A → A → Bool) (onward : (a b c : A) → less a b ≡ true → less b c ≡ true → less a c ≡ true) (self : (a : A) → less a a ≡ false) where
    not_back : (a b : A) → less a b ≡ true → less b a ≡ false
    not_back a b h = go (less b a) refl
      where
        go : (u : Bool) → less b a ≡ u → u ≡ false
        go true e = let z = onward a b a h e in let y = self a in cc
        go false e = refl

    module _ (f g : ℕ → A) (n : ℕ) where
      -- an order has each element once
      pub once : Ordered less f g n → (i j : ℕ) → i < n → j < n → f i ≡ f j → i ≡ j
      once o i j l m e =
          ⊎_elim
          (λ q. absurd (clash i j q m e))
          (λ q. ⊎_elim (λ r. absurd (clash j i r l (sym e))) (λ r. omega arith) (lt-or_ge j i))
          (lt-or_ge i j)
        where
          clash : (i j : ℕ) → i < j → j < n → f i ≡ f j → ⊥
          clash i j q m e =
              let z : less (f i) (f j) ≡ true = o.ascends i j q m in
              let y : less (f j) (f j) ≡ true = subst (λ (x : A). less x (f j) ≡ true) e z in
              let s = self (f j) in
              let w : ◌≡◌ {A = ℕ} 0 1 = cc in
              omega arith

      -- of any two elements one stands before the other
      pub apart : Ordered less f g n → ((i j : ℕ) → i < n → j < n → g i ≡ g j → i ≡ j) → (i j : ℕ) → i < j → j < n → Apart less (g i) (g j)
      apart o g-once i j l m = subst₂ (Apart less) p.2 q.2 (go (lt-or_ge p.0 q.0))
        where
          p : (k : ℕ) × (k < n) × (f k ≡ g i)
          p = o.names i (omega arith)

          q : (k : ℕ) × (k < n) × (f k ≡ g j)
          q = o.names j m

          same : p.0 ≡ q.0 → ⊥
          same e = omega (arith, g-once i j (omega arith) m (sym p.2 ∙ ap f e ∙ q.2))

          go : (p.0 < q.0) ⊎ (q.0 ≤ p.0) → Apart less (f p.0) (f q.0)
          go (inl s) = let z = o.ascends p.0 q.0 s q.1 in not_back _ _ z ∙ ap not (sym z)
          go (inr s) = let z = o.ascends q.0 p.0 (omega (arith, same)) p.1 in z ∙ ap not (sym (not_back _ _ z))

      -- an order is the one made afresh
      pub ordered-sorted : Ordered less f g n → ((i j : ℕ) → i < n → j < n → g i ≡ g j → i ≡ j) → upto f n ≡ sorted less (upto g n)
      ordered-sorted o g-once =
          one-order less onward self (upto f n) (sorted less (upto g n))
          (pairs-upto f (Before less) n o.ascends)
          (sorted-order less onward (upto g n) (pairs-upto g (Apart less) n (apart o g-once)))
          (λ x i.
          let p = in_upto f x n i in
          let q = o.named p.0 p.1 in
          sorted_in less x (upto g n) (subst (λ (y : A). In y (upto g n)) (q.2 ∙ p.2) (upto_in g q.0 n q.1)))
          (λ x i.
          let p = in_upto g x n (in_sorted less x (upto g n) i) in
          let q = o.names p.0 p.1 in
          subst (λ (y : A). In y (upto f n)) (q.2 ∙ p.2) (upto_in f q.0 n q.1))

      -- and the one made afresh is one, where of any two elements one stands before the other
      pub sorted-ordered : upto f n ≡ sorted less (upto g n) → ((i j : ℕ) → i < j → j < n → Apart less (g i) (g j)) → Ordered less f g n
      sorted-ordered e a =
          record {
            ascends = upto-pairs f (Before less) n (subst (Pairs (Before less)) (sym e) (sorted-order less onward (upto g n) (pairs-upto g (Apart less) n a)));
            named = λ i l. in_upto g (f i) n (in_sorted less (f i) (upto g n) (subst (In (f i)) e (upto_in f i n l)));
            names = λ j l. in_upto f (g j) n (subst (In (g j)) (sym e) (sorted_in less (g j) (upto g n) (upto_in g j n l)));
          }
