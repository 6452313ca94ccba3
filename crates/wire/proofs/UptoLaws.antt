-- The length and the elements of a list that is given by its elements. Assumes nothing.
use mathlib.Core.Path.{◌≡◌, refl, sym, ap, ◌∙◌}
use mathlib.Core.List.{List, [], ◌∷◌, ◌++◌, map}
use Prim.Native.Nat.{ℕ, zero, suc, ◌<◌}
use native.Mathlib.Decide.{dec_lt}
use native.Mathlib.Omega.{arith}
use lib.ListN.{length, get_or, length-append, get_or-append}
use lib.Seq.{get_or-append_seam}
use Rattle.wire.specs.Upto.{upto}

module _ {A : Type 0} (f : ℕ → A) where
  pub length_upto : (n : ℕ) → length (upto f n) ≡ n
  unfolding upto
  length_upto zero = refl
  length_upto (suc n) = length-append (upto f n) (f n ∷ []) ∙ omega (arith, length_upto n)

  get_or_last : (n k : ℕ) (d : A) → k < suc n → (k < n → get_or (upto f n) k d ≡ f k) → get_or (upto f n ++ (f n ∷ [])) k d ≡ f k
  get_or_last n k d h on = go (dec_lt k n)
    where
      go : Dec (k < n) → get_or (upto f n ++ (f n ∷ [])) k d ≡ f k
      go (yes l) = get_or-append (upto f n) (f n ∷ []) d k (omega (arith, length_upto n)) ∙ on l
      go (no l) =
          let e : k ≡ length (upto f n) = omega (arith, length_upto n) in
          ap (λ (j : ℕ). get_or (upto f n ++ (f n ∷ [])) j d) e ∙ get_or-append_seam (upto f n) (f n) [] d ∙ ap f (sym (e ∙ length_upto n))

  pub get_or_upto : (n k : ℕ) (d : A) → k < n → get_or (upto f n) k d ≡ f k
  unfolding upto
  get_or_upto zero k d h = absurd (omega arith)
  get_or_upto (suc n) k d h = get_or_last n k d h (λ l. get_or_upto n k d l)

-- what is made of each element
module _ {A B : Type 0} (f : A → B) where
  map_snoc : (xs : List A) (x : A) → map f (xs ++ (x ∷ [])) ≡ map f xs ++ (f x ∷ [])
  map_snoc [] x = refl
  map_snoc (y ∷ xs) x = ap (λ (l : List B). f y ∷ l) (map_snoc xs x)

  pub map-upto : (g : ℕ → A) (n : ℕ) → map f (upto g n) ≡ upto (λ i. f (g i)) n
  unfolding upto
  map-upto g zero = refl
  map-upto g (suc n) = map_snoc (upto g n) (g n) ∙ ap (λ (l : List B). l ++ (f (g n) ∷ [])) (map-upto g n)
