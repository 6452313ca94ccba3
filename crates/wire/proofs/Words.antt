-- Two keys compared byte by byte, and by numbers of several bytes. Assumes nothing.
use mathlib.Core.Path.{◌≡◌, refl, sym, ap, ◌∙◌}
use mathlib.Core.List.{List, [], ◌∷◌}
use mathlib.Core.Bool.{Bool}
use mathlib.Core.Logic.{⊎_elim}
use Prim.Native.Nat.{ℕ, zero, suc, ◌+◌, ◌*◌, ◌≤◌, ◌<◌}
use native.Mathlib.Omega.{arith}
use native.Mathlib.Decide.{ℕ_discrete}
use native.Mathlib.Nat.{add-zero}
use lib.ListN.{length, get_or, drop, length-drop, drop_of_length-le}
use lib.Seq.{drop-cons}
use lib.Dec.{ltb}
use borrow.Author.Tests.{eq-eqb, ne_eqb, lt-ltb, le-ltb}
use Rattle.wire.specs.Codec.{Bytes}
use Rattle.wire.specs.Field.{big_at}
use Rattle.wire.proofs.Basics.{lt-or_ge}
use Rattle.wire.specs.Before.{before}

module _ (a b : List ℕ) where
  -- the bytes from i on
  abbrev pub from : ℕ → Bool
  from i = before (drop i a) (drop i b)

  module _ (i : ℕ) (h : i < length a) (g : i < length b) where
    pub byte-alike : get_or a i 0 ≡ get_or b i 0 → from i ≡ from (suc i)
    unfolding before
    byte-alike e = rw (drop-cons a i 0 h, drop-cons b i 0 g, eq-eqb _ _ e)

    pub byte-unlike : (get_or a i 0 ≡ get_or b i 0 → ⊥) → from i ≡ ltb (get_or a i 0) (get_or b i 0)
    unfolding before
    byte-unlike d = rw (drop-cons a i 0 h, drop-cons b i 0 g, ne_eqb _ _ d)

  -- one of the two ends
  none_before : (y : List ℕ) → before [] y ≡ ltb 0 (length y)
  unfolding before
  none_before [] = refl
  none_before (x ∷ y) = sym (lt-ltb 0 (length (x ∷ y)) (omega arith))

  before-none : (x : List ℕ) → before x [] ≡ ltb (length x) 0
  unfolding before
  before-none [] = refl
  before-none (y ∷ x) = sym (le-ltb (length (y ∷ x)) 0 (omega arith))

  ltb_same : (m n m' n' : ℕ) → (m < n → m' < n') → (m' < n' → m < n) → ltb m n ≡ ltb m' n'
  ltb_same m n m' n' to fro =
      ⊎_elim
      (λ l. lt-ltb m n l ∙ sym (lt-ltb m' n' (to l)))
      (λ l. le-ltb m n l ∙ sym (⊎_elim (λ k. absurd (omega (arith, fro k))) (λ k. le-ltb m' n' k) (lt-or_ge m' n')))
      (lt-or_ge m n)

  pub first_ends : (i : ℕ) → i ≡ length a → from i ≡ ltb (length a) (length b)
  first_ends i e =
      ap (λ (x : List ℕ). before x (drop i b)) (drop_of_length-le a {i = i} (omega arith))
      ∙ none_before (drop i b)
      ∙ ltb_same 0 (length (drop i b)) (length a) (length b) (λ l. omega (arith, length-drop i b)) (λ l. omega (arith, length-drop i b))

  pub second-ends : (i : ℕ) → i ≡ length b → i ≤ length a → from i ≡ ltb (length a) (length b)
  second-ends i e m =
      ap (λ (y : List ℕ). before (drop i a) y) (drop_of_length-le b {i = i} (omega arith))
      ∙ before-none (drop i a)
      ∙ ltb_same (length (drop i a)) 0 (length a) (length b) (λ l. omega (arith, length-drop i a)) (λ l. omega (arith, length-drop i a))

  -- n bytes as a number
  module _ (p : Bytes a) (q : Bytes b) where
    pub record Words (n i : ℕ) : Type 0 where
      pub alike : big_at n a i ≡ big_at n b i → from i ≡ from (i + n)
      pub unlike : (big_at n a i ≡ big_at n b i → ⊥) → from i ≡ ltb (big_at n a i) (big_at n b i)

    words_more : (n i : ℕ) → i + suc n ≤ length a → i + suc n ≤ length b → Words n i → Words (suc n) i
    unfolding big_at
    words_more n i h g w = go (ℕ_discrete (big_at n a i) (big_at n b i)) (ℕ_discrete (get_or a (i + n) 0) (get_or b (i + n) 0))
      where
        next : i + suc n ≡ suc (i + n)
        next = omega arith

        go : Dec (big_at n a i ≡ big_at n b i) → Dec (get_or a (i + n) 0 ≡ get_or b (i + n) 0) → Words (suc n) i
        go (yes e) (yes f) =
            record {
              alike = λ z. w.alike e ∙ byte-alike (i + n) (omega arith) (omega arith) f ∙ ap from (sym next);
              unlike = λ d. absurd (d (rw (e, f)));
            }
        go (yes e) (no f) =
            record {
              alike = λ z. absurd (f (omega (arith, e, z)));
              unlike = λ d. w.alike e ∙ byte-unlike (i + n) (omega arith) (omega arith) f
                  ∙ ltb_same (get_or a (i + n) 0) (get_or b (i + n) 0) (big_at n a i * 256 + get_or a (i + n) 0) (big_at n b i * 256 + get_or b (i + n) 0) (λ l. omega (arith, e, l)) (λ l. omega (arith, e, l));
            }
        go (no e) f =
            record {
              alike = λ z. absurd (e (omega (arith, z, p (i + n), q (i + n))));
              unlike = λ d. w.unlike e ∙ ltb_same (big_at n a i) (big_at n b i) (big_at n a i * 256 + get_or a (i + n) 0) (big_at n b i * 256 + get_or b (i + n) 0) (λ l. omega (arith, l, p (i + n), q (i + n))) (λ l. omega (arith, l, e, p (i + n), q (i + n)));
            }

    pub words : (n i : ℕ) → i + n ≤ length a → i + n ≤ length b → Words n i
    unfolding big_at
    words zero i h g = record { alike = λ z. ap from (sym (add-zero i)); unlike = λ d. absurd (d refl) }
    words (suc n) i h g = words_more n i h g (words n i (omega arith) (omega arith))
