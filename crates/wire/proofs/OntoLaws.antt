-- The pigeonhole principle: n numbers below n that differ are all the numbers below n. Assumes nothing.
use mathlib.Core.Path.{◌≡◌, sym, ◌∙◌}
use mathlib.Core.Logic.{⊎_elim}
use Prim.Native.Nat.{ℕ, zero, suc, ◌<◌}
use native.Mathlib.Omega.{arith}
use native.Mathlib.Decide.{ℕ_discrete}
use Rattle.wire.proofs.Basics.{lt-or_ge}

-- the number a in place of n
abbrev swapped : (a n x : ℕ) → Dec (x ≡ n) → ℕ
swapped a n x (yes e) = a
swapped a n x (no d) = x

module _ (a n : ℕ) (most : a < suc n) where
  below_last : (x : ℕ) → x < suc n → (x ≡ n → ⊥) → x < n
  below_last x l d = ⊎_elim (λ q. q) (λ q. absurd (d (omega arith))) (lt-or_ge x n)

  swapped-below : (x : ℕ) (d : Dec (x ≡ n)) → x < suc n → (x ≡ a → ⊥) → swapped a n x d < n
  swapped-below x (yes e) l p = below_last a most (λ q. p (e ∙ sym q))
  swapped-below x (no d) l p = below_last x l d

  swapped-once : (x y : ℕ) (d : Dec (x ≡ n)) (e : Dec (y ≡ n)) → (x ≡ a → ⊥) → (y ≡ a → ⊥) → swapped a n x d ≡ swapped a n y e → x ≡ y
  swapped-once x y (yes d) (yes e) p q h = d ∙ sym e
  swapped-once x y (yes d) (no e) p q h = absurd (q (sym h))
  swapped-once x y (no d) (yes e) p q h = absurd (p h)
  swapped-once x y (no d) (no e) p q h = h

pub onto : (n : ℕ) (f : ℕ → ℕ) → ((i : ℕ) → i < n → f i < n) → ((i j : ℕ) → i < n → j < n → f i ≡ f j → i ≡ j) → (j : ℕ) → j < n → (i : ℕ) × (i < n) × (f i ≡ j)
onto zero f below once j m = absurd (omega arith)
onto (suc n) f below once j m = go (ℕ_discrete j (f n)) (onto n (λ i. swapped (f n) n (f i) (ℕ_discrete (f i) n)))
  where
    most : f n < suc n
    most = below n (omega arith)

    other : (i : ℕ) → i < n → f i ≡ f n → ⊥
    other i l e = let z = once i n (omega arith) (omega arith) e in omega arith

    go : Dec (j ≡ f n)
        → (((i : ℕ) → i < n → swapped (f n) n (f i) (ℕ_discrete (f i) n) < n)
        → ((i k : ℕ) → i < n → k < n → swapped (f n) n (f i) (ℕ_discrete (f i) n) ≡ swapped (f n) n (f k) (ℕ_discrete (f k) n) → i ≡ k)
        → (k : ℕ) → k < n → (i : ℕ) × (i < n) × (swapped (f n) n (f i) (ℕ_discrete (f i) n) ≡ k))
        → (i : ℕ) × (i < suc n) × (f i ≡ j)
    go (yes e) rest = (n, omega arith, sym e)
    go (no d) rest =
        let w =
        rest (λ i l. swapped-below (f n) n most (f i) (ℕ_discrete (f i) n) (below i (omega arith)) (other i l))
        (λ i k l r e. once i k (omega arith) (omega arith) (swapped-once (f n) n most (f i) (f k) (ℕ_discrete (f i) n) (ℕ_discrete (f k) n) (other i l) (other k r) e))
        (swapped (f n) n j (ℕ_discrete j n)) (swapped-below (f n) n most j (ℕ_discrete j n) m d) in
        (w.0, omega (arith, w.1), swapped-once (f n) n most (f w.0) j (ℕ_discrete (f w.0) n) (ℕ_discrete j n) (other w.0 w.1) d w.2)
