-- An order stays one: with an element more, with one less, and where the elements stand otherwise. Assumes nothing.
use mathlib.Core.Path.{◌≡◌, refl, sym, ap, subst₂, ◌∙◌}
use mathlib.Core.Bool.{Bool, true}
use mathlib.Core.Logic.{⊎_elim, ◌⊎◌, inl, inr}
use Prim.Native.Nat.{ℕ, ◌+◌, ◌-◌, ◌≤◌, ◌<◌}
use native.Mathlib.Omega.{arith}
use Rattle.wire.proofs.Basics.{lt-or_ge}
use Rattle.wire.specs.Sorted.{Ordered}

module _ {A : Type 0} (less : A → A → Bool) (f g : ℕ → A) (n : ℕ) (o : Ordered less f g n) where
  -- the same elements in another order
  pub reordered : (h : ℕ → A) → ((j : ℕ) → j < n → (i : ℕ) × (i < n) × (h i ≡ g j)) → ((j : ℕ) → j < n → (i : ℕ) × (i < n) × (g i ≡ h j)) → Ordered less f h n
  reordered h to fro =
      record {
        ascends = o.ascends;
        named = λ i l. let p = o.named i l in let q = to p.0 p.1 in (q.0, q.1, q.2 ∙ p.2);
        names = λ j l. let p = fro j l in let q = o.names p.0 p.1 in (q.0, q.1, q.2 ∙ p.2);
      }

  -- an order that agrees on the elements
  pub agreeing : (less' : A → A → Bool) → ((i j : ℕ) → i < n → j < n → less' (f i) (f j) ≡ less (f i) (f j)) → Ordered less' f g n
  agreeing less' same =
      record { ascends = λ i j l m. same i j (omega arith) m ∙ o.ascends i j l m; named = o.named; names = o.names }

  -- a new element, at place p of the order and behind the others
  module _ (p : ℕ) (x : A) (f' g' : ℕ → A) (low : p ≤ n) (under : (k : ℕ) → k < p → f' k ≡ f k) (at : f' p ≡ x) (over : (k : ℕ) → p ≤ k → k < n → f' (k + 1) ≡ f k)
      (kept : (k : ℕ) → k < n → g' k ≡ g k) (last : g' n ≡ x) (front : (k : ℕ) → k < p → less (f k) x ≡ true) (back : (k : ℕ) → p ≤ k → k < n → less x (f k) ≡ true) where
    -- the element at place k of the new order: one of the old ones, or the new one
    abbrev Came : ℕ → Type 0
    Came k = ((k < p) × (f' k ≡ f k)) ⊎ (((k ≡ p) × (f' k ≡ x)) ⊎ ((p < k) × (f' k ≡ f (k - 1))))

    came : (k : ℕ) → k < n + 1 → Came k
    came k l =
        ⊎_elim
        (λ q. inl (q, under k q))
        (λ q.
        ⊎_elim
        (λ r. let e : k - 1 + 1 ≡ k = omega arith in inr (inr (r, ap f' (sym e) ∙ over (k - 1) (omega arith) (omega arith))))
        (λ r. let e : k ≡ p = omega arith in inr (inl (e, ap f' e ∙ at)))
        (lt-or_ge p k))
        (lt-or_ge k p)

    rises : (i j : ℕ) → i < j → j < n + 1 → Came i → Came j → less (f' i) (f' j) ≡ true
    rises i j l m (inl a) (inl b) = subst₂ (λ (u v : A). less u v ≡ true) (sym a.1) (sym b.1) (o.ascends i j l (omega arith))
    rises i j l m (inl a) (inr (inl b)) = subst₂ (λ (u v : A). less u v ≡ true) (sym a.1) (sym b.1) (front i a.0)
    rises i j l m (inl a) (inr (inr b)) = subst₂ (λ (u v : A). less u v ≡ true) (sym a.1) (sym b.1) (o.ascends i (j - 1) (omega arith) (omega arith))
    rises i j l m (inr (inl a)) (inl b) = absurd (omega arith)
    rises i j l m (inr (inl a)) (inr (inl b)) = absurd (omega arith)
    rises i j l m (inr (inl a)) (inr (inr b)) = subst₂ (λ (u v : A). less u v ≡ true) (sym a.1) (sym b.1) (back (j - 1) (omega arith) (omega arith))
    rises i j l m (inr (inr a)) (inl b) = absurd (omega arith)
    rises i j l m (inr (inr a)) (inr (inl b)) = absurd (omega arith)
    rises i j l m (inr (inr a)) (inr (inr b)) = subst₂ (λ (u v : A). less u v ≡ true) (sym a.1) (sym b.1) (o.ascends (i - 1) (j - 1) (omega arith) (omega arith))

    from_old : (k i : ℕ) → i < n → f' k ≡ f i → (j : ℕ) × (j < n + 1) × (g' j ≡ f' k)
    from_old k i l e = let q = o.named i l in (q.0, omega (arith, q.1), kept q.0 q.1 ∙ q.2 ∙ sym e)

    named : (k : ℕ) → k < n + 1 → Came k → (j : ℕ) × (j < n + 1) × (g' j ≡ f' k)
    named k l (inl a) = from_old k k (omega arith) a.1
    named k l (inr (inl a)) = (n, omega arith, last ∙ sym a.1)
    named k l (inr (inr a)) = from_old k (k - 1) (omega arith) a.1

    names : (j : ℕ) → j < n + 1 → (i : ℕ) × (i < n + 1) × (f' i ≡ g' j)
    names j l =
        ⊎_elim
        (λ q.
        let e = o.names j q in
        ⊎_elim
        (λ r. (e.0, omega (arith, e.1), under e.0 r ∙ e.2 ∙ sym (kept j q)))
        (λ r. (e.0 + 1, omega (arith, e.1), over e.0 r e.1 ∙ e.2 ∙ sym (kept j q)))
        (lt-or_ge e.0 p))
        (λ q. let e : n ≡ j = omega arith in (p, omega arith, at ∙ sym last ∙ ap g' e))
        (lt-or_ge j n)

    pub one_more : Ordered less f' g' (n + 1)
    one_more =
        record {
          ascends = λ i j l m. rises i j l m (came i (omega arith)) (came j m);
          named = λ k l. named k l (came k l);
          names = names;
        }

  -- an element less, at place p of the order, which is element i
  module _ (p i : ℕ) (f' g' : ℕ → A) (within : p < n) (held : i < n) (same : f p ≡ g i) (f-once : (j k : ℕ) → j < n → k < n → f j ≡ f k → j ≡ k)
      (g-once : (j k : ℕ) → j < n → k < n → g j ≡ g k → j ≡ k) (f-low : (k : ℕ) → k < p → f' k ≡ f k) (f-high : (k : ℕ) → p ≤ k → k + 1 < n → f' k ≡ f (k + 1))
      (g-low : (k : ℕ) → k < i → g' k ≡ g k) (g-high : (k : ℕ) → i ≤ k → k + 1 < n → g' k ≡ g (k + 1)) where
    -- where an element of a shorter list came from, and where one that stays goes
    abbrev From : (ℕ → A) → (ℕ → A) → ℕ → ℕ → Type 0
    From h' h at k = (q : ℕ) × (q < n) × (q ≡ at → ⊥) × (h' k ≡ h q) × (((k < at) × (q ≡ k)) ⊎ ((at ≤ k) × (q ≡ k + 1)))

    from : (h' h : ℕ → A) (at : ℕ) → at < n → ((k : ℕ) → k < at → h' k ≡ h k) → ((k : ℕ) → at ≤ k → k + 1 < n → h' k ≡ h (k + 1)) → (k : ℕ) → k < n - 1 → From h' h at k
    from h' h at w lo hi k l =
        ⊎_elim
        (λ q. (k, omega arith, λ e. omega arith, lo k q, inl (q, refl)))
        (λ q. (k + 1, omega arith, λ e. omega arith, hi k q (omega arith), inr (q, refl)))
        (lt-or_ge k at)

    goes : (h' h : ℕ → A) (at : ℕ) → at < n → ((k : ℕ) → k < at → h' k ≡ h k) → ((k : ℕ) → at ≤ k → k + 1 < n → h' k ≡ h (k + 1)) → (q : ℕ) → q < n → (q ≡ at → ⊥)
        → (k : ℕ) × (k < n - 1) × (h' k ≡ h q)
    goes h' h at w lo hi q l d =
        ⊎_elim
        (λ r. (q, omega arith, lo q r))
        (λ r. let e : q - 1 + 1 ≡ q = omega (arith, d) in (q - 1, omega (arith, d), hi (q - 1) (omega (arith, d)) (omega (arith, d)) ∙ ap h e))
        (lt-or_ge q at)

    ascends : (j k : ℕ) → j < k → k < n - 1 → less (f' j) (f' k) ≡ true
    ascends j k l m =
        let a = from f' f p within f-low f-high j (omega arith) in
        let b = from f' f p within f-low f-high k m in
        subst₂ (λ (u v : A). less u v ≡ true) (sym a.3) (sym b.3) (o.ascends a.0 b.0 (climb a.0 b.0 a.4 b.4) b.1)
      where
        climb : (q r : ℕ) → ((j < p) × (q ≡ j)) ⊎ ((p ≤ j) × (q ≡ j + 1)) → ((k < p) × (r ≡ k)) ⊎ ((p ≤ k) × (r ≡ k + 1)) → q < r
        climb q r (inl a) (inl b) = omega arith
        climb q r (inl a) (inr b) = omega arith
        climb q r (inr a) (inl b) = absurd (omega arith)
        climb q r (inr a) (inr b) = omega arith

    pub one_less : Ordered less f' g' (n - 1)
    one_less =
        record {
          ascends = ascends;
          named = λ k l.
              let a = from f' f p within f-low f-high k l in
              let b = o.named a.0 a.1 in
              let c = goes g' g i held g-low g-high b.0 b.1 (λ e. a.2 (f-once a.0 p a.1 within (sym b.2 ∙ ap g e ∙ sym same))) in
              (c.0, c.1, c.2 ∙ b.2 ∙ sym a.3);
          names = λ k l.
              let a = from g' g i held g-low g-high k l in
              let b = o.names a.0 a.1 in
              let c = goes f' f p within f-low f-high b.0 b.1 (λ e. a.2 (g-once a.0 i a.1 held (sym b.2 ∙ ap f e ∙ same))) in
              (c.0, c.1, c.2 ∙ b.2 ∙ sym a.3);
        }
