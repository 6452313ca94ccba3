-- The row numbers of entries that stand at a second, among others: which they are, and how many. Assumes nothing.
use mathlib.Core.Path.{◌≡◌, refl, ap, ◌∙◌}
use mathlib.Core.List.{List, [], ◌∷◌, ◌++◌, map}
use mathlib.Core.Bool.{Bool, true, false, cond}
use Prim.Native.Nat.{ℕ, zero, suc, ◌+◌, ◌%◌, ◌≤◌, ◌<◌}
use native.Mathlib.Omega.{arith}
use native.Mathlib.Nat.{add-zero}
use lib.ListN.{length, get_or, set}
use lib.Seq.{sets}
use Rattle.wire.specs.Sorted.{insert, sorted}
use Rattle.map.specs.State.{Entry, without}
use Rattle.map.specs.Deadline.{expired, standing}
use Rattle.map.specs.Step.{most_keys}
use Rattle.table.specs.Memory.{row_entry}
use Rattle.table.specs.Sweep.{standing_rows}

-- a store behind a run of stores is the last of them
pub sets_snoc : (vs l : List ℕ) (i x : ℕ) → set (sets l i vs) (i + length vs) x ≡ sets l i (vs ++ (x ∷ []))
sets_snoc [] l i x = ap (λ (k : ℕ). set l k x) (add-zero i)
sets_snoc (v ∷ vs) l i x = ap (λ (k : ℕ). set (sets (set l i v) (suc i) vs) k x) (omega arith) ∙ sets_snoc vs (set l i v) (suc i) x

-- as many pass a test in any order
module _ (test : Entry → Bool) (less : Entry → Entry → Bool) where
  insert-passes : (e : Entry) (es : List Entry) → length (without test (insert less e es)) ≡ length (without test (e ∷ es))
  unfolding insert without
  insert-passes e [] = refl
  insert-passes e (f ∷ es) = go (less f e) (test e) (test f) (insert-passes e es) refl
    where
      go : (a b c : Bool) → length (without test (insert less e es)) ≡ length (cond (test e) (without test es) (e ∷ without test es)) → test e ≡ b
          → length (without test (cond a (f ∷ insert less e es) (e ∷ (f ∷ es)))) ≡ length (cond b (cond (test f) (without test es) (f ∷ without test es)) (e ∷ cond (test f) (without test es) (f ∷ without test es)))
      go false b c h q = ap (λ (u : Bool). length (cond u (cond (test f) (without test es) (f ∷ without test es)) (e ∷ cond (test f) (without test es) (f ∷ without test es)))) q
      go true b c h q = on (test f) b (h ∙ ap (λ (u : Bool). length (cond u (without test es) (e ∷ without test es))) q)
        where
          on : (u b : Bool) → length (without test (insert less e es)) ≡ length (cond b (without test es) (e ∷ without test es))
              → length (cond u (without test (insert less e es)) (f ∷ without test (insert less e es))) ≡ length (cond b (cond u (without test es) (f ∷ without test es)) (e ∷ cond u (without test es) (f ∷ without test es)))
          on true true h = h
          on true false h = h
          on false true h = ap suc h
          on false false h = ap suc h

  pub sorted-passes : (es : List Entry) → length (without test (sorted less es)) ≡ length (without test es)
  unfolding sorted without
  sorted-passes [] = refl
  sorted-passes (e ∷ es) = insert-passes e (sorted less es) ∙ go (test e) (sorted-passes es)
    where
      go : (b : Bool) → length (without test (sorted less es)) ≡ length (without test es)
          → length (cond b (without test (sorted less es)) (e ∷ without test (sorted less es))) ≡ length (cond b (without test es) (e ∷ without test es))
      go true h = h
      go false h = ap suc h

module _ (now : ℕ) (t : List ℕ) where
  abbrev rows : List ℕ → List ℕ
  rows rs = standing_rows now t rs

  abbrev gone : ℕ → Bool
  gone r = expired now (row_entry t (r % most_keys))

  pub fewer-rows : (rs : List ℕ) → length (rows rs) ≤ length rs
  unfolding standing_rows
  fewer-rows [] = omega arith
  fewer-rows (r ∷ rs) = go (gone r) (fewer-rows rs)
    where
      go : (b : Bool) → length (rows rs) ≤ length rs → length (cond b (rows rs) (r ∷ rows rs)) ≤ suc (length rs)
      go true h = omega arith
      go false h = omega arith

  -- one number more
  pub rows_more : (rs : List ℕ) (x : ℕ) → gone x ≡ false → rows (rs ++ (x ∷ [])) ≡ rows rs ++ (x ∷ [])
  unfolding standing_rows
  rows_more [] x e = rw e
  rows_more (r ∷ rs) x e = go (gone r) (rows_more rs x e)
    where
      go : (b : Bool) → rows (rs ++ (x ∷ [])) ≡ rows rs ++ (x ∷ []) → cond b (rows (rs ++ (x ∷ []))) (r ∷ rows (rs ++ (x ∷ []))) ≡ cond b (rows rs) (r ∷ rows rs) ++ (x ∷ [])
      go true h = h
      go false h = ap (λ (l : List ℕ). r ∷ l) h

  pub rows_same : (rs : List ℕ) (x : ℕ) → gone x ≡ true → rows (rs ++ (x ∷ [])) ≡ rows rs
  unfolding standing_rows
  rows_same [] x e = rw e
  rows_same (r ∷ rs) x e = go (gone r) (rows_same rs x e)
    where
      go : (b : Bool) → rows (rs ++ (x ∷ [])) ≡ rows rs → cond b (rows (rs ++ (x ∷ []))) (r ∷ rows (rs ++ (x ∷ []))) ≡ cond b (rows rs) (r ∷ rows rs)
      go true h = h
      go false h = ap (λ (l : List ℕ). r ∷ l) h

  -- as many as the entries that stand
  pub rows-entries : (rs : List ℕ) → length (rows rs) ≡ length (standing now (map (λ r. row_entry t (r % most_keys)) rs))
  unfolding standing_rows without
  rows-entries [] = refl
  rows-entries (r ∷ rs) = go (gone r) (rows-entries rs)
    where
      go : (b : Bool) → length (rows rs) ≡ length (standing now (map (λ r. row_entry t (r % most_keys)) rs))
          → length (cond b (rows rs) (r ∷ rows rs))
          ≡ length (cond b (standing now (map (λ r. row_entry t (r % most_keys)) rs)) (row_entry t (r % most_keys) ∷ standing now (map (λ r. row_entry t (r % most_keys)) rs)))
      go true h = h
      go false h = ap suc h

  -- each is one of them that stands, each that stands is one, and two keep their order
  abbrev From : List ℕ → ℕ → Type 0
  From rs x = (a : ℕ) × (a < length rs) × (x ≡ get_or rs a 0) × (gone (get_or rs a 0) ≡ false)

  pub rows-from : (rs : List ℕ) (i : ℕ) → i < length (rows rs) → From rs (get_or (rows rs) i 0)
  unfolding standing_rows
  rows-from [] i l = absurd (omega arith)
  rows-from (r ∷ rs) i l = go (gone r) refl i l (rows-from rs)
    where
      up : (x : ℕ) → From rs x → From (r ∷ rs) x
      up x w = (suc w.0, omega (arith, w.1), w.2, w.3)

      go : (b : Bool) → gone r ≡ b → (i : ℕ) → i < length (cond b (rows rs) (r ∷ rows rs)) → ((i : ℕ) → i < length (rows rs) → From rs (get_or (rows rs) i 0)) → From (r ∷ rs) (get_or (cond b (rows rs) (r ∷ rows rs)) i 0)
      go true e i l h = up _ (h i l)
      go false e zero l h = (0, omega arith, refl, e)
      go false e (suc i) l h = up _ (h i (omega arith))

  abbrev Has : List ℕ → ℕ → Type 0
  Has rs x = (i : ℕ) × (i < length (rows rs)) × (get_or (rows rs) i 0 ≡ x)

  pub rows_has : (rs : List ℕ) (a : ℕ) → a < length rs → gone (get_or rs a 0) ≡ false → Has rs (get_or rs a 0)
  unfolding standing_rows
  rows_has [] a l e = absurd (omega arith)
  rows_has (r ∷ rs) a l e = go (gone r) refl a l e (rows_has rs)
    where
      go : (b : Bool) → gone r ≡ b → (a : ℕ) → a < suc (length rs) → gone (get_or (r ∷ rs) a 0) ≡ false → ((a : ℕ) → a < length rs → gone (get_or rs a 0) ≡ false → Has rs (get_or rs a 0))
          → (i : ℕ) × (i < length (cond b (rows rs) (r ∷ rows rs))) × (get_or (cond b (rows rs) (r ∷ rows rs)) i 0 ≡ get_or (r ∷ rs) a 0)
      go true q zero l e h = let z : ◌≡◌ {A = ℕ} 0 1 = cc in absurd (omega arith)
      go true q (suc a) l e h = h a (omega arith) e
      go false q zero l e h = (0, omega arith, refl)
      go false q (suc a) l e h = let w = h a (omega arith) e in (suc w.0, omega (arith, w.1), w.2)

  abbrev Two : List ℕ → ℕ → ℕ → Type 0
  Two rs x y = (a : ℕ) × (b : ℕ) × (a < b) × (b < length rs) × (x ≡ get_or rs a 0) × (y ≡ get_or rs b 0)

  pub rows-two : (rs : List ℕ) (i j : ℕ) → i < j → j < length (rows rs) → Two rs (get_or (rows rs) i 0) (get_or (rows rs) j 0)
  unfolding standing_rows
  rows-two [] i j l m = absurd (omega arith)
  rows-two (r ∷ rs) i j l m = go (gone r) i j l m (rows-two rs)
    where
      up : (x y : ℕ) → Two rs x y → Two (r ∷ rs) x y
      up x y w = (suc w.0, suc w.1, omega (arith, w.2), omega (arith, w.3), w.4, w.5)

      go : (b : Bool) (i j : ℕ) → i < j → j < length (cond b (rows rs) (r ∷ rows rs)) → ((i j : ℕ) → i < j → j < length (rows rs) → Two rs (get_or (rows rs) i 0) (get_or (rows rs) j 0))
          → Two (r ∷ rs) (get_or (cond b (rows rs) (r ∷ rows rs)) i 0) (get_or (cond b (rows rs) (r ∷ rows rs)) j 0)
      go true i j l m h = up _ _ (h i j l m)
      go false i zero l m h = absurd (omega arith)
      go false zero (suc j) l m h = let w = rows-from rs j (omega arith) in (0, suc w.0, omega arith, omega (arith, w.1), refl, w.2)
      go false (suc i) (suc j) l m h = up _ _ (h i j (omega arith) (omega arith))
