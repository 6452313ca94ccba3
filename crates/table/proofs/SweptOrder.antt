-- Sweeping keeps the order: what is left of the rows held, and what is left of the order, are the rows whose entries stand. Assumes nothing.
use mathlib.Core.Path.{◌≡◌, refl, sym, ap, ap₂, subst, ◌∙◌}
use mathlib.Core.List.{List}
use mathlib.Core.Bool.{Bool, true, false, cond}
use mathlib.Core.Logic.{⊎_elim, inl, inr}
use Prim.Native.Nat.{ℕ, zero, suc, ◌+◌, ◌-◌, ◌%◌, ◌≤◌, ◌<◌}
use native.Mathlib.Omega.{arith}
use lib.ListN.{length, get_or}
use Rattle.wire.specs.Before.{before}
use Rattle.map.specs.State.{Entry}
use Rattle.map.specs.Step.{most_keys}
use Rattle.map.specs.Deadline.{expired, standing}
use Rattle.map.specs.KeyListing.{entry_before}
use Rattle.wire.proofs.UptoLaws.{map-upto}
use Rattle.table.specs.Memory.{count_index, places_at, order_at, rows_at, size, place_of, row_at, entry_of, count_of, entries_of, state_of, order_of, name_of, row_entry, order_held}
use Rattle.table.specs.Order.{OrderedRows}
use Rattle.table.specs.Write.{with_number, turned, less_row}
use Rattle.table.specs.Sweep.{standing_rows, with_standing, less_expired, less_all}
use Rattle.table.specs.KeysFrom.{entries_by_key}
use Rattle.table.proofs.Lists.{lt-or_ge, length_remove_at, length_upto, get_or_upto}
use Rattle.table.proofs.RowLaws.{count_most, entries_are}
use Rattle.table.proofs.Parts.{sets_in}
use Rattle.table.proofs.Regions.{Kept, kept_sets, kept-both, kept-wide, number-kept, place_kept, row_from}
use Rattle.table.proofs.Places.{turned-kept, turned-before, turned_down}
use Rattle.table.proofs.Writes.{number-written, Shape, held}
use Rattle.table.proofs.Entries.{row-less}
use Rattle.table.proofs.OrderRegions.{order-kept, name-kept}
use Rattle.table.proofs.KeepsOrder.{same_count}
use Rattle.table.proofs.FindLaws.{row_below}
use Rattle.table.proofs.Grows.{order_write}
use Rattle.table.proofs.KeyWalk.{entries_sorted}
use Rattle.table.proofs.Sifts.{sorted-passes, fewer-rows, rows-entries, rows-from, rows_has, rows-two}

-- the rows held that are left where the first m entries are swept, and that the bytes from the order on are kept
pub record LessRows (now m : ℕ) (u v : List ℕ) : Type 0 where
  pub same : Kept 0 order_at u v
  pub to : (j : ℕ) → j < count_of v → (i : ℕ) × (i < count_of u) × (place_of v j ≡ place_of u i) × (i < m → expired now (held u i) ≡ false)
  pub fro : (i : ℕ) → i < count_of u → (i < m → expired now (held u i) ≡ false) → (j : ℕ) × (j < count_of v) × (place_of v j ≡ place_of u i)

-- how many entries are held
pub long-entries : (t : List ℕ) → length (entries_of t) ≡ count_of t
unfolding entries_of
long-entries t = length_upto _ _

module _ (now i : ℕ) (u : List ℕ) (s : Shape u) (l : i < count_of u) (rest : (x : List ℕ) → Shape x → i ≤ count_of x → LessRows now i x (less_all now i x)) where
  abbrev top : ℕ
  top = count_of u - 1

  abbrev w : List ℕ
  w = turned i top u

  abbrev u₁ : List ℕ
  u₁ = with_number count_index top w

  few : top < most_keys
  few = omega (arith, count_most u)

  k-w : Kept (places_at + i) (places_at + top + 1) u w
  k-w = turned-kept u i top s.long (omega arith) few

  k-n : Kept 0 8 w u₁
  k-n = number-written count_index top w (k-w.long ∙ s.long) (omega arith)

  k-u : Kept 0 order_at u u₁
  k-u = kept-both (kept-wide (omega arith) (omega (arith, few)) k-w) (kept-wide (omega arith) (omega arith) k-n)

  low : (j : ℕ) → j < i → place_of u₁ j ≡ place_of u j
  low j m = place_kept k-n j (inr (omega arith)) ∙ turned-before u i top s.long (omega arith) few j m

  high : (j : ℕ) → i ≤ j → j < top → place_of u₁ j ≡ place_of u (j + 1)
  high j m n = place_kept k-n j (inr (omega arith)) ∙ turned_down u i top s.long (omega arith) few j m n

  still : (j : ℕ) → j < i → held u₁ j ≡ held u j
  still j m = (row_from (kept-wide (omega arith) (omega arith) k-u) s.long j j (low j m)).entry

  less-gone : expired now (held u i) ≡ true → LessRows now (suc i) u (less_all now i (less_row i u))
  unfolding less_row
  less-gone e =
      let b = row-less u i s l in
      let n : count_of u₁ ≡ top =
      omega (arith, long-entries u₁, ap length b.entries, length_remove_at i (entries_of u) (entry_of u 0) (omega (arith, long-entries u)), long-entries u) in
      let r = rest u₁ b.shape (omega arith) in
      record {
        same = kept-both k-u r.same;
        to = λ j m.
            let x = r.to j m in
            ⊎_elim
            (λ q. (x.0, omega (arith, x.1), x.2 ∙ low x.0 q, λ _. ap (expired now) (sym (still x.0 q)) ∙ x.3 q))
            (λ q. (x.0 + 1, omega (arith, x.1), x.2 ∙ high x.0 q (omega (arith, x.1)), λ z. absurd (omega arith)))
            (lt-or_ge x.0 i);
        fro = λ j m f.
            ⊎_elim
            (λ q. let x = r.fro j (omega arith) (λ _. ap (expired now) (still j q) ∙ f (omega arith)) in (x.0, x.1, x.2 ∙ low j q))
            (λ q.
            ⊎_elim
            (λ z.
            let g : j - 1 + 1 ≡ j = omega arith in
            let x = r.fro (j - 1) (omega arith) (λ y. absurd (omega arith)) in
            (x.0, x.1, x.2 ∙ high (j - 1) (omega arith) (omega arith) ∙ ap (place_of u) g))
            (λ z.
            let g : j ≡ i = omega arith in
            let a : expired now (held u i) ≡ false = subst (λ (k : ℕ). expired now (held u k) ≡ false) g (f (omega arith)) in
            let y : ◌≡◌ {A = ℕ} 0 1 = cc in
            absurd (omega arith))
            (lt-or_ge i j))
            (lt-or_ge j i);
      }

  less-stands : expired now (held u i) ≡ false → LessRows now (suc i) u (less_all now i u)
  less-stands e =
      let r = rest u s (omega arith) in
      record {
        same = r.same;
        to = λ j m. let x = r.to j m in (
          x.0,
          x.1,
          x.2,
          λ z.
              ⊎_elim (λ q. x.3 q) (λ q. let g : i ≡ x.0 = omega arith in subst (λ (k : ℕ). expired now (held u k) ≡ false) g e) (lt-or_ge x.0 i),
        );
        fro = λ j m f. r.fro j m (λ z. f (omega arith));
      }

  less-more : (b : Bool) → expired now (held u i) ≡ b → LessRows now (suc i) u (less_all now i (cond b (less_row i u) u))
  less-more true e = less-gone e
  less-more false e = less-stands e

less-rows : (now m : ℕ) (u : List ℕ) → Shape u → m ≤ count_of u → LessRows now m u (less_all now m u)
unfolding less_all less_expired
less-rows now zero u s l =
    record {
      same = record { long = refl; low = λ k q. refl; high = λ k q. refl };
      to = λ j m. (j, m, refl, λ z. absurd (omega arith));
      fro = λ i m f. (i, m, refl);
    }
less-rows now (suc i) u s l = less-more now i u s l (λ x. less-rows now i x) (expired now (entry_of u (row_at u i))) refl

module _ (now : ℕ) (t : List ℕ) (h : length t ≡ size) where
  abbrev n : ℕ
  n = count_of t

  abbrev rs : List ℕ
  rs = standing_rows now t (order_held t)

  long_order : length (order_held t) ≡ n
  long_order = length_upto (order_of t) n

  few-rows : length rs ≤ n
  few-rows = omega (arith, fewer-rows now t (order_held t), long_order)

  pub standing-kept : Kept order_at rows_at t (with_standing now t)
  unfolding with_standing
  standing-kept = kept_sets _ _ t order_at rs (omega arith) (omega (arith, few-rows, count_most t)) (omega arith)

  pub standing-count : count_of (with_standing now t) ≡ n
  standing-count = same_count t _ (number-kept standing-kept count_index (inl (omega arith)))

module _ (now : ℕ) (t : List ℕ) (s : Shape t) where
  module _ (o : OrderedRows t) (full : count_of (less_all now (count_of t) (with_standing now t)) ≡ length (standing now (entries_of t))) where
    abbrev m₀ : ℕ
    m₀ = count_of t

    abbrev left : List ℕ
    left = standing_rows now t (order_held t)

    kept : Kept order_at rows_at t (with_standing now t)
    kept = standing-kept now t s.long

    count : count_of (with_standing now t) ≡ m₀
    count = standing-count now t s.long

    order-long : length (order_held t) ≡ m₀
    order-long = length_upto (order_of t) m₀

    few-left : length left ≤ m₀
    few-left = omega (arith, fewer-rows now t (order_held t), order-long)

    abbrev t₁ : List ℕ
    t₁ = with_standing now t

    abbrev v : List ℕ
    v = less_all now m₀ t₁

    rows : LessRows now m₀ t₁ v
    rows = less-rows now m₀ t₁ (order_write t t₁ s kept).shape (omega (arith, count))

    -- as many rows are left of the order
    many : count_of v ≡ length left
    unfolding entries_by_key
    many =
        full
        ∙ ap (λ (es : List Entry). length (standing now es)) (sym (entries_are t s.long))
        ∙ sym (sorted-passes (expired now) entry_before (state_of t).entries)
        ∙ ap (λ (es : List Entry). length (standing now es)) (sym (entries_sorted t now s.long s.places o) ∙ sym (map-upto (λ r. row_entry t (r % most_keys)) (order_of t) m₀))
        ∙ sym (rows-entries now t (order_held t))

    at : (i : ℕ) → i < count_of v → order_of v i ≡ get_or left i 0
    unfolding with_standing order_of
    at i l =
        order-kept rows.same i (inr (omega arith))
        ∙ sets_in t order_at left (omega (arith, few-left, count_most t, s.long)) i (omega (arith, many))

    of : (a : ℕ) → a < m₀ → get_or (order_held t) a 0 ≡ order_of t a
    of a l = get_or_upto (order_of t) m₀ a 0 l

    name : (r : ℕ) → r < most_keys → name_of v r ≡ name_of t r
    name r l =
        name-kept rows.same (kept.long ∙ s.long) r l (inr (omega arith)) ∙ name-kept kept s.long r l (inr (omega arith))

    entry-of : (i : ℕ) → i < m₀ → held t₁ i ≡ held t i
    entry-of i l = (row_from (kept-wide (omega arith) (omega arith) kept) s.long i i (place_kept kept i (inl (omega (arith, count_most t))))).entry

    pub standing-order : OrderedRows v
    standing-order = record { ascends = ascends; named = named; names = names }
      where
        ascends : (i j : ℕ) → i < j → j < count_of v → before (name_of v (order_of v i)) (name_of v (order_of v j)) ≡ true
        ascends i j l m =
            let w = rows-two now t (order_held t) i j l (omega (arith, many)) in
            let b : w.1 < m₀ = omega (arith, w.3, order-long) in
            let a : w.0 < m₀ = omega (arith, w.2) in
            let x : order_of v i ≡ order_of t w.0 = at i (omega arith) ∙ w.4 ∙ of w.0 a in
            let y : order_of v j ≡ order_of t w.1 = at j m ∙ w.5 ∙ of w.1 b in
            ap₂ (λ (p q : ℕ). before (name_of v p) (name_of v q)) x y
            ∙ ap₂ before (name (order_of t w.0) (row_below t s.long s.places o w.0 a)) (name (order_of t w.1) (row_below t s.long s.places o w.1 b))
            ∙ o.ascends w.0 w.1 w.2 b

        named : (i : ℕ) → i < count_of v → (j : ℕ) × (j < count_of v) × (place_of v j ≡ order_of v i)
        named i l =
            let w = rows-from now t (order_held t) i (omega (arith, many)) in
            let a : w.0 < m₀ = omega (arith, w.1, order-long) in
            let x = of w.0 a in
            let k = o.named w.0 a in
            let g : expired now (held t₁ k.0) ≡ false =
            ap (expired now) (entry-of k.0 k.1) ∙ ap (λ (r : ℕ). expired now (row_entry t (r % most_keys))) (k.2 ∙ sym x) ∙ w.3 in
            let z = rows.fro k.0 (omega (arith, k.1, count)) (λ _. g) in
            (z.0, z.1, z.2 ∙ place_kept kept k.0 (inl (omega (arith, k.1, count_most t))) ∙ k.2 ∙ sym (at i l ∙ w.2 ∙ x))

        names : (j : ℕ) → j < count_of v → (i : ℕ) × (i < count_of v) × (order_of v i ≡ place_of v j)
        names j m =
            let w = rows.to j m in
            let b : w.0 < m₀ = omega (arith, w.1, count) in
            let k = o.names w.0 b in
            let x = of k.0 k.1 in
            let g : expired now (row_entry t (get_or (order_held t) k.0 0 % most_keys)) ≡ false =
            ap (λ (r : ℕ). expired now (row_entry t (r % most_keys))) (x ∙ k.2) ∙ ap (expired now) (sym (entry-of w.0 b)) ∙ w.3 b in
            let z = rows_has now t (order_held t) k.0 (omega (arith, k.1, order-long)) g in
            (z.0, omega (arith, z.1, many), at z.0 (omega (arith, z.1, many)) ∙ z.2 ∙ x ∙ k.2 ∙ sym (place_kept kept w.0 (inl (omega (arith, b, count_most t)))) ∙ sym w.2)
