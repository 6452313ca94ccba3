-- A turn of the pass that takes the rows whose entries have expired out of the order. Assumes nothing.
use mathlib.Core.Path.{◌≡◌, refl, sym, ap, ap₂, subst, ◌∙◌}
use mathlib.Core.List.{List, [], ◌∷◌, ◌++◌}
use mathlib.Core.Bool.{true, false}
use mathlib.Core.Logic.{inr}
use Prim.Native.Nat.{ℕ, ◌+◌, ◌*◌, ◌%◌, ◌≤◌, ◌<◌}
use native.Mathlib.Omega.{arith}
use native.Mathlib.Numerals.{add-one}
use lib.ListN.{length, get_or, set, length-append, length-set}
use lib.Seq.{sets}
use Rattle.map.specs.Deadline.{expired}
use Rattle.map.specs.Step.{most_keys}
use Rattle.table.specs.Bytes.{upto}
use Rattle.table.specs.Memory.{order_at, rows_at, row_width, size, count_of, order_of, row_entry}
use Rattle.table.specs.Sweep.{standing_rows, with_standing}
use Rattle.table.proofs.Lists.{length_upto}
use Rattle.table.proofs.RowLaws.{count_most}
use Rattle.table.proofs.Parts.{sets_behind}
use Rattle.table.proofs.Regions.{Kept, kept_sets, row_kept}
use Rattle.table.proofs.Sifts.{sets_snoc, fewer-rows, rows_more, rows_same}

-- p places are passed, and `kept` of their rows stand
pub record Sifted (now : ℕ) (t u : List ℕ) (kept p : ℕ) : Type 0 where
  pub long : length u ≡ size
  pub within : p ≤ count_of t
  pub low : kept ≤ p
  pub many : kept ≡ length (standing_rows now t (upto (order_of t) p))
  pub same : u ≡ sets t order_at (standing_rows now t (upto (order_of t) p))

module _ (now : ℕ) (t : List ℕ) (h : length t ≡ size) where
  pub sifted-none : Sifted now t t 0 0
  unfolding upto standing_rows
  sifted-none = record { long = h; within = omega arith; low = omega arith; many = refl; same = refl }

  pub sifted-all : (u : List ℕ) (kept p : ℕ) → count_of t ≤ p → Sifted now t u kept p → u ≡ with_standing now t
  unfolding with_standing
  sifted-all u kept p l f =
      let e : p ≡ count_of t = omega (arith, f.within) in
      f.same ∙ ap (λ (k : ℕ). sets t order_at (standing_rows now t (upto (order_of t) k))) e

  module _ (u : List ℕ) (kept p : ℕ) (f : Sifted now t u kept p) (l : p < count_of t) where
    abbrev passed : List ℕ
    passed = upto (order_of t) p

    abbrev xs : List ℕ
    xs = standing_rows now t passed

    few : length xs ≤ p
    few = omega (arith, fewer-rows now t passed, length_upto (order_of t) p)

    sifted-kept : Kept order_at rows_at t u
    sifted-kept = subst (Kept order_at rows_at t) (sym f.same) (kept_sets _ _ t order_at xs (omega arith) (omega (arith, few, count_most t)) (omega arith))

    -- the row number that is read, and its entry
    pub sifted-read : get_or u (order_at + p) 0 ≡ order_of t p
    unfolding order_of
    sifted-read =
        ap (λ (w : List ℕ). get_or w (order_at + p) 0) f.same
        ∙ sets_behind t order_at xs (omega (arith, few, count_most t)) (order_at + p) (omega (arith, few))

    pub sifted-row : (r : ℕ) → r < most_keys → row_entry u r ≡ row_entry t r
    sifted-row r m = (row_kept sifted-kept (rows_at + row_width * r) (omega arith) (inr (omega arith))).entry

    more : upto (order_of t) (p + 1) ≡ passed ++ (order_of t p ∷ [])
    unfolding upto
    more = rw add-one

    pub sifted_take : expired now (row_entry t (order_of t p % most_keys)) ≡ false → Sifted now t (set u (order_at + kept) (order_of t p)) (kept + 1) (p + 1)
    sifted_take g =
        let e = ap (standing_rows now t) more ∙ rows_more now t passed (order_of t p) g in
        record {
          long = simp length-set f.long;
          within = omega arith;
          low = omega (arith, f.low);
          many = omega (arith, f.many, ap length e, length-append xs (order_of t p ∷ []));
          same =
              ap₂ (λ (w : List ℕ) (k : ℕ). set w (order_at + k) (order_of t p)) f.same f.many ∙ sets_snoc xs t order_at (order_of t p) ∙ ap (sets t order_at) (sym e);
        }

    pub sifted-pass : expired now (row_entry t (order_of t p % most_keys)) ≡ true → Sifted now t u kept (p + 1)
    sifted-pass g =
        let e = ap (standing_rows now t) more ∙ rows_same now t passed (order_of t p) g in
        record { long = f.long; within = omega arith; low = omega (arith, f.low); many = f.many ∙ ap length (sym e); same = f.same ∙ ap (sets t order_at) (sym e) }
