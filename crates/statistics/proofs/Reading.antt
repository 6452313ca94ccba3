-- What reading statistics goes by. Assumes nothing.
use mathlib.Core.Path.{◌≡◌, refl, sym, ap, ◌∙◌}
use mathlib.Core.List.{List, [], ◌∷◌, ◌++◌, append_assoc, append-nil}
use mathlib.Core.Bool.{cond, ◌&&◌}
use lib.Pointwise.{pointwise}
use borrow.Author.Tests.{eq-eqb}
use Prim.Native.Nat.{ℕ, zero, suc, ◌+◌, ◌<◌}
use native.Mathlib.Omega.{arith}
use native.Mathlib.Numerals.{add-one}
use native.Mathlib.Nat.{add-zero}
use lib.ListN.{length, get_or, take, drop, set, length-set, drop_of_length-le}
use lib.Seq.{drop-cons, take-suc-set, take_all}
use lib.Dec.{eqb}
use Rattle.wire.specs.Codec.{Read, whole, refused, after, mapped, read_at, empty, as_type}
use Rattle.wire.specs.Number.{v_int}
use Rattle.wire.specs.Field.{limited}
use Rattle.wire.specs.Same.{same_list}
use Rattle.wire.proofs.Laws.{after-after, after-only, after_same}
use Rattle.wire.proofs.At.{at_type, at-seq, at-guard, at_cond}
use Rattle.decimal.specs.Decimal.{decimal}
use Rattle.decimal.proofs.DecimalRead.{part-by}
use Rattle.field.specs.FieldRead.{codec_of, part_of, span_to}
use Rattle.field.specs.declared.Kind.TheVariants.{VInt}
use Rattle.field.specs.declared.Span.{Span}
use Rattle.statistics.specs.Statistics.{titles, title_limit, named, statistic, values, statistics}

module _ (s : List ℕ) (at : ℕ) where
  -- a statistic goes by the name that its reader found, and all by their number
  pub statistic-by : (n : List ℕ) (r : Read Span) → r ≡ mapped span_to (read_at (limited title_limit) s at)
      → read_at (statistic n) s at ≡ after r (λ p j. cond (same_list n (part_of s p)) (read_at decimal s j) (refused 8))
  unfolding statistic named
  statistic-by n r e =
      simp (at_type, at-seq, at-guard, after-after, at_cond, after-only) (part-by s at title_limit r (λ m j. cond (same_list n m) (read_at decimal s j) (refused 8)) e)

  pub statistics-by : (r : Read ℕ) → r ≡ read_at (codec_of VInt) s at
      → read_at statistics s at ≡ after r (λ n j. cond (eqb n 9) (read_at (values titles) s j) (refused 8))
  unfolding statistics v_int
  statistics-by r e = rw e (simp (at_type, at-seq, at-guard, after-after, at_cond, after-only))

  at-values : (n : List ℕ) (ns : List (List ℕ)) → read_at (values (n ∷ ns)) s at
      ≡ after (read_at (statistic n) s at) (λ v j. after (read_at (values ns) s j) (λ vs k. whole (v ∷ vs) k))
  unfolding values
  at-values n ns = simp (at_type, at-seq, after-after)

-- the elements of a list from the k-th on, by their places
abbrev from : (ℕ → ℕ) → ℕ → ℕ → List ℕ
from f k zero = []
from f k (suc n) = f k ∷ from f (suc k) n

rest : (ns : List ℕ) (k n : ℕ) → k + n ≡ length ns → from (λ i. get_or ns i 0) k n ≡ drop k ns
rest ns k zero h = sym (drop_of_length-le ns {i = k} (omega arith))
rest ns k (suc n) h = ap (get_or ns k 0 ∷◌) (rest ns (suc k) n (omega arith)) ∙ sym (drop-cons ns k 0 (omega arith))

pub nine : (ns : List ℕ) → length ns ≡ 9 → from (λ i. get_or ns i 0) 0 9 ≡ ns
nine ns h = rest ns 0 9 (omega arith)

-- where there are nine, the first i of them are read, up to `here`, and stand at the front of ns
pub record Told (s : List ℕ) (at i here : ℕ) (ns : List ℕ) : Type 0 where
  pub rest : read_at statistics s at ≡ after (read_at (values (drop i titles)) s here) (λ vs j. whole (take i ns ++ vs) j)
  pub long : length ns ≡ 9

module _ (s : List ℕ) (at : ℕ) where
  pub told_none : (ns : List ℕ) → length ns ≡ 9 → (n j : ℕ) → n ≡ 9 → whole n j ≡ read_at (codec_of VInt) s at → Told s at 0 j ns
  told_none ns h n j e r =
      record { rest = statistics-by s at (whole n j) r ∙ rw (eq-eqb n 9 e) (sym (after-only (read_at (values titles) s j))); long = h }

  module _ (i here : ℕ) (ns : List ℕ) (g : Told s at i here ns) (l : i < 9) where
    -- the next one decides
    pub told-by : (name : List ℕ) → name ≡ get_or titles i [] → (r : Read ℕ) → r ≡ read_at (statistic name) s here
        → read_at statistics s at ≡ after r (λ v k. after (read_at (values (drop (suc i) titles)) s k) (λ vs j. whole (take i ns ++ (v ∷ vs)) j))
    unfolding titles
    told-by name q r e = g.rest ∙ rw (e, q, drop-cons titles i [] l, at-values s here (get_or titles i []) (drop (suc i) titles)) (simp after-after)

    pub told_more : (name : List ℕ) → name ≡ get_or titles i [] → (v k : ℕ) → whole v k ≡ read_at (statistic name) s here → Told s at (i + 1) k (set ns i v)
    told_more name m v k e =
        let q : take (suc i) (set ns i v) ≡ take i ns ++ (v ∷ []) = take-suc-set ns i v (omega (arith, g.long)) in
        record {
          rest = told-by name m (whole v k) e ∙ rw (add-one, q) (after_same (read_at (values (drop (suc i) titles)) s k) (λ vs j. rw (append_assoc (take i ns) (v ∷ []) vs)));
          long = simp length-set g.long;
        }

  at_none : (here : ℕ) → read_at (values []) s here ≡ whole [] here
  unfolding values read_at as_type empty
  at_none here = rw add-zero

  pub told-all : (i here : ℕ) (ns : List ℕ) → i ≡ 9 → Told s at i here ns → read_at statistics s at ≡ whole ns here
  unfolding titles
  told-all i here ns e g = (rw e at g.rest) ∙ rw (at_none here, append-nil, take_all 9 ns (omega (arith, g.long)))

-- the library's `==` is the test of a name
pub same-eq : (a b : List ℕ) → same_list a b ≡ pointwise eqb a b
unfolding same_list
same-eq [] [] = refl
same-eq [] (y ∷ b) = refl
same-eq (x ∷ a) [] = refl
same-eq (x ∷ a) (y ∷ b) = ap (λ t. eqb x y && t) (same-eq a b)
