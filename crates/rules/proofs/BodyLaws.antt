-- The reply table by status. Assumes nothing.
use mathlib.Core.Path.{◌≡◌, refl, sym}
use mathlib.Core.List.{List}
use mathlib.Core.Option.{none, some}
use mathlib.Core.Bool.{Bool, true, false, cond}
use Prim.Native.Nat.{ℕ, ◌+◌, ◌≤◌, ◌<◌}
use native.Mathlib.Numerals.{add-one}
use lib.ListN.{length, get_or, drop}
use lib.Seq.{drop-cons}
use Rattle.rules.specs.declared.Body.{Body}
use Rattle.rules.specs.Body.{as_body, as_rows}
use native.Mathlib.Omega.{arith}
use lib.Dec.{eqb, lit≤}
use borrow.Author.Tests.{eqb-false, ne_eqb}
use Rattle.message.specs.ReplyTable as m
use Rattle.message.specs.ReplyTable.{table, errors, body_at}

-- the statuses of an error reply
or_else : {A : Type 0} {x y : A} (t : Bool) → (t ≡ false → y ≡ x) → cond t x y ≡ x
or_else true h = refl
or_else false h = h refl

module _ (s : ℕ) where
  pub error-text : 0x81 ≤ s → s ≤ 0x86 → some m.text ≡ body_at s errors
  unfolding body_at
  error-text l h =
      sym
      (or_else (eqb s 0x81) λ a.
      or_else (eqb s 0x82) λ b.
      or_else (eqb s 0x83) λ c.
      or_else (eqb s 0x84) λ d.
      or_else (eqb s 0x85) λ e.
      or_else (eqb s 0x86) λ f.
      absurd
      (omega (arith, eqb-false s 0x81 a, eqb-false s 0x82 b, eqb-false s 0x83 c, eqb-false s 0x84 d, eqb-false s 0x85 e, eqb-false s 0x86 f)))

  pub error-none : ((k : ℕ) → 0x81 ≤ k → k ≤ 0x86 → s ≡ k → ⊥) → none ≡ body_at s errors
  unfolding body_at
  error-none n =
      rw (
        ne_eqb s 0x81 (n 0x81 (lit≤ tt) (lit≤ tt)),
        ne_eqb s 0x82 (n 0x82 (lit≤ tt) (lit≤ tt)),
        ne_eqb s 0x83 (n 0x83 (lit≤ tt) (lit≤ tt)),
        ne_eqb s 0x84 (n 0x84 (lit≤ tt) (lit≤ tt)),
        ne_eqb s 0x85 (n 0x85 (lit≤ tt) (lit≤ tt)),
        ne_eqb s 0x86 (n 0x86 (lit≤ tt) (lit≤ tt)),
      )

-- the row at an index decides, or the rows behind it do
pub row-on : (s : ℕ) (rows : List (ℕ × Body)) (i : ℕ) (d : ℕ × Body) → i < length rows → body_at s (as_rows (drop i rows))
    ≡ cond (eqb s (get_or rows i d).0) (some (as_body (get_or rows i d).1)) (body_at s (as_rows (drop (i + 1) rows)))
unfolding body_at
row-on s rows i d h = rw (drop-cons rows i d h, add-one)
