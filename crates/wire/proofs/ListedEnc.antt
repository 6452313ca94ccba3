-- The bytes of values one after the other, and which lists have a written form. Assumes nothing.
use mathlib.Core.Path.{◌≡◌, refl, ◌∙◌}
use mathlib.Core.List.{List, [], ◌∷◌, ◌++◌}
use mathlib.Core.Option.{some}
use mathlib.Core.Bool.{true, false, ◌&&◌}
use Prim.Native.Nat.{ℕ, zero, suc, ◌≤◌, ◌<◌}
use native.Mathlib.Decide.{dec_lt}
use native.Mathlib.Omega.{arith}
use lib.ListN.{length}
use Rattle.wire.specs.Codec.{Codec, Valid, empty, byte, guard, seq, as_type}
use Rattle.wire.specs.Listed.{more_byte, behind, item, others, listed}
use Rattle.wire.proofs.Laws.{never, and, and_false}

module _ {A : Type 0} (c : Codec A) where
  item_ok : (a : A) → (item c).ok (some a) ≡ c.ok a
  unfolding item more_byte behind as_type seq guard byte
  item_ok a = refl

  pub item-enc : (a : A) → (item c).enc (some a) ≡ 1 ∷ c.enc a
  unfolding item more_byte behind as_type seq guard byte
  item-enc a = refl

  pub nil-ok : (n : ℕ) → (listed n c).ok [] ≡ true
  unfolding listed item others more_byte behind as_type seq guard byte empty
  nil-ok zero = refl
  nil-ok (suc n) = refl

  pub nil-enc : (n : ℕ) → (listed n c).enc [] ≡ 0 ∷ []
  unfolding listed item others more_byte behind as_type seq guard byte empty
  nil-enc zero = refl
  nil-enc (suc n) = refl

  pub cons_ok : (n : ℕ) (a : A) (xs : List A) → (listed (suc n) c).ok (a ∷ xs) ≡ (c.ok a && (listed n c).ok xs)
  unfolding listed others as_type seq
  cons_ok n a xs = rw item_ok

  pub cons_enc : (n : ℕ) (a : A) (xs : List A) → (listed (suc n) c).enc (a ∷ xs) ≡ (item c).enc (some a) ++ (listed n c).enc xs
  unfolding listed others as_type seq
  cons_enc n a xs = refl

  -- a list that is too long has no written form
  pub listed-over : (n : ℕ) (xs : List A) → n < length xs → (listed n c).ok xs ≡ false
  unfolding listed as_type
  listed-over n [] h = absurd (omega arith)
  listed-over zero (a ∷ xs) h = refl
  listed-over (suc n) (a ∷ xs) h = cons_ok n a xs ∙ rw (listed-over n xs (omega arith)) (and_false (c.ok a))

  pub listed-few : (n : ℕ) (xs : List A) → Valid (listed n c) xs → length xs ≤ n
  listed-few n xs v = go (dec_lt n (length xs))
    where
      go : Dec (n < length xs) → length xs ≤ n
      go (yes h) = never (cc (listed-over n xs h))
      go (no h) = omega arith

  -- each has a written form
  abbrev pub Valids : List A → Type 0
  Valids [] = Unit {0}
  Valids (a ∷ xs) = Valid c a × Valids xs

  pub listed-good : (n : ℕ) (xs : List A) → length xs ≤ n → Valids xs → Valid (listed n c) xs
  listed-good n [] h v = nil-ok n
  listed-good zero (a ∷ xs) h v = absurd (omega arith)
  listed-good (suc n) (a ∷ xs) h v = cons_ok n a xs ∙ and v.0 (listed-good n xs (omega arith) v.1)

  -- its end alone is a byte
  pub listed-some : (n : ℕ) (xs : List A) → 1 ≤ length ((listed n c).enc xs)
  unfolding listed more_byte as_type guard byte
  listed-some zero xs = omega arith
  listed-some (suc n) [] = rw (nil-enc (suc n)) (omega arith)
  listed-some (suc n) (a ∷ xs) = rw (cons_enc n a xs, item-enc) (omega arith)
