-- Bytes written as digits are read back, and digits are read as the bytes that are written so. Assumes nothing.
use mathlib.Core.Path.{◌≡◌, refl, sym, ap, subst, ◌∙◌}
use mathlib.Core.List.{List, [], ◌∷◌, ◌++◌, append-nil}
use mathlib.Core.Bool.{true, ◌&&◌}
use mathlib.Core.Option.{Option, none, some}
use Prim.Native.Nat.{ℕ, zero, suc, ◌+◌, ◌*◌, ◌/◌, ◌%◌, ◌<◌}
use native.Mathlib.Omega.{arith}
use lib.ListN.{length, length-append}
use Rattle.wire.specs.Codec.{Bytes}
use Rattle.wire.proofs.Laws.{never, both, and}
use Rattle.wire.proofs.Basics.{passed}
use Rattle.hexadecimal.specs.Hex.{digit_of, is_digit, digit_value, to_hex, line, onto, from_hex}
use Rattle.hexadecimal.proofs.Digits.{value_below, digit-back, of-digit, of-value}

pub length_none : (s : List ℕ) → length s ≡ 0 → s ≡ []
length_none [] e = refl
length_none (b ∷ s) e = absurd (omega arith)

pub hex_length : (s : List ℕ) → length (to_hex s) ≡ 2 * length s
unfolding to_hex
hex_length [] = refl
hex_length (b ∷ s) = omega (arith, hex_length s)

pub line_length : (s : List ℕ) → length (line s) ≡ 2 * length s + 1
unfolding line
line_length s = length-append (to_hex s) (0x0a ∷ []) ∙ omega (arith, hex_length s)

-- two digits, read
pub onto_digits : (a b : ℕ) (s : List ℕ) → is_digit a ≡ true → is_digit b ≡ true → from_hex (a ∷ b ∷ s) ≡ onto (digit_value a * 16 + digit_value b) (from_hex s)
unfolding from_hex
onto_digits a b s p q = rw (and p q)

-- what was read: so many bytes, of which these are the digits
pub record Reads (s bs : List ℕ) : Type 0 where
  pub same : s ≡ to_hex bs
  pub bytes : Bytes bs

-- the bytes of `onto` are one and those behind it
pub record Front (b : ℕ) (o : Option (List ℕ)) (bs : List ℕ) : Type 0 where
  pub rest : List ℕ
  pub first : o ≡ some rest
  pub all : b ∷ rest ≡ bs

front : (b : ℕ) (o : Option (List ℕ)) (bs : List ℕ) → onto b o ≡ some bs → Front b o bs
front b none bs e = never (cc)
front b (some r) bs e = record { rest = r; first = refl; all = cc }

module _ (a b : ℕ) (s r : List ℕ) (p : is_digit a ≡ true) (q : is_digit b ≡ true) (i : Reads s r) where
  pair_same : a ∷ b ∷ s ≡ to_hex ((digit_value a * 16 + digit_value b) ∷ r)
  unfolding to_hex
  pair_same =
      let l = value_below a p in
      let m = value_below b q in
      let d : (digit_value a * 16 + digit_value b) / 16 ≡ digit_value a = omega arith in
      let e : (digit_value a * 16 + digit_value b) % 16 ≡ digit_value b = omega arith in
      rw (d, e, digit-back a p, digit-back b q, ← i.same)

  pair-bytes : Bytes ((digit_value a * 16 + digit_value b) ∷ r)
  pair-bytes zero = omega (arith, value_below a p, value_below b q)
  pair-bytes (suc n) = i.bytes n

  pair_reads : Reads (a ∷ b ∷ s) ((digit_value a * 16 + digit_value b) ∷ r)
  pair_reads = record { same = pair_same; bytes = pair-bytes }

reads : (s bs : List ℕ) → from_hex s ≡ some bs → Reads s bs
unfolding to_hex from_hex
reads [] bs e = let p : [] ≡ bs = cc in subst (Reads []) p (record { same = refl; bytes = λ i. omega arith })
reads (a ∷ []) bs e = never (cc)
reads (a ∷ (b ∷ s)) bs e =
    let x = passed (is_digit a && is_digit b) _ bs e in
    let y = front _ (from_hex s) bs x.1 in
    let z = both (is_digit a) (is_digit b) x.0 in
    subst (Reads (a ∷ b ∷ s)) y.all (pair_reads a b s y.rest z.0 z.1 (reads s y.rest y.first))

-- any list that is read is what is written of its bytes
pub to-from : (s bs : List ℕ) → from_hex s ≡ some bs → (s ≡ to_hex bs) × Bytes bs
to-from s bs e = let r = reads s bs e in (r.same, r.bytes)

-- digits in front of others
abbrev pub before : List ℕ → Option (List ℕ) → Option (List ℕ)
before xs none = none
before xs (some bs) = some (xs ++ bs)

onto-before : (b : ℕ) (xs : List ℕ) (o : Option (List ℕ)) → onto b (before xs o) ≡ before (b ∷ xs) o
onto-before b xs none = refl
onto-before b xs (some bs) = refl

before-none : (o : Option (List ℕ)) → before [] o ≡ o
before-none none = refl
before-none (some bs) = refl

append_hex : (xs t : List ℕ) → Bytes xs → from_hex (to_hex xs ++ t) ≡ before xs (from_hex t)
unfolding to_hex from_hex
append_hex [] t h = sym (before-none (from_hex t))
append_hex (b ∷ xs) t h =
    let l : b < 256 = h 0 in
    let p : b / 16 < 16 = omega arith in
    let q : b % 16 < 16 = omega arith in
    let e : b / 16 * 16 + b % 16 ≡ b = omega arith in
    onto_digits (digit_of (b / 16)) (digit_of (b % 16)) (to_hex xs ++ t) (of-digit (b / 16) p) (of-digit (b % 16) q)
    ∙ rw (of-value (b / 16) p, of-value (b % 16) q, e, append_hex xs t (λ i. h (suc i))) (onto-before b xs (from_hex t))

pub from-to : (bs : List ℕ) → Bytes bs → from_hex (to_hex bs) ≡ some bs
unfolding from_hex
from-to bs h = ap from_hex (sym (append-nil (to_hex bs))) ∙ append_hex bs [] h ∙ ap some (append-nil bs)
