-- Writing digits: how many a number has, and what they are from the last to the first. Assumes nothing.
use mathlib.Core.Path.{◌≡◌, refl, sym, ap, ◌∙◌}
use mathlib.Core.List.{List, [], ◌∷◌, ◌++◌}
use Prim.Native.Nat.{ℕ, zero, suc, ◌+◌, ◌-◌, ◌/◌, ◌%◌, ◌^◌, ◌≤◌, ◌<◌}
use native.Mathlib.Nat.{pow-suc}
use native.Mathlib.Numerals.{add-one}
use native.Mathlib.Omega.{arith}
use native.Mathlib.Decide.{dec_lt}
use lib.ListN.{length, set, length-append, length-set}
use Rattle.wire.specs.Write.{Wrote}
use Rattle.wire.proofs.Digits.{Digits, digits_in, Filled, fill_end}
use Rattle.decimal.specs.Decimal.{digits_by, digits_of, decimal}
use Rattle.decimal.proofs.DecimalLaws.{digits_one, digits_on, digits_most, decimal-enc}

-- the digits of a decimal
pub decimal_digits : Digits 10 digits_by
unfolding digits_by
decimal_digits =
    record {
      one = λ c x h. ap length (digits_one c x h);
      on = λ c x h. ap length (digits_on c x h) ∙ simp length-append (omega arith);
      last = λ x. refl;
    }

pub enc_length : (v : ℕ) → length (decimal.enc v) ≡ length (digits_of v) + 1
enc_length v = ap length (decimal-enc v) ∙ omega arith

pub decimal-most : (v : ℕ) → length (decimal.enc v) ≤ 20
unfolding digits_of
decimal-most v = omega (arith, enc_length v, digits_most 18 v)

-- what the counted digits say of the bytes
pub counted : (v n : ℕ) → n ≡ length (digits_by 18 v) → (n + 1 ≡ length (decimal.enc v)) × (n + 1 ≡ length (digits_of v) + 1) × (n + 1 ≤ 20)
unfolding digits_of
counted v n e = (omega (arith, enc_length v), omega arith, omega (arith, digits_most 18 v))

-- the last digit of a number, and the last n
abbrev pub digit : ℕ → ℕ
digit x = 0x30 + x % 10

abbrev last_digits : ℕ → ℕ → List ℕ
last_digits n v = digits_in 10 digit n v

in_one : (n v : ℕ) → v < 10 → digits_by n v ≡ last_digits (length (digits_by n v)) v
in_one n v h = let e : v % 10 ≡ v = omega arith in rw (digits_one n v h, e)

by_in : (n v : ℕ) → v < 10 ^ suc n → digits_by n v ≡ last_digits (length (digits_by n v)) v
by_in zero v h = in_one 0 v (omega arith)
by_in (suc n) v h = go (dec_lt v 10) (by_in n (v / 10) (omega (arith, pow-suc 10 (suc n))))
  where
    go : Dec (v < 10) → digits_by n (v / 10) ≡ last_digits (length (digits_by n (v / 10))) (v / 10) → digits_by (suc n) v ≡ last_digits (length (digits_by (suc n) v)) v
    go (yes q) e = in_one (suc n) v q
    go (no q) e =
        let l : length (digits_by n (v / 10) ++ ((0x30 + v % 10) ∷ [])) ≡ suc (length (digits_by n (v / 10))) = simp length-append (omega arith) in
        rw (digits_on n v (omega arith), l) (ap (λ (d : List ℕ). d ++ ((0x30 + v % 10) ∷ [])) e)

-- the length, and the digits
pub wrote-decimal : (v size at : ℕ) (old new : List ℕ) (x i : ℕ) → v ≤ 0x7fff_ffff_ffff_ffff → size ≡ length (digits_of v) + 1 → i ≡ 0
    → Filled 10 digit (size - 1) v (at + 1) (set old at (size - 1)) new x i → Wrote decimal v old new at (at + size)
unfolding digits_of
wrote-decimal v size at old new x i h e z g =
    let m : size - 1 ≡ length (digits_by 18 v) = omega arith in
    let a : last_digits (size - 1) v ≡ digits_by 18 v = rw m (sym (by_in 18 v (omega arith))) in
    let b : decimal.enc v ≡ (size - 1) ∷ digits_by 18 v = decimal-enc v ∙ rw m in
    record {
      next = rw (enc_length v, e);
      list = fill_end (size - 1) v (at + 1) (set old at (size - 1)) new x i z g ∙ rw (a, b, add-one);
      long = g.long ∙ length-set old at (size - 1);
    }
