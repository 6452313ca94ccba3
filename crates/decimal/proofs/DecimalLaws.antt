-- The laws of decimals: digits and their number, there and back. Assumes nothing.
use mathlib.Core.Path.{◌≡◌, refl, sym, ◌∙◌}
use mathlib.Core.List.{List, [], ◌∷◌, ◌++◌, append_assoc, append-nil}
use mathlib.Core.Bool.{Bool, true, false, cond, ◌&&◌}
use Prim.Native.Nat.{ℕ, zero, suc, ◌+◌, ◌-◌, ◌*◌, ◌/◌, ◌%◌, ◌^◌, ◌≤◌, ◌<◌, suc-le-suc, zero-le}
use native.Mathlib.Nat.{add-zero, pow-suc}
use native.Mathlib.Omega.{arith}
use native.Mathlib.Decide.{dec_lt}
use lib.ListN.{length, get_or, length-append, get_or-append}
use lib.Dec.{leb, ltb, lit≤}
use borrow.Author.Tests.{ltb-true, lt-ltb, le-ltb, leb-true, le-leb, lt-leb}
use Rattle.wire.specs.Codec.{Valid, Bytes, raw, guard, seq, as_type, all}
use Rattle.wire.specs.Number.{number_enc, number, v_int}
use Rattle.wire.specs.Field.{limited}
use Rattle.wire.proofs.Laws.{Laws, never, both, and, and_false, guard-valid, guard_good, type_good, guard_laws, type_laws}
use Rattle.wire.proofs.FieldLaws.{limited_laws, limited-good}
use Rattle.decimal.specs.Decimal.{digits_by, digits_of, value_behind, value_of, is_digit, are_digits, is_shortest, is_decimal, decimal}

-- one digit
pub digit-range : (b : ℕ) → is_digit b ≡ true → (0x30 ≤ b) × (b ≤ 0x39)
unfolding is_digit
digit-range b e = let w = both (leb 0x30 b) (leb b 0x39) e in (leb-true 0x30 b w.0, leb-true b 0x39 w.1)

of-digit : (n : ℕ) → n < 10 → is_digit (0x30 + n) ≡ true
unfolding is_digit
of-digit n h = and (le-leb 0x30 (0x30 + n) (omega arith)) (le-leb (0x30 + n) 0x39 (omega arith))

digits_join : (a b : List ℕ) → are_digits a ≡ true → are_digits b ≡ true → are_digits (a ++ b) ≡ true
unfolding are_digits
digits_join [] b p q = q
digits_join (d ∷ a) b p q = let w = both (is_digit d) (are_digits a) p in and w.0 (digits_join a b w.1 q)

digits_bytes : (s : List ℕ) → are_digits s ≡ true → Bytes s
unfolding are_digits
digits_bytes [] e i = lit≤ tt
digits_bytes (d ∷ s) e zero = omega (arith, digit-range d (both (is_digit d) (are_digits s) e).0)
digits_bytes (d ∷ s) e (suc i) = digits_bytes s (both (is_digit d) (are_digits s) e).1 i

-- a number's digits: how many, which, and their number
digits_some : (n v : ℕ) → 1 ≤ length (digits_by n v)
unfolding digits_by
digits_some zero v = suc-le-suc zero-le
digits_some (suc n) v = go (ltb v 10)
  where
    go : (t : Bool) → 1 ≤ length (cond t ((0x30 + v) ∷ []) (digits_by n (v / 10) ++ ((0x30 + v % 10) ∷ [])))
    go true = suc-le-suc zero-le
    go false = simp length-append (omega arith)

pub digits_most : (n v : ℕ) → length (digits_by n v) ≤ suc n
unfolding digits_by
digits_most zero v = suc-le-suc zero-le
digits_most (suc n) v = go (ltb v 10) (digits_most n (v / 10))
  where
    go : (t : Bool) → length (digits_by n (v / 10)) ≤ suc n → length (cond t ((0x30 + v) ∷ []) (digits_by n (v / 10) ++ ((0x30 + v % 10) ∷ []))) ≤ suc (suc n)
    go true h = suc-le-suc zero-le
    go false h = simp length-append (omega arith)

pub digits_one : (n v : ℕ) → v < 10 → digits_by n v ≡ (0x30 + v) ∷ []
unfolding digits_by
digits_one zero v h = refl
digits_one (suc n) v h = rw (lt-ltb v 10 h)

pub digits_on : (n v : ℕ) → 10 ≤ v → digits_by (suc n) v ≡ digits_by n (v / 10) ++ ((0x30 + v % 10) ∷ [])
unfolding digits_by
digits_on n v h = rw (le-ltb v 10 h)

value_append : (v : ℕ) (a b : List ℕ) → value_behind v (a ++ b) ≡ value_behind (value_behind v a) b
unfolding value_behind
value_append v [] b = refl
value_append v (d ∷ a) b = value_append (v * 10 + (d - 0x30)) a b

value-back : (n v : ℕ) → value_behind 0 (digits_by n v) ≡ v
unfolding value_behind digits_by
value-back zero v = omega arith
value-back (suc n) v = go (dec_lt v 10) (value-back n (v / 10))
  where
    go : Dec (v < 10) → value_behind 0 (digits_by n (v / 10)) ≡ v / 10 → value_behind 0 (digits_by (suc n) v) ≡ v
    go (yes h) e = rw (lt-ltb v 10 h) (omega arith)
    go (no h) e = rw (le-ltb v 10 (omega arith), value_append 0 (digits_by n (v / 10)), e) (omega arith)

digits_good : (n v : ℕ) → v < 10 ^ suc n → are_digits (digits_by n v) ≡ true
unfolding are_digits digits_by
digits_good zero v h = and (of-digit v (omega arith)) refl
digits_good (suc n) v h = go (dec_lt v 10) (digits_good n (v / 10) (omega (arith, pow-suc 10 (suc n))))
  where
    go : Dec (v < 10) → are_digits (digits_by n (v / 10)) ≡ true → are_digits (digits_by (suc n) v) ≡ true
    go (yes q) e = rw (lt-ltb v 10 q) (and (of-digit v q) refl)
    go (no q) e = rw (le-ltb v 10 (omega arith)) (digits_join (digits_by n (v / 10)) ((0x30 + v % 10) ∷ []) e (and (of-digit (v % 10) (omega arith)) refl))

digits_lead : (n v : ℕ) → 1 ≤ v → 0x30 < get_or (digits_by n v) 0 0
unfolding digits_by
digits_lead zero v h = omega arith
digits_lead (suc n) v h = go (dec_lt v 10) (λ q. digits_lead n (v / 10) q)
  where
    go : Dec (v < 10) → (1 ≤ v / 10 → 0x30 < get_or (digits_by n (v / 10)) 0 0) → 0x30 < get_or (digits_by (suc n) v) 0 0
    go (yes q) e = rw (lt-ltb v 10 q) (omega arith)
    go (no q) e = rw (le-ltb v 10 (omega arith), get_or-append (digits_by n (v / 10)) ((0x30 + v % 10) ∷ []) 0 0 (digits_some n (v / 10))) (e (omega arith))

lead_shortest : (s : List ℕ) → 1 ≤ length s → 0x30 < get_or s 0 0 → is_shortest s ≡ true
unfolding is_shortest
lead_shortest [] l h = absurd (omega arith)
lead_shortest (d ∷ []) l h = refl
lead_shortest (d ∷ (e ∷ s)) l h = lt-ltb 0x30 d h

digits_shortest : (n v : ℕ) → is_shortest (digits_by n v) ≡ true
unfolding is_shortest
digits_shortest n zero = rw (digits_one n 0 (lit≤ tt))
digits_shortest n (suc v) = lead_shortest (digits_by n (suc v)) (digits_some n (suc v)) (digits_lead n (suc v) (omega arith))

-- two greatest counts that a number is within give it the same digits
digits_same : (n m v : ℕ) → v < 10 ^ suc n → v < 10 ^ suc m → digits_by n v ≡ digits_by m v
unfolding digits_by
digits_same zero m v h g = sym (digits_one m v (omega arith))
digits_same (suc n) zero v h g = digits_one (suc n) v (omega arith)
digits_same (suc n) (suc m) v h g = go (dec_lt v 10) (digits_same n m (v / 10) (omega (arith, pow-suc 10 (suc n))) (omega (arith, pow-suc 10 (suc m))))
  where
    go : Dec (v < 10) → digits_by n (v / 10) ≡ digits_by m (v / 10) → digits_by (suc n) v ≡ digits_by (suc m) v
    go (yes q) e = digits_one (suc n) v q ∙ sym (digits_one (suc m) v q)
    go (no q) e = rw (digits_on n v (omega arith), digits_on m v (omega arith), e)

-- a digit more
digit-more : (n v d : ℕ) → 1 ≤ v → 0x30 ≤ d → d ≤ 0x39 → digits_by (suc n) (v * 10 + (d - 0x30)) ≡ digits_by n v ++ (d ∷ [])
digit-more n v d h l g =
    let a : (v * 10 + (d - 0x30)) / 10 ≡ v = omega arith in
    let b : 0x30 + (v * 10 + (d - 0x30)) % 10 ≡ d = omega arith in
    digits_on n (v * 10 + (d - 0x30)) (omega arith) ∙ rw (a, b)

record Grown (n v : ℕ) (s : List ℕ) : Type 0 where
  same : digits_by (n + length s) (value_behind v s) ≡ digits_by n v ++ s
  small : value_behind v s < 10 ^ suc (n + length s)

grow : (n v : ℕ) (s : List ℕ) → 1 ≤ v → v < 10 ^ suc n → are_digits s ≡ true → Grown n v s
unfolding are_digits value_behind
grow n v [] h l e = record { same = rw (add-zero, append-nil); small = rw add-zero l }
grow n v (d ∷ s) h l e =
    let w = both (is_digit d) (are_digits s) e in
    let r = digit-range d w.0 in
    let g = grow (suc n) (v * 10 + (d - 0x30)) s (omega arith) (omega (arith, pow-suc 10 (suc n))) w.1 in
    let q : n + suc (length s) ≡ suc n + length s = omega arith in
    record {
      same = rw q (g.same ∙ rw (digit-more n v d h r.0 r.1, append_assoc));
      small = rw q g.small;
    }

exact_digits : (s : List ℕ) → is_decimal s ≡ true → digits_of (value_of s) ≡ s
unfolding is_decimal is_shortest are_digits value_of digits_of value_behind
exact_digits [] e = never (cc)
exact_digits (d ∷ []) e =
    let r = digit-range d (both (is_digit d) true (both (is_digit d && true) _ e).0).0 in
    let b : 0x30 + (0 * 10 + (d - 0x30)) ≡ d = omega arith in
    digits_one 18 (0 * 10 + (d - 0x30)) (omega arith) ∙ rw b
exact_digits (d ∷ (f ∷ s)) e =
    let w = both (are_digits (d ∷ (f ∷ s))) _ e in
    let x = both (is_digit d) (are_digits (f ∷ s)) w.0 in
    let y = both (ltb 0x30 d) _ w.1 in
    let r = digit-range d x.0 in
    let l = ltb-true 0x30 d y.0 in
    let g = grow 0 (0 * 10 + (d - 0x30)) (f ∷ s) (omega arith) (omega arith) x.1 in
    let u : value_behind (0 * 10 + (d - 0x30)) (f ∷ s) ≤ 0x7fff_ffff_ffff_ffff = leb-true _ 0x7fff_ffff_ffff_ffff y.1 in
    let b : 0x30 + (0 * 10 + (d - 0x30)) ≡ d = omega arith in
    digits_same 18 (0 + length (f ∷ s)) _ (omega arith) g.small ∙ g.same ∙ rw (digits_one 0 (0 * 10 + (d - 0x30)) (omega arith), b)

digits_decimal : (v : ℕ) → v ≤ 0x7fff_ffff_ffff_ffff → is_decimal (digits_of v) ≡ true
unfolding is_decimal digits_of value_of
digits_decimal v h = and (digits_good 18 v (omega arith)) (and (digits_shortest 18 v) (rw (value-back 18 v) (le-leb v 0x7fff_ffff_ffff_ffff h)))

-- the format
pub decimal_laws : Laws decimal
unfolding decimal value_of digits_of
decimal_laws =
    type_laws all value_of digits_of (guard is_decimal 8 (limited 19)) (guard_laws is_decimal 8 (limited 19) (limited_laws 19))
    (λ v e. value-back 18 v)
    (λ s v. (exact_digits s (guard-valid is_decimal 8 (limited 19) s v).0, refl))

-- each number of 0 to 9,223,372,036,854,775,807 has a written form, and no other
pub decimal-good : (v : ℕ) → v ≤ 0x7fff_ffff_ffff_ffff → Valid decimal v
unfolding decimal digits_of
decimal-good v h =
    type_good all value_of digits_of (guard is_decimal 8 (limited 19)) refl
    (guard_good is_decimal 8 (limited 19) (digits_decimal v h)
    (limited-good 19 (digits_by 18 v) (omega (arith, digits_most 18 v)) (digits_most 18 v) (digits_bytes (digits_by 18 v) (digits_good 18 v (omega arith)))))

pub decimal-bad : (v : ℕ) → 0x7fff_ffff_ffff_ffff < v → decimal.ok v ≡ false
unfolding decimal as_type guard is_decimal digits_of value_of
decimal-bad v h = rw (value-back 18 v, lt-leb v 0x7fff_ffff_ffff_ffff h, and_false (is_shortest (digits_by 18 v)), and_false (are_digits (digits_by 18 v)))

pub decimal-enc : (v : ℕ) → decimal.enc v ≡ length (digits_of v) ∷ digits_of v
unfolding decimal as_type guard limited seq raw v_int number number_enc digits_of
decimal-enc v = rw (lt-ltb (length (digits_by 18 v)) 128 (omega (arith, digits_most 18 v)))
