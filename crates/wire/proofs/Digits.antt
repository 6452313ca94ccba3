-- The digits of a number in a base: counting them, and writing them from the last to the first. Assumes nothing.
use mathlib.Core.Path.{◌≡◌, ap, ◌∙◌}
use mathlib.Core.List.{List, [], ◌∷◌, ◌++◌, append_assoc}
use Prim.Native.Nat.{ℕ, zero, suc, ◌+◌, ◌-◌, ◌/◌, ◌≤◌, ◌<◌}
use native.Mathlib.Nat.{add-zero, add-suc}
use native.Mathlib.Numerals.{one-add}
use native.Mathlib.Omega.{arith}
use lib.ListN.{length, set, length-set}
use lib.Seq.{sets}
use Rattle.wire.proofs.WriteLaws.{sets_after}

-- a number is written with a digit more where it is not below the base, as long as there may be more
pub record Digits (base : ℕ) (enc : ℕ → ℕ → List ℕ) : Type 0 where
  pub one : (c x : ℕ) → x < base → length (enc c x) ≡ 1
  pub on : (c x : ℕ) → base ≤ x → length (enc (suc c) x) ≡ suc (length (enc c (x / base)))
  pub last : (x : ℕ) → length (enc 0 x) ≡ 1

-- counting: n digits are counted, and x is left
pub record Counted (enc : ℕ → ℕ → List ℕ) (most v n x : ℕ) : Type 0 where
  pub some : 1 ≤ n
  pub few : n ≤ suc most
  pub same : n + length (enc (suc most - n) x) ≡ suc (length (enc most v))

pub count-begin : {enc : ℕ → ℕ → List ℕ} (most v : ℕ) → Counted enc most v 1 v
count-begin most v = let e : suc most - 1 ≡ most = omega arith in record { some = omega arith; few = omega arith; same = rw (e, one-add) }

module _ {base : ℕ} {enc : ℕ → ℕ → List ℕ} (d : Digits base enc) (most v n x : ℕ) (g : Counted enc most v n x) where
  pub count-on : base ≤ x → (n ≡ suc most → ⊥) → Counted enc most v (n + 1) (x / base)
  count-on h l =
      let e : suc most - n ≡ suc (most - n) = omega (arith, g.few) in
      let f : suc most - (n + 1) ≡ most - n = omega arith in
      record { some = omega arith; few = omega (arith, g.few); same = rw f (omega (arith, d.on (most - n) x h, rw e at g.same)) }

  pub count-end : x < base → n ≡ length (enc most v)
  count-end h = omega (arith, g.same, d.one (suc most - n) x h)

  pub count-full : n ≡ suc most → n ≡ length (enc most v)
  count-full h =
      let e : suc most - n ≡ 0 = omega arith in
      omega (arith, d.last x, rw e at g.same)

-- the last n digits of a number, the highest first
abbrev pub digits_in : (base : ℕ) (digit : ℕ → ℕ) → ℕ → ℕ → List ℕ
digits_in base digit zero v = []
digits_in base digit (suc n) v = digits_in base digit n (v / base) ++ (digit v ∷ [])

-- writing m of them at a place: those from index i on are written, and x is left
pub record Filled (base : ℕ) (digit : ℕ → ℕ) (m v at : ℕ) (old new : List ℕ) (x i : ℕ) : Type 0 where
  pub tail : List ℕ
  pub split : digits_in base digit m v ≡ digits_in base digit i x ++ tail
  pub list : new ≡ sets old (at + i) tail
  pub long : length new ≡ length old
  pub within : i ≤ m

module _ {base : ℕ} {digit : ℕ → ℕ} (m v at : ℕ) (old : List ℕ) where
  module _ (new : List ℕ) (x : ℕ) where
    fill_suc : (i : ℕ) → Filled base digit m v at old new x (suc i) → Filled base digit m v at old (set new (at + i) (digit x)) (x / base) i
    fill_suc i g =
        record {
          tail = digit x ∷ g.tail;
          split = g.split ∙ append_assoc (digits_in base digit i (x / base)) (digit x ∷ []) g.tail;
          list = ap (λ (l : List ℕ). set l (at + i) (digit x)) g.list ∙ rw add-suc (sets_after g.tail old (suc (at + i)) (at + i) (digit x) (omega arith));
          long = length-set new (at + i) (digit x) ∙ g.long;
          within = omega (arith, g.within);
        }

    pub fill_on : (i : ℕ) → 0 < i → Filled base digit m v at old new x i → Filled base digit m v at old (set new (at + (i - 1)) (digit x)) (x / base) (i - 1)
    fill_on zero h g = absurd (omega arith)
    fill_on (suc i) h g = let e : suc i - 1 ≡ i = omega arith in rw e (fill_suc i g)

    pub fill_end : (i : ℕ) → i ≡ 0 → Filled base digit m v at old new x i → new ≡ sets old at (digits_in base digit m v)
    fill_end i z g =
        let e : digits_in base digit m v ≡ g.tail = g.split ∙ rw z in
        g.list ∙ rw (z, add-zero, e)
