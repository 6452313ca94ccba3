-- Bytes that become their digits where they stand, from the last to the first. Assumes nothing.
use mathlib.Core.Path.{◌≡◌, refl, sym, ap, ◌∙◌}
use mathlib.Core.List.{List, [], ◌∷◌, ◌++◌}
use Prim.Native.Nat.{ℕ, zero, suc, ◌+◌, ◌-◌, ◌*◌, ◌/◌, ◌%◌, ◌≤◌, ◌<◌, min}
use native.Mathlib.Nat.{add-zero}
use native.Mathlib.Decide.{dec_lt}
use native.Mathlib.Omega.{arith}
use lib.ListN.{length, take, drop, set, length-append, length-take, length-drop, drop_of_length-le, take-append-drop}
use lib.Seq.{sets, length-sets, length-take-le, drop-drop, drop-set-add, take-set-le, take-take}
use Rattle.wire.specs.Write.{laid}
use Rattle.wire.proofs.WriteLaws.{sets_append, sets_after, sets_over, sets_part, laid-short, laid_done, laid_none}
use Rattle.hexadecimal.specs.Hex.{digit_of, to_hex, line}
use Rattle.wire.specs.Write.{part}
use Rattle.hexadecimal.proofs.HexLaws.{length_none, hex_length, line_length}

-- writes at other places: the order does not matter, and bytes before them stand
sets_swap : (a b l : List ℕ) (i k : ℕ) → i + length a ≤ k → sets (sets l k b) i a ≡ sets (sets l i a) k b
sets_swap [] b l i k h = refl
sets_swap (x ∷ a) b l i k h =
    ap (λ (m : List ℕ). sets m (suc i) a) (sets_after b l k i x (omega arith)) ∙ sets_swap a b (set l i x) (suc i) k (omega arith)

part_set : (l : List ℕ) (k x a m : ℕ) → a + m ≤ k → part (set l k x) a m ≡ part l a m
part_set l k x a m h =
    let e : k ≡ a + (k - a) = omega arith in
    ap (λ (z : ℕ). take m (drop a (set l z x))) e ∙ ap (take m) (drop-set-add a l (k - a) x) ∙ take-set-le m (drop a l) (k - a) x (omega arith)

part-before : (b l : List ℕ) (k a m : ℕ) → a + m ≤ k → part (sets l k b) a m ≡ part l a m
part-before [] l k a m h = refl
part-before (x ∷ b) l k a m h = part-before b (set l k x) (suc k) a m (omega arith) ∙ part_set l k x a m h

part-part : (l : List ℕ) (j m n : ℕ) → j + m ≤ n → take m (drop j (take n l)) ≡ take m (drop j l)
part-part l zero m n h = take-take m n l (omega arith)
part-part l (suc j) m zero h = absurd (omega arith)
part-part [] (suc j) m (suc n) h = refl
part-part (x ∷ l) (suc j) m (suc n) h = part-part l j m n (omega arith)

hex_append : (a b : List ℕ) → to_hex (a ++ b) ≡ to_hex a ++ to_hex b
unfolding to_hex
hex_append [] b = refl
hex_append (x ∷ a) b = ap (λ (t : List ℕ). digit_of (x / 16) ∷ digit_of (x % 16) ∷ t) (hex_append a b)

-- the digits of the bytes from i on are written, and those before i stand
pub record Spread (old : List ℕ) (at n : ℕ) (new : List ℕ) (i : ℕ) : Type 0 where
  pub list : new ≡ sets old (at + 2 * i) (to_hex (drop i (part old at n)))
  pub long : length new ≡ length old
  pub within : i ≤ n

module _ (old : List ℕ) (at n : ℕ) where
  some_length : length (part old at n) ≡ min n (length old - at)
  some_length = simp (length-take, length-drop)

  -- where there is no room for the digits of n bytes, there is none for those of the bytes that stand there
  pub spread_short : length old < at + 2 * n → (at, old) ≡ laid (to_hex (part old at n)) at old
  unfolding to_hex
  spread_short h = go (dec_lt (length old) (at + length (to_hex (part old at n))))
    where
      go : Dec (length old < at + length (to_hex (part old at n))) → (at, old) ≡ laid (to_hex (part old at n)) at old
      go (yes l) = laid-short (to_hex (part old at n)) at old l
      go (no l) =
          let e : part old at n ≡ [] = length_none (part old at n) (omega (arith, some_length, hex_length (part old at n))) in
          rw e (laid_none at old)

  pub line-short : length old < at + (2 * n + 1) → (at, old) ≡ laid (line (part old at n)) at old
  line-short h = laid-short (line (part old at n)) at old (omega (arith, some_length, line_length (part old at n)))

  module _ (room : at + 2 * n ≤ length old) where
    part_length : length (part old at n) ≡ n
    part_length = omega (arith, some_length)

    pub spread_begin : Spread old at n old n
    unfolding to_hex
    spread_begin =
        let e : drop n (part old at n) ≡ [] = drop_of_length-le (part old at n) {i = n} (omega (arith, part_length)) in
        record { list = rw e; long = refl; within = omega arith }

    module _ (new : List ℕ) where
      -- the bytes that come next are those that stood there, and their digits stand before the digits written
      pub spread_on : (i m : ℕ) → m ≤ i → Spread old at n new i → Spread old at n (sets new (at + 2 * (i - m)) (to_hex (part new (at + (i - m)) m))) (i - m)
      spread_on i m h g =
          let j = i - m in
          let p = part old at n in
          let t = to_hex (drop i p) in
          let w = g.within in
          let c = to_hex (take m (drop j p)) in
          let b : part new (at + j) m ≡ take m (drop j p) =
          ap (λ (l : List ℕ). part l (at + j) m) g.list ∙ part-before t old (at + 2 * i) (at + j) m (omega arith)
          ∙ ap (take m) (sym (drop-drop j at old)) ∙ sym (part-part (drop at old) j m n (omega arith)) in
          let q : j + m ≡ i = omega arith in
          let e : drop m (drop j p) ≡ drop i p = drop-drop m j p ∙ ap (λ (k : ℕ). drop k p) q in
          let d : to_hex (drop j p) ≡ c ++ t = ap to_hex (sym (take-append-drop m (drop j p))) ∙ hex_append (take m (drop j p)) (drop m (drop j p)) ∙ ap (λ (x : List ℕ). c ++ to_hex x) e in
          let l : length c ≡ 2 * m = hex_length (take m (drop j p)) ∙ ap (λ (k : ℕ). 2 * k) (length-take-le m (drop j p) (omega (arith, length-drop j p, part_length))) in
          let k : at + 2 * i ≡ at + 2 * j + length c = omega arith in
          record {
            list = ap (λ (x : List ℕ). sets new (at + 2 * j) (to_hex x)) b ∙ ap (λ (x : List ℕ). sets x (at + 2 * j) c) g.list
                ∙ sets_swap c t old (at + 2 * j) (at + 2 * i) (omega arith) ∙ ap (λ (x : ℕ). sets (sets old (at + 2 * j) c) x t) k
                ∙ sym (sets_append old (at + 2 * j) c t) ∙ ap (sets old (at + 2 * j)) (sym d);
            long = length-sets new (at + 2 * j) (to_hex (part new (at + j) m)) ∙ g.long;
            within = omega arith;
          }

      pub spread_end : (i : ℕ) → i ≡ 0 → Spread old at n new i → (at + 2 * n, new) ≡ laid (to_hex (part old at n)) at old
      spread_end i z g =
          let x = to_hex (part old at n) in
          let l : at + length x ≡ at + 2 * n = omega (arith, hex_length (part old at n), part_length) in
          let e : new ≡ sets old at x = g.list ∙ rw (z, add-zero) in
          rw (e, ← l) (laid_done x at old (omega arith))

  -- the line end behind the digits
  pub line_made : {new : List ℕ} {r : ℕ} → at + (2 * n + 1) ≤ length old → (r, new) ≡ laid (to_hex (part old at n)) at old
      → (r < length old) × (length new ≡ length old) × ((r + 1, set new r 0x0a) ≡ laid (line (part old at n)) at old)
  unfolding line
  line_made {new} {r} h e =
      let x = to_hex (part old at n) in
      let l : at + length x ≡ at + 2 * n = omega (arith, hex_length (part old at n), part_length (omega arith)) in
      let d : ◌≡◌ {A = ℕ × List ℕ} (r, new) (at + length x, sets old at x) = e ∙ sym (laid_done x at old (omega arith)) in
      let p : r ≡ at + length x = ap (λ (q : ℕ × List ℕ). q.0) d in
      let q : new ≡ sets old at x = ap (λ (q : ℕ × List ℕ). q.1) d in
      let a : r + 1 ≡ at + length (x ++ (0x0a ∷ [])) = omega (arith, length-append x (0x0a ∷ [])) in
      let b : set new r 0x0a ≡ sets old at (x ++ (0x0a ∷ [])) = rw (q, p) (sym (sets_append old at x (0x0a ∷ []))) in
      (omega arith, (ap length q ∙ length-sets old at x), rw (a, b) (laid_done (x ++ (0x0a ∷ [])) at old (omega arith)))

-- bytes that were written at a place and became a line there are a line written there
pub line-over : (x old : List ℕ) (at : ℕ) {mid : List ℕ} {n : ℕ} → mid ≡ sets old at x → n ≡ length x → at + (2 * n + 1) ≤ length old
    → laid (line (part mid at n)) at mid ≡ laid (line x) at old
line-over x old at {mid} {n} e s h =
    let l = line_length x in
    let p : part mid at n ≡ x = rw (e, s) (sets_part x old at (omega arith)) in
    let m : length mid ≡ length old = ap length e ∙ length-sets old at x in
    let o : sets mid at (line x) ≡ sets old at (line x) = rw e (sets_over x (line x) old at (omega arith)) in
    rw p (sym (laid_done (line x) at mid (omega arith)) ∙ rw o (laid_done (line x) at old (omega arith)))
