-- Bytes written one after another at a place, the answers of `decode`, and the loop of `encode`. Assumes nothing.
use mathlib.Core.Path.{◌≡◌, refl, sym, ◌∙◌}
use mathlib.Core.List.{List, [], ◌++◌, append-nil}
use mathlib.Core.Option.{none, some}
use Prim.Native.Nat.{ℕ, suc, ◌+◌, ◌*◌, ◌/◌, ◌%◌, ◌≤◌, ◌<◌}
use native.Mathlib.Nat.{zero-add}
use native.Mathlib.Omega.{arith}
use lib.ListN.{length, get_or, take, drop, set, length-set, length-take, drop_of_length-le}
use lib.Seq.{sets, sets-eq, paste, paste-suc, take-length}
use borrow.Author.Tests.{le-leb, lt-leb}
use Rattle.hexadecimal.specs.Hex.{digit_of, to_hex, from_hex}
use Rattle.hexadecimal.specs.Coding.{decoded}
use Rattle.hexadecimal.specs.declared.DecodeError.TheVariants.{Digits, Room}
use Rattle.std.specs.Prelude.{Ok, Err}
use Rattle.hexadecimal.proofs.HexLaws.{hex_length}
use Rattle.hexadecimal.proofs.Pairs.{hex_high, hex_low}

-- the first n of bs stand in the list at `at`, and nothing else was changed
pub record Pasted (bs old : List ℕ) (at : ℕ) (new : List ℕ) (n : ℕ) : Type 0 where
  pub within : n ≤ length bs
  pub list : new ≡ paste old at bs n
  pub long : length new ≡ length old

module _ (bs old : List ℕ) (at : ℕ) where
  pub paste_on : {new : List ℕ} (n k v m : ℕ) → at + length bs ≤ length old → n < length bs → k ≡ at + n → v ≡ get_or bs n 0 → m ≡ suc n
      → Pasted bs old at new n → Pasted bs old at (set new k v) m
  paste_on {new} n k v m r h p q e w =
      record {
        within = omega arith;
        list = rw (w.list, p, q, e) (paste-suc old at bs n 0 (omega arith) h);
        long = length-set new k v ∙ w.long;
      }

  paste_end : {new : List ℕ} (n : ℕ) → n ≡ length bs → Pasted bs old at new n → new ≡ take at old ++ bs ++ drop (at + length bs) old
  paste_end n e w = w.list ∙ rw (e, take-length bs)

-- the answers of `decode`
module _ (s old : List ℕ) where
  pub decode_bad : from_hex s ≡ none → (Err Digits, old) ≡ decoded s old
  unfolding decoded
  decode_bad e = rw e

  pub decode_short : {bs : List ℕ} → from_hex s ≡ some bs → length old < length bs → (Err Room, old) ≡ decoded s old
  unfolding decoded
  decode_short {bs} e h = rw (e, lt-leb (length bs) (length old) h)

  pub decode_done : {bs items : List ℕ} (n i : ℕ) → from_hex s ≡ some bs → length bs ≤ length old → n ≡ length bs → i ≡ length bs → Pasted bs (take n old) 0 items i
      → (Ok n, items ++ drop n old) ≡ decoded s old
  unfolding decoded
  decode_done {bs} {items} n i e h p q w =
      let z : drop (length bs) (take n old) ≡ [] = drop_of_length-le (take n old) {i = length bs} (omega (arith, length-take n old)) in
      let x : items ≡ bs = paste_end bs (take n old) 0 i q w ∙ rw (zero-add, z) (append-nil bs) in
      rw (e, le-leb (length bs) (length old) h, x, p)

-- a turn of the loop of `encode`, and its end
module _ (s old : List ℕ) (at : ℕ) where
  pub encode_on : {new : List ℕ} (i : ℕ) → at + 2 * length s ≤ length old → i < length s → Pasted (to_hex s) old at new (2 * i)
      → Pasted (to_hex s) old at (set (set new (at + 2 * i) (digit_of (get_or s i 0 / 16))) (at + 2 * i + 1) (digit_of (get_or s i 0 % 16))) (2 * (i + 1))
  encode_on i r h w =
      let l = hex_length s in
      paste_on (to_hex s) old at (2 * i + 1) _ _ _ (omega arith) (omega arith) (omega arith) (sym (hex_low s i h)) (omega arith)
      (paste_on (to_hex s) old at (2 * i) _ _ _ (omega arith) (omega arith) refl (sym (hex_high s i h)) (omega arith) w)

  pub encode_end : {new : List ℕ} (n : ℕ) → at + 2 * length s ≤ length old → n ≡ 2 * length s → Pasted (to_hex s) old at new n → new ≡ sets old at (to_hex s)
  encode_end n h p w =
      paste_end (to_hex s) old at n (p ∙ sym (hex_length s)) w ∙ sym (sets-eq (to_hex s) old at (omega (arith, hex_length s)))
