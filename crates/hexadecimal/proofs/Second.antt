-- The answers of `number`. Assumes nothing.
use mathlib.Core.Path.{◌≡◌, refl, sym, ap, ◌∙◌}
use mathlib.Core.List.{List}
use mathlib.Core.Option.{Option, none, some}
use Prim.Native.Nat.{ℕ, ◌*◌}
use native.Mathlib.Omega.{arith}
use lib.ListN.{length, take}
use lib.Seq.{length-take-le, take_all}
use borrow.Author.Tests.{eq-eqb}
use Rattle.std.specs.Prelude.{Result, Ok, Err}
use Rattle.std.specs.Int.{w32, from_be_bytes}
use Rattle.wire.specs.Codec.{whole}
use Rattle.wire.specs.Field.{big_endian, big_at}
use Rattle.wire.proofs.At.{at_front}
use Rattle.wire.proofs.FieldLaws.{big_laws, big_length, big_read}
use Rattle.hexadecimal.specs.declared.DecodeError.{DecodeError}
use Rattle.hexadecimal.specs.declared.DecodeError.TheVariants.{Digits, Room}
use Rattle.hexadecimal.specs.Hex.{from_hex}
use Rattle.hexadecimal.specs.Coding.{decoded}
use Rattle.hexadecimal.specs.Number.{from_digits}
use Rattle.hexadecimal.proofs.HexLaws.{hex_length, to-from}
use Rattle.hexadecimal.proofs.Values.{digits_read}
use Rattle.hexadecimal.proofs.Decodes.{Decodes, decodes}

-- digits of more or fewer bytes than four
other_size : (s bs : List ℕ) → from_hex s ≡ some bs → (length bs ≡ 4 → ⊥) → none ≡ from_digits (big_endian 4) s
other_size s bs e h = go (from_digits (big_endian 4) s) refl
  where
    go : (o : Option ℕ) → from_digits (big_endian 4) s ≡ o → none ≡ o
    go none p = refl
    go (some n) p =
        let l : length s ≡ 2 * 4 = ap length (digits_read (big_endian 4) (big_laws 4) s n p).same ∙ hex_length _ ∙ ap (λ (k : ℕ). 2 * k) (big_length 4 n) in
        let k : length s ≡ 2 * length bs = ap length (to-from s bs e).0 ∙ hex_length bs in
        absurd (h (omega arith))

-- four bytes are decoded, or there is no number
pub number-none : (s old new : List ℕ) (r : Result ℕ DecodeError) → length old ≡ 4 → (r, new) ≡ decoded s old → (r ≡ Ok 4 → ⊥) → none ≡ from_digits (big_endian 4) s
unfolding from_digits
number-none s old new r l e h = go r (decodes s old r new e) h
  where
    go : (r : Result ℕ DecodeError) → Decodes old r new (from_hex s) → (r ≡ Ok 4 → ⊥) → none ≡ from_digits (big_endian 4) s
    go (Ok n) d h =
        let k : length (take n new) ≡ n = length-take-le n new d.1 in
        other_size s (take n new) d.0 (λ q. h (ap (λ (m : ℕ). Ok m) (sym k ∙ q)))
    go (Err Digits) d h = rw d
    go (Err Room) d h = other_size s d.0 d.1.0 (λ q. omega (arith, d.1.1))

four : (s : List ℕ) → big_at 4 s 0 ≡ from_be_bytes w32 s
unfolding big_at
four s = omega arith

pub number-some : (s old new : List ℕ) → length new ≡ 4 → (Ok 4, new) ≡ decoded s old → some (from_be_bytes w32 new) ≡ from_digits (big_endian 4) s
unfolding from_digits
number-some s old new l e =
    let d = decodes s old (Ok 4) new e in
    let t : take 4 new ≡ new = take_all 4 new (omega arith) in
    let w : (big_endian 4).dec new ≡ whole (big_at 4 new 0) 4 = sym (at_front (big_endian 4) new) ∙ big_read new 0 4 (omega arith) in
    rw (d.0, t, w, eq-eqb 4 (length new) (sym l), four)
