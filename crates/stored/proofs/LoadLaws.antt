-- Reading a line: its fields one after another, and what the digits of a line say. Assumes nothing.
use mathlib.Core.Path.{◌≡◌, refl, sym, ap, ◌∙◌}
use mathlib.Core.List.{List}
use mathlib.Core.Bool.{Bool, true, false, cond}
use mathlib.Core.Option.{Option, none, some}
use Prim.Native.Nat.{ℕ, ◌-◌, ◌≤◌, ◌<◌}
use native.Mathlib.Omega.{arith}
use lib.ListN.{length, take, drop}
use lib.Dec.{eqb}
use Rattle.wire.specs.Codec.{Read, whole, refused, after, mapped, Codec, Bytes, byte, read_at, exactly}
use Rattle.wire.specs.Field.{big_endian, limited}
use Rattle.wire.proofs.Laws.{Laws, after-after, after-only}
use Rattle.wire.proofs.At.{at_front, at-seq, at_type, at-guard, at_cond}
use Rattle.message.specs.Arguments.{key_limit, value_limit}
use Rattle.message.proofs.Most.{Most}
use Rattle.field.specs.declared.Span.{Span}
use Rattle.field.specs.FieldRead.{part_of, span_to}
use Rattle.decimal.proofs.DecimalRead.{part-by}
use Rattle.hexadecimal.specs.Hex.{from_hex}
use Rattle.hexadecimal.specs.Number.{from_bytes, from_digits}
use Rattle.hexadecimal.specs.Coding.{decoded}
use Rattle.hexadecimal.specs.declared.DecodeError.{DecodeError}
use Rattle.hexadecimal.specs.declared.DecodeError.TheVariants.{Digits as NoDigits, Room}
use Rattle.std.specs.Prelude.{Ok, Err}
use Rattle.hexadecimal.proofs.HexLaws.{to-from}
use Rattle.hexadecimal.proofs.Decodes.{Decodes, decodes}
use Rattle.hexadecimal.proofs.Values.{bytes_read}
use Rattle.stored.specs.File.{form1, entry_line, head_line}
use Rattle.stored.specs.StoreLoad.{head_loaded, line_loaded, loaded}
use Rattle.stored.proofs.LineLaws.{entry_laws, entry-most, head_laws, head_most}

pub head_at : (s : List ℕ) → (head_line form1).dec s
    ≡ after (read_at byte s 0) (λ b i. cond (eqb b 0x01) (after (read_at (big_endian 8) s i) (λ n k. whole n k)) (refused 17))
unfolding head_line
head_at s = sym (at_front (head_line form1) s) ∙ simp (at_type, at-seq, at-guard, after-after, at_cond)

pub entry_at : (s : List ℕ) → (entry_line form1).dec s
    ≡ after (read_at (big_endian 8) s 0) (λ n i. after (read_at (big_endian 8) s i) (λ d j. after (read_at (limited key_limit) s j)
    (λ k l. after (read_at (limited value_limit) s l) (λ v m. whole (record { key = k; value = v; version = n; deadline = d }) m))))
unfolding entry_line
entry_at s = sym (at_front (entry_line form1) s) ∙ simp (at_type, at-seq, after-after)

-- bytes with their length go by the part that their reader found
pub limited-read : (s : List ℕ) (at lim : ℕ) {r : Read Span} → r ≡ mapped span_to (read_at (limited lim) s at)
    → read_at (limited lim) s at ≡ after r (λ p n. whole (part_of s p) n)
limited-read s at lim {r} e = sym (after-only (read_at (limited lim) s at)) ∙ part-by s at lim r (λ bs n. whole bs n) e

-- the bytes that were decoded, as a part of the list
pub record Digits {A : Type 0} (c : Codec A) (s new : List ℕ) (n : ℕ) : Type 0 where
  pub read : from_digits c s ≡ exactly (length (take (n - 0) (drop 0 new))) (c.dec (take (n - 0) (drop 0 new)))
  pub within : n ≤ length new

module _ {A : Type 0} (c : Codec A) (s old new : List ℕ) where
  pub digits_read : (n : ℕ) → (Ok n, new) ≡ decoded s old → Digits c s new n
  unfolding from_digits
  digits_read n e =
      let h = decodes s old (Ok n) new e in
      let z : n - 0 ≡ n = omega arith in
      record { read = rw (h.0, z); within = h.1 }

  module _ (l : Laws c) (m : ℕ) (most : Most c m) (room : m ≤ length old) where
    -- a value that has a written form is not too long
    too_long : (bs : List ℕ) → Bytes bs → length old < length bs → exactly (length bs) (c.dec bs) ≡ none
    too_long bs b h = go (exactly (length bs) (c.dec bs)) refl
      where
        go : (o : Option A) → exactly (length bs) (c.dec bs) ≡ o → o ≡ none
        go none e = refl
        go (some a) e = let x = bytes_read c l bs a b e in absurd (omega (arith, ap length x.1, most.most a x.0))

    digits_none : (d : DecodeError) → (Err d, new) ≡ decoded s old → from_digits c s ≡ none
    unfolding from_digits
    digits_none d e = go d (decodes s old (Err d) new e)
      where
        go : (d : DecodeError) → Decodes old (Err d) new (from_hex s) → from_bytes c (from_hex s) ≡ none
        go NoDigits h = rw h
        go Room h = rw h.1.0 (too_long h.0 (to-from s h.0 h.1.0).1 h.1.1)

-- a line that is not of digits, or of too many, is not loaded
pub loaded-none : (b : Bool) (s t old new : List ℕ) (d : DecodeError) → 339 ≤ length old → (Err d, new) ≡ decoded s old → loaded form1 b s t ≡ none
unfolding head_loaded line_loaded
loaded-none false s t old new d h e = rw (digits_none (head_line form1) s old new (head_laws form1) 9 (head_most form1) (omega arith) d e)
loaded-none true s t old new d h e = rw (digits_none (entry_line form1) s old new (entry_laws form1) 339 (entry-most form1) h d e)
