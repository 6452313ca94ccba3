-- A part that reaches past the end, and where what was read stands. Assumes nothing.
use mathlib.Core.Path.{◌≡◌, refl, sym, ap, ◌∙◌}
use mathlib.Core.List.{List, []}
use mathlib.Core.Bool.{Bool, true, false, cond, ◌&&◌}
use Prim.Native.Nat.{ℕ, ◌+◌, ◌-◌, ◌/◌, ◌^◌, ◌≤◌, ◌<◌}
use native.Mathlib.Decide.{dec_lt}
use lib.ListN.{length, get_or, take, drop, length-drop, drop_of_length-le}
use lib.Seq.{drop-cons, take-nil, take_all, length-take-le}
use lib.Dec.{eqb, leb, lit<}
use Rattle.std.proofs.lemmas.List.{get_or-take, get_or-drop}
use borrow.Author.Tests.{eq-eqb, ne_eqb, le-leb, lt-leb, leb-true}
use native.Mathlib.Omega.{arith}
use Rattle.wire.specs.Codec.{Read, whole, more, refused, after, mapped, read_at, empty, byte, seq, as_type, raw, Bytes}
use Rattle.wire.specs.Number.{v_int}
use Rattle.wire.specs.Field.{big_endian, big_at, limited}
use Rattle.std.specs.Int.{from_be_bytes, to_be_bytes, w64}
use Rattle.std.specs.Array.{IsFirstChunk}
use Rattle.wire.proofs.At.{at-guard, at_cond}
use Rattle.text.specs.Text.{is_text}
use Rattle.wire.proofs.FieldLaws.{big_begin, big_more, big_read, big_small, big_good, big_bytes, at-limited}
use Rattle.wire.specs.Write.{put_at}
use Rattle.wire.proofs.Laws.{never, raw-good, and_false, after-whole, passed, sized, same_read, after-after, after_on}
use Rattle.field.specs.FieldRead.{codec_of, limited_text, between, part_of, nowhere, span_to}
use Rattle.field.specs.declared.Kind.TheVariants.{VInt}

pub past : (s : List ℕ) (start len : ℕ) → length s ≤ start → [] ≡ take len (drop start s)
past s start len h = rw (drop_of_length-le s h, take-nil {A = ℕ} len)

pub cut : (s : List ℕ) (start len : ℕ) → length s - start ≤ len → take (length s - start) (drop start s) ≡ take len (drop start s)
cut s start len h =
    take_all (length s - start) (drop start s) (simp length-drop (omega arith)) ∙ sym (take_all len (drop start s) (simp length-drop (omega arith)))

-- where so many bytes stand
pub span-at : (s : List ℕ) (at n : ℕ) → n ≤ length s - at → (n ≡ 0 → ⊥) → record { start = at; len = n } ≡ span_to (take n (drop at s)) (at + n)
unfolding span_to
span-at s at n h z =
    let l : length (take n (drop at s)) ≡ n = length-take-le n (drop at s) (simp length-drop (omega arith)) in
    let e : at + n - n ≡ at = omega arith in
    rw (l, ne_eqb n 0 z, e)

pub span_none : (n : ℕ) → nowhere ≡ span_to [] n
unfolding span_to
span_none n = refl

-- what was read is the part where it stands
pub part-read : (s : List ℕ) (at lim : ℕ) (bs : List ℕ) (j : ℕ) → read_at (limited lim) s at ≡ whole bs j → part_of s (span_to bs j) ≡ bs
part-read s at lim bs j e =
    let x = after-whole (read_at v_int s at) _ bs j (sym (at-limited s at lim) ∙ e) in
    go x.val x.len (leb x.val (length s - x.len)) refl (passed (leb x.val lim) _ 6 x.then).1
  where
    there : (n i : ℕ) → n ≤ length s - i → Dec (0 < n) → part_of s (span_to (take n (drop i s)) (i + n)) ≡ take n (drop i s)
    there n i h (yes z) = rw (← (span-at s i n h (λ e. omega arith)))
    there n i h (no z) = let e : n ≡ 0 = omega arith in rw (e, ← span_none)

    go : (n i : ℕ) (t : Bool) → leb n (length s - i) ≡ t → cond t (whole (take n (drop i s)) (i + n)) more ≡ whole bs j → part_of s (span_to bs j) ≡ bs
    go n i true l q = rw (← (same_read q), ← (sized q)) (there n i (leb-true n (length s - i) l) (dec_lt 0 n))
    go n i false l q = never (cc)

pub no_part : (s : List ℕ) (n : ℕ) → part_of s (span_to [] n) ≡ []
unfolding span_to
no_part s n = refl

-- a text is judged by that part
pub at-text : (s : List ℕ) (at lim : ℕ)
    → mapped span_to (read_at (limited_text lim) s at) ≡ after (mapped span_to (read_at (limited lim) s at)) (λ p n. cond (is_text (part_of s p)) (whole p n) (refused 7))
unfolding limited_text mapped
at-text s at lim =
    simp (at-guard, after-after, at_cond) (after_on (read_at (limited lim) s at) (λ bs n e. rw (part-read s at lim bs n e)))

pub text-read : (s : List ℕ) (at lim : ℕ) (bs : List ℕ) (j : ℕ) → read_at (limited_text lim) s at ≡ whole bs j → part_of s (span_to bs j) ≡ bs
unfolding limited_text
text-read s at lim bs j e =
    let x = after-whole (read_at (limited lim) s at) _ bs j (sym (at-guard s at is_text 7 (limited lim)) ∙ e) in
    part-read s at lim bs j (x.first ∙ (passed (is_text x.val) _ 7 x.then).1)

-- a byte at a place, and none behind the end
pub byte-at : (s : List ℕ) (at : ℕ) → at < length s → read_at byte s at ≡ whole (get_or s at 0) (at + 1)
unfolding read_at byte
byte-at s at h = rw (drop-cons {A = ℕ} _ _ 0 h)

pub byte-past : (s : List ℕ) (at : ℕ) → length s ≤ at → read_at byte s at ≡ more
unfolding read_at byte
byte-past s at h = rw (drop_of_length-le s h)

-- too few bytes for a number of several, and a number that the library puts together from eight
pub few : (s : List ℕ) (at m : ℕ) → Bytes s → 0 < m → length s < at + m → read_at (big_endian m) s at ≡ more
few s at m b z h = go (dec_lt at (length s))
  where
    go : Dec (at < length s) → read_at (big_endian m) s at ≡ more
    go (no q) = big_more s at 0 at 0 (big_begin s at) m (omega arith) (omega arith)
    go (yes q) =
        let n = length s - at in
        big_more s at n (at + n) (big_at n s at) (record { front = big_read s at n (omega arith); small = big_small n s at b }) m (omega arith) (omega arith)

pub eight : (s bs : List ℕ) (at : ℕ) → bs ≡ take 8 (drop at s) → from_be_bytes w64 bs ≡ big_at 8 s at
unfolding big_at
eight s bs at e = rw (e, byte_in 0 (lit< tt), byte_in 1 (lit< tt), byte_in 2 (lit< tt), byte_in 3 (lit< tt), byte_in 4 (lit< tt), byte_in 5 (lit< tt), byte_in 6 (lit< tt), byte_in 7 (lit< tt)) (omega arith)
  where
    byte_in : (i : ℕ) → i < 8 → get_or (take 8 (drop at s)) i 0 ≡ get_or s (at + i) 0
    byte_in i h = get_or-take 8 (drop at s) i 0 h ∙ get_or-drop at s i 0

pub read-eight : (s rest bs : List ℕ) (at n : ℕ) → at ≤ length s → rest ≡ take (length s - at) (drop at s) → IsFirstChunk rest bs 8 → n ≡ from_be_bytes w64 bs
    → whole n (at + 8) ≡ read_at (big_endian 8) s at
read-eight s rest bs at n h e f v =
    let e' : rest ≡ drop at s = e ∙ take_all (length s - at) (drop at s) (simp length-drop (omega arith)) in
    let l : 8 ≤ length s - at = rw (e', length-drop) at f.enough in
    rw (big_read s at 8 (omega arith), v, eight s bs at (f.same ∙ ap (take 8) e'))

-- the eight bytes of a number, as the library has them, are those of the format
pub eight-bytes : (v : ℕ) → to_be_bytes w64 v ≡ (big_endian 8).enc v
unfolding big_endian seq byte as_type empty
eight-bytes v =
    let d2 : v / 65536 ≡ v / 256 / 256 = omega arith in
    let d3 : v / 16777216 ≡ v / 256 / 256 / 256 = omega arith in
    let d4 : v / 4294967296 ≡ v / 256 / 256 / 256 / 256 = omega arith in
    let d5 : v / 1099511627776 ≡ v / 256 / 256 / 256 / 256 / 256 = omega arith in
    let d6 : v / 281474976710656 ≡ v / 256 / 256 / 256 / 256 / 256 / 256 = omega arith in
    let d7 : v / 72057594037927936 ≡ v / 256 / 256 / 256 / 256 / 256 / 256 / 256 = omega arith in
    rw (d7, d6, d5, d4, d3, d2)

pub raw-eight : (bs old : List ℕ) (v at : ℕ) → v < 256 ^ 8 → bs ≡ to_be_bytes w64 v → put_at (raw (length bs)) bs at old ≡ put_at (big_endian 8) v at old
unfolding put_at raw
raw-eight bs old v at h e =
    let b : bs ≡ (big_endian 8).enc v = e ∙ eight-bytes v in
    rw (b, big_good 8 v h, raw-good ((big_endian 8).enc v) (big_bytes 8 v))

-- a length that is not whole, and what is found behind a whole one
pub limited-by : (s : List ℕ) (at lim : ℕ) (r : Read ℕ) → r ≡ read_at (codec_of VInt) s at → mapped span_to (read_at (limited lim) s at)
    ≡ after r (λ n j. cond (leb n lim) (cond (leb n (length s - j)) (whole (span_to (take n (drop j s)) (j + n)) (j + n)) more) (refused 6))
unfolding mapped v_int
limited-by s at lim r e = rw e (simp (at-limited, after-after, at_cond) refl)

-- a byte within bounds
pub at-between : (s : List ℕ) (low high k at : ℕ)
    → read_at (between low high k) s at ≡ after (read_at byte s at) (λ b j. cond (leb low b && leb b high) (whole b j) (refused k))
unfolding between
at-between s low high k at = at-guard s at (λ b. leb low b && leb b high) k byte

-- a byte that has to be x
pub only : (x b : ℕ) → eqb b x ≡ (leb x b && leb b x)
only x b = go (dec_lt b x) (dec_lt x b)
  where
    go : Dec (b < x) → Dec (x < b) → eqb b x ≡ (leb x b && leb b x)
    go (yes h) k = rw (ne_eqb b x (λ e. omega arith), lt-leb x b h)
    go (no h) (yes k) = rw (ne_eqb b x (λ e. omega arith), lt-leb b x k, and_false)
    go (no h) (no k) = rw (eq-eqb b x (omega arith), le-leb x b (omega arith), le-leb b x (omega arith))
