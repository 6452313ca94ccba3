-- The bytes in a window: behind those taken, moved to the front, and with those that a read brings. Assumes nothing.
use mathlib.Core.Path.{◌≡◌, sym, ap, ◌∙◌}
use mathlib.Core.Bool.{Bool}
use mathlib.Core.List.{List, ◌++◌}
use Prim.Native.Nat.{ℕ, ◌+◌, ◌-◌, ◌≤◌}
use native.Mathlib.Omega.{arith}
use lib.ListN.{length, take, drop, length-drop}
use lib.Seq.{drop-drop, take-add, drop_at, length-take-le, sets, length-sets}
use Rattle.wire.specs.Write.{part}
use Rattle.wire.proofs.WriteLaws.{sets_part}
use Rattle.table.proofs.Parts.{length_part}
use Rattle.files.specs.declared.Window.{Window}
use Rattle.files.specs.Window.{inside, Lies, behind, Moves, arrived, Brings}

-- a part behind the first n of its elements
part_drop : (l : List ℕ) (a m n : ℕ) → a + m ≤ length l → n ≤ m → part l (a + n) (m - n) ≡ drop n (part l a m)
part_drop l a m n h g =
    let e : m ≡ n + (m - n) = omega arith in
    let q : drop n (take (n + (m - n)) (drop a l)) ≡ take (m - n) (drop n (drop a l)) =
    rw (take-add n (m - n) (drop a l)) (drop_at (take n (drop a l)) _ n (length-take-le n (drop a l) (omega (arith, length-drop a l)))) in
    rw (← drop-drop) (sym (ap (λ (k : ℕ). drop n (take k (drop a l))) e ∙ q))

module _ {buf : List ℕ} {s : Window} (i : Lies buf s) where
  pub inside-long : length (inside buf s) ≡ s.held - s.from
  inside-long = length_part buf s.from (s.held - s.from) (omega (arith, i.order, i.within))

  pub inside-behind : (n : ℕ) (c : Bool) → n ≤ length (inside buf s) → inside buf (behind s n c) ≡ drop n (inside buf s)
  inside-behind n c h =
      let e : s.held - (s.from + n) ≡ s.held - s.from - n = omega arith in
      rw e (part_drop buf s.from (s.held - s.from) n (omega (arith, i.order, i.within)) (omega (arith, inside-long)))

  pub lies-behind : (n : ℕ) (c : Bool) → n ≤ length (inside buf s) → Lies buf (behind s n c)
  lies-behind n c h = record { order = omega (arith, inside-long, i.order); within = i.within }

-- a read
module _ {buf p buf' : List ℕ} (s : Window) (f : s.from ≡ 0) (b : Brings buf s.held p buf') where
  pub inside-read : inside buf' (arrived s (length p)) ≡ inside buf s ++ p
  inside-read =
      let x : s.held + length p - 0 ≡ s.held + length p = omega arith in
      let y : s.held - 0 ≡ s.held = omega arith in
      rw (f, x, y) b.bytes

  pub lies-read : Lies buf' (arrived s (length p))
  lies-read = record { order = omega arith; within = omega (arith, b.fits, b.long) }

-- what is left, moved to the front
module _ (buf left : List ℕ) (h : length left ≤ length buf) where
  pub inside-front : part (sets buf 0 left) 0 (length left - 0) ≡ left
  inside-front = let x : length left - 0 ≡ length left = omega arith in rw x (sets_part left buf 0 (omega arith))

  pub front_long : length (sets buf 0 left) ≡ length buf
  front_long = length-sets buf 0 left

-- what is left, and what a read brings behind it
module _ {buf buf' p buf'' : List ℕ} {s s' : Window} {n : ℕ} {c : Bool} (m : Moves buf s n c s' buf') (b : Brings buf' s'.held p buf'') where
  left-long : length (drop n (inside buf s)) ≤ length buf
  left-long = omega (arith, m.room, ap (λ (s : Window). s.held) m.next)

  pub inside-more : inside buf'' (arrived s' (length p)) ≡ drop n (inside buf s) ++ p
  inside-more = inside-read s' (ap (λ (s : Window). s.from) m.next) b ∙ rw (m.next, m.buffer, inside-front buf (drop n (inside buf s)) left-long)

  pub lies_more : Lies buf'' (arrived s' (length p))
  lies_more = lies-read s' (ap (λ (s : Window). s.from) m.next) b

  pub long-more : length buf'' ≡ length buf
  long-more = b.long ∙ ap length m.buffer ∙ front_long buf (drop n (inside buf s)) left-long

  pub carried-more : s'.carried ≡ c
  carried-more = ap (λ (s : Window). s.carried) m.next

-- whatever a read leaves behind the bytes held, its first bytes are a chunk
pub brings-some : (buf buf' : List ℕ) (k n : ℕ) → take k buf' ≡ take k buf → length buf' ≡ length buf → k + n ≤ length buf → Brings buf k (take n (drop k buf')) buf'
brings-some buf buf' k n e l h =
    let m : length (take n (drop k buf')) ≡ n = length-take-le n (drop k buf') (omega (arith, length-drop k buf')) in
    record { fits = omega arith; bytes = rw (m, take-add k n buf', e); long = l }
