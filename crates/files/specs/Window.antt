-- A window on a buffer through which a file is read: the bytes from `from` up to `held` are read and not yet taken.
use Rattle.std.specs.Prelude.{◌≡◌, Bool, false, List, ◌++◌, ℕ, ◌+◌, ◌-◌, ◌≤◌, ◌<◌, length, take, drop, eqb}
use Rattle.std.proofs.lemmas.List.Edits.{sets}
use Rattle.wire.specs.Write.{part}
use Rattle.files.specs.declared.Window.{Window}

-- the greatest number of the machine
abbrev pub greatest : ℕ
greatest = 0xffff_ffff_ffff_ffff

abbrev pub at : ℕ → ℕ → Bool → Bool → Window
at f h c e = record { from = f; held = h; carried = c; ended = e }

-- a file that is not yet read
abbrev pub begin : Window
begin = at 0 0 false false

-- the bytes in the window
abbrev pub inside : List ℕ → Window → List ℕ
inside buf s = part buf s.from (s.held - s.from)

pub record Lies (buf : List ℕ) (s : Window) : Type 0 where
  pub order : s.from ≤ s.held
  pub within : s.held ≤ length buf

-- the window behind bytes that were taken
abbrev pub behind : Window → ℕ → Bool → Window
behind s n c = at (s.from + n) s.held c s.ended

-- More is to be read behind the bytes that s' holds: what is left behind those taken stands at the front, and there is room behind it.
pub record Moves (buf : List ℕ) (s : Window) (taken : ℕ) (c : Bool) (s' : Window) (buf' : List ℕ) : Type 0 where
  pub on : s.ended ≡ false
  pub next : s' ≡ at 0 (length (drop taken (inside buf s))) c false
  pub buffer : buf' ≡ sets buf 0 (drop taken (inside buf s))
  pub room : s'.held < length buf

-- the window after a read that brought so many bytes; one that brings none is the file's end
abbrev pub arrived : Window → ℕ → Window
arrived s n = at s.from (s.held + n) s.carried (eqb n 0)

-- what `after_read` answers: a sum that no buffer is long enough for is not made smaller
pub record Arrives (s : Window) (n : ℕ) (r : Window) : Type 0 where
  pub sum : s.held + n ≤ greatest → r ≡ arrived s n
  pub over : greatest < s.held + n → r ≡ at s.from greatest s.carried false

-- a read into the buffer from k on brings a chunk of the file
pub record Brings (buf : List ℕ) (k : ℕ) (p buf' : List ℕ) : Type 0 where
  pub fits : k + length p ≤ length buf
  pub bytes : take (k + length p) buf' ≡ take k buf ++ p
  pub long : length buf' ≡ length buf

-- How reading cuts a file: how many bytes a read brings, where there is room for so many and so many are left. It brings some where some are left.
pub record Cuts : Type 0 where
  pub brings : ℕ → ℕ → ℕ
  pub some : (room left : ℕ) → 0 < room → 0 < left → 0 < brings room left
  pub fits : (room left : ℕ) → brings room left ≤ room
  pub there : (room left : ℕ) → brings room left ≤ left
