-- Answers as numbers: 0 for more needed, a refusal's number, or 256 and a count of bytes.
use Rattle.std.specs.Prelude.{List, ◌++◌, Bool, true, false, cond, ℕ, ◌+◌, length, drop, leb}
use Rattle.wire.specs.Codec.{Read, whole, more, refused}
use Rattle.wire.specs.Write.{Sent, written, kept}

abbrev pub sent_code : Sent → ℕ
sent_code (written n) = 256 + n
sent_code (kept k) = k

-- what a writer answers and leaves, with its answer as a number
abbrev pub coded : Sent × List ℕ → ℕ × List ℕ
coded p = (sent_code p.0, p.1)

-- numbers told at the front of a list lent; a shorter list is kept
unfoldable pub tell : List ℕ → List ℕ → List ℕ
tell ns old = cond (leb (length ns) (length old)) (ns ++ drop (length ns) old) old

-- what an exported reader answers, and what it leaves of the list lent: the numbers of a whole message are told, and of any other none
unfoldable pub told : {A : Type 0} → (A → ℕ → List ℕ) → Read A → List ℕ → ℕ × List ℕ
told numbers (whole a n) old = (256 + n, tell (numbers a n) old)
told numbers more old = (0, old)
told numbers (refused k) old = (k, old)

-- k numbers are told in a list lent; where it is shorter, the call is refused 12, and the list is kept
unfoldable pub in_room : ℕ → List ℕ → ℕ × List ℕ → ℕ × List ℕ
in_room k old x = cond (leb k (length old)) x (12, old)

-- the same of a call that leaves more than the list: nothing is done, or what is done
abbrev pub Picked : Bool → Type 0 → Type 0 → Type 0
Picked true still done = done
Picked false still done = still

unfoldable pub IfRoom : ℕ → List ℕ → Type 0 → Type 0 → Type 0
IfRoom k old still done = Picked (leb k (length old)) still done
