-- What a writer answers, and what it leaves of the list that it was lent.
use Rattle.std.specs.Prelude.{List, ◌++◌, ◌≡◌, cond, ℕ, ◌+◌, ◌≤◌, length, take, drop, leb}
use Rattle.std.proofs.lemmas.List.Edits.{sets}
use Rattle.wire.specs.Codec.{Codec}

-- n bytes from a place on; as many of them as there are
abbrev pub part : List ℕ → ℕ → ℕ → List ℕ
part s at n = take n (drop at s)

-- there is room for a's bytes at `at`
abbrev pub Room : {A : Type 0} → Codec A → A → ℕ → List ℕ → Type 0
Room c a at old = at + length (c.enc a) ≤ length old

-- a's bytes were written at `at`, nothing else was changed, and r is the place behind them
pub record Wrote {A : Type 0} (c : Codec A) (a : A) (old new : List ℕ) (at r : ℕ) : Type 0 where
  pub next : r ≡ at + length (c.enc a)
  pub list : new ≡ sets old at (c.enc a)
  pub long : length new ≡ length old

-- Bytes written at a place: where there is room for them, the place behind them, and the list with them. Else the place is the same, and so is
-- the list.
abbrev pub laid : List ℕ → ℕ → List ℕ → ℕ × List ℕ
laid bs at old = cond (leb (at + length bs) (length old)) (at + length bs, sets old at bs) (at, old)

-- The writer of a field: the bytes of a value that has a written form. Else the place is the same, and so is the list.
unfoldable pub put_at : {A : Type 0} → Codec A → A → ℕ → List ℕ → ℕ × List ℕ
put_at c a at old = cond (c.ok a) (laid (c.enc a) at old) (at, old)

-- so many bytes written, or nothing written, by the refusal's number
pub data Sent : Type 0 where
  written : ℕ → Sent
  kept : ℕ → Sent

-- bytes at the front of a list, which else is kept; room under their length is 12
abbrev pub sent : List ℕ → List ℕ → Sent × List ℕ
sent bs old = cond (leb (length bs) (length old)) (written (length bs), bs ++ drop (length bs) old) (kept 12, old)

-- The writer of a message. "Writing: 16, then 12": a message that breaks a rule is 16, room under the encoded length is 12, and both leave the
-- list as it was. "Behind any message written, the buffer keeps its bytes."
unfoldable pub send : {A : Type 0} → Codec A → A → List ℕ → Sent × List ℕ
send c a old = cond (c.ok a) (sent (c.enc a) old) (kept 16, old)
