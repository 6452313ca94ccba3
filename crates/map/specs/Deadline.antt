-- Deadlines: which one a write gives, and what stands at a second (document 01, 'The table'; document 02, C-14 and C-15).
use Rattle.std.specs.Prelude.{List, Bool, cond, not, ◌&&◌, ℕ, ◌+◌, ◌/◌, ◌%◌, eqb, leb}
use Rattle.std.proofs.Math.Option.{Option, none, some}
use Rattle.message.specs.Request.{Request}
use Rattle.map.specs.State.{Entry, without}

-- flag 0x0002
abbrev pub no_lifespan : Request → Bool
no_lifespan r = eqb (r.flags / 2 % 2) 1

-- "a lifespan above 30 days is a UNIX time"
abbrev pub thirty_days : ℕ
thirty_days = 2_592_000

-- "0 (none) if the lifespan is 0 or flag 0x0002 is set"; up to and including 2,592,000 the lifespan is added to the present second ("Deadlines are
-- reckoned from it"); "above it, the lifespan itself is the deadline, even if that is past."
unfoldable pub deadline : ℕ → Request → ℕ
deadline now r =
    let lifespan = r.args.lifespan in
    cond (eqb lifespan 0) 0 (cond (no_lifespan r) 0 (cond (leb lifespan thirty_days) (now + lifespan) lifespan))

-- "An entry whose deadline isn't 0 and isn't above the present second counts as absent"
unfoldable pub expired : ℕ → Entry → Bool
expired now e = not (eqb e.deadline 0) && leb e.deadline now

-- the entries that stand at a second
abbrev pub standing : ℕ → List Entry → List Entry
standing now es = without (expired now) es

-- an entry that was found, if it stands
abbrev pub still : ℕ → Option Entry → Option Entry
still now none = none
still now (some e) = cond (expired now e) none (some e)
