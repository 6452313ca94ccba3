-- What the listing of keys by the order that a table keeps answers, and what it leaves of the buffer.
use Rattle.std.specs.Prelude.{◌≡◌, List, Bool, ℕ}
use Rattle.wire.specs.Write.{Sent}
use Rattle.map.specs.KeyListing.{list_keys}
use Rattle.table.specs.Memory.{state_of, Sound}
use Rattle.table.specs.Found.{Tells}

-- the map's listing, of any memory: a table that is not sound is 13. name: the cache's; k: the given key; n: how many at most; old: the buffer.
pub record Lists (t name k : List ℕ) (n : ℕ) (old : List ℕ) (answer : Sent × List ℕ) : Type 0 where
  pub ok : Bool
  pub sound : Tells ok (Sound t)
  pub same : answer ≡ list_keys ok name k n (state_of t) old
