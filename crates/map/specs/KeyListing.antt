-- The order of the keys, and the listing that uses it (document 02, C-24).
use Rattle.std.specs.Prelude.{List, map, Bool, false, cond, ℕ, take}
use Rattle.wire.specs.Before.{before}
use Rattle.wire.specs.Sorted.{sorted}
use Rattle.wire.specs.Write.{Sent, kept, sent}
use Rattle.message.specs.Arguments.{is_empty}
use Rattle.message.specs.Listing.{listing}
use Rattle.map.specs.State.{Entry, State, without}
use Rattle.map.specs.Deadline.{standing}
use Rattle.map.specs.Reply.{pair_of}

-- an entry stands before another by its key
abbrev pub entry_before : Entry → Entry → Bool
entry_before e f = before e.key f.key

-- "the order made afresh"
abbrev pub sorted_by_key : List Entry → List Entry
sorted_by_key es = sorted entry_before es

-- "of one cache's keys that stand at the latest second served and aren't before a given key, the first ones, at most so many". At most 0 are none.
unfoldable pub key_listing : List ℕ → ℕ → State → List Entry
key_listing k n st = take n (standing st.history.latest (without (λ e. before e.key k) (sorted_by_key st.entries)))

-- "written as a bulkGetKeys body"
unfoldable pub listing_body : List ℕ → ℕ → State → List ℕ
listing_body k n st = (listing false).enc (map (pair_of false) (key_listing k n st))

-- "the listing gives 13, 9, then 12 when its room is under that body's length": what is answered, and the buffer after it. A refusal leaves the buffer as it
-- was, and behind the body it keeps its bytes. ok: the table is sound; name: the cache's name, of which the empty one alone is served.
unfoldable pub list_keys : Bool → List ℕ → List ℕ → ℕ → State → List ℕ → Sent × List ℕ
list_keys ok name k n st old = cond ok (cond (is_empty name) (sent (listing_body k n st) old) (kept 9, old)) (kept 13, old)
