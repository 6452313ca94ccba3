-- The keys that stand, by the order and from the place of a key on, as numbers that name them in the memory.
use Rattle.std.specs.Prelude.{◌≡◌, List, [], map, false, cond, ℕ, ◌%◌, ◌≤◌, length, drop, eqb}
use Rattle.listing.specs.EntryWrite.{entry_named}
use Rattle.map.specs.State.{Entry}
use Rattle.map.specs.Step.{most_keys}
use Rattle.map.specs.Deadline.{standing}
use Rattle.map.specs.Reply.{pair_of}
use Rattle.table.specs.Bytes.{upto}
use Rattle.table.specs.Memory.{size, count_of, order_of, row_entry}
use Rattle.table.specs.Order.{insertion_place}

-- the entries by the order, of any bytes
unfoldable pub entries_by_key : List ℕ → List Entry
entries_by_key t = upto (λ p. row_entry t (order_of t p % most_keys)) (count_of t)

-- those that stand at a second, from place p on, as a listing has them
abbrev pub pairs_from : List ℕ → ℕ → ℕ → List (List ℕ × List ℕ)
pairs_from t now p = map (pair_of false) (standing now (drop p (entries_by_key t)))

-- from the place of a key on; memory of another length has none
unfoldable pub keys_from : List ℕ → List ℕ → ℕ → List (List ℕ × List ℕ)
keys_from t k now = cond (eqb (length t) size) (pairs_from t now (insertion_place t k)) []

-- numbers that name them, four for each
pub record KeysNamed (t k : List ℕ) (now : ℕ) (numbers : List ℕ) (many : ℕ) : Type 0 where
  pub few : many ≤ most_keys
  pub long : length numbers ≡ 512
  pub pairs : upto (λ i. entry_named t numbers i) many ≡ keys_from t k now
