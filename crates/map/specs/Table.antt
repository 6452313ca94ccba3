-- Which states a table can hold: "A table is one if ..", word for word.
use Rattle.std.specs.Prelude.{◌≡◌, List, [], ◌∷◌, true, ◌⊎◌, ℕ, ◌≤◌, ◌<◌, length, get_or}
use Rattle.wire.specs.Codec.{is_bytes}
pub use Rattle.wire.specs.Each.{Each, Pairs}
use Rattle.message.specs.Arguments.{key_limit, value_limit}
use Rattle.map.specs.History.{History, counts_held, most_count, start_of}
use Rattle.map.specs.State.{Entry, State}
use Rattle.map.specs.Step.{most_keys, last_version}

-- the entry is one of them
abbrev pub In : Entry → List Entry → Type 0
In e [] = ⊥
In e (f ∷ fs) = (f ≡ e) ⊎ In e fs

-- "every deadline at most 8,589,934,590"
abbrev pub last_deadline : ℕ
last_deadline = 8_589_934_590

-- "sizes kept", and the deadline at most that
pub record Sizes (e : Entry) : Type 0 where
  pub key : length e.key ≤ key_limit
  pub value : length e.value ≤ value_limit
  pub key_bytes : is_bytes e.key ≡ true
  pub value_bytes : is_bytes e.value ≡ true
  pub deadline : e.deadline ≤ last_deadline

abbrev pub OtherKey : Entry → Entry → Type 0
OtherKey e f = e.key ≡ f.key → ⊥

abbrev pub OtherVersion : Entry → Entry → Type 0
OtherVersion e f = e.version ≡ f.version → ⊥

-- a version issued
abbrev pub Issued : ℕ → Entry → Type 0
Issued last e = (1 ≤ e.version) × (e.version ≤ last)

-- the counts of a table: "13 for a greater count"; how they stand to each other and to the first second is free
pub record Counts (h : History) : Type 0 where
  pub long : length h.counts ≡ counts_held
  pub most : (i : ℕ) → get_or h.counts i 0 ≤ most_count

-- "4,294,967,295", the greatest second
abbrev pub last_second : ℕ
last_second = 4_294_967_295

-- the seconds of a table: "it or C-11's first second above 4,294,967,295 is 13"
pub record Seconds (h : History) : Type 0 where
  pub first : start_of h.first 0 ≤ last_second
  pub latest : h.latest ≤ last_second

-- of all entries, expired or not
pub record IsTable (st : State) : Type 0 where
  -- "at most 128 keys are held"
  pub few : length st.entries ≤ most_keys
  -- "all different"
  pub keys : Pairs OtherKey st.entries
  pub sizes : Each Sizes st.entries
  -- "versions different"
  pub versions : Pairs OtherVersion st.entries
  -- "and between 1 and the last issued"
  pub issued : Each (Issued st.last) st.entries
  -- "that one within its limit"
  pub last : st.last ≤ last_version
  pub counts : Counts st.history
  pub seconds : Seconds st.history

-- the order in which a state lists its entries: versions ascend
abbrev pub Ascending : List Entry → Type 0
Ascending es = Pairs (λ e f. e.version < f.version) es
