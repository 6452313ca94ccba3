-- What the map keeps of the calls served (document 02, C-11 and C-15): "the history since start or the last load".
use Rattle.std.specs.Prelude.{List, [], ◌∷◌, Bool, cond, not, ◌&&◌, ◌||◌, ℕ, suc, eqb, ltb}
use Rattle.std.proofs.Math.Option.{Option, none, some}
use Rattle.message.specs.declared.Operation.{Operation}
use Rattle.message.specs.declared.Operation.TheVariants.{Put, Get, PutIfAbsent, Remove}
use Rattle.message.specs.Operation.{code_of}

-- the second of the first call served, if one was, the latest second served, and the counts in the order of document 000's list, from totalNumberOfEntries on
pub record History : Type 0 where
  pub first : Option ℕ
  pub latest : ℕ
  pub counts : List ℕ

-- the places of the counts
abbrev pub total : ℕ
total = 0

abbrev pub stores : ℕ
stores = 1

abbrev pub retrievals : ℕ
retrievals = 2

abbrev pub hits : ℕ
hits = 3

abbrev pub misses : ℕ
misses = 4

abbrev pub remove_hits : ℕ
remove_hits = 5

abbrev pub remove_misses : ℕ
remove_misses = 6

abbrev pub counts_held : ℕ
counts_held = 7

-- no call was served: "A loaded table starts from second 0", and so does a fresh one
abbrev pub no_history : History
no_history = record { first = none; latest = 0; counts = 0 ∷ 0 ∷ 0 ∷ 0 ∷ 0 ∷ 0 ∷ 0 ∷ [] }

-- "All .. stop at the largest vLong."
abbrev pub most_count : ℕ
most_count = 0x7fff_ffff_ffff_ffff

abbrev pub onward : ℕ → ℕ
onward n = cond (ltb n most_count) (suc n) n

abbrev pub is : Operation → Operation → Bool
is o p = eqb (code_of o) (code_of p)

-- Which counts a request that is served adds one to, by its operation and by whether no entry has its key: "stores counts put requests answered 00,
-- retrievals get requests served, split into hits and misses as removes into removeHits and removeMisses. totalNumberOfEntries counts writes that
-- added a key not held then". The law `counts-run` ties this to the replies.
unfoldable pub adds : Operation → Bool → List Bool
adds o absent =
    ((is Put o || is PutIfAbsent o) && absent)
    ∷ is Put o
    ∷ is Get o
    ∷ (is Get o && not absent)
    ∷ (is Get o && absent)
    ∷ (is Remove o && not absent)
    ∷ (is Remove o && absent)
    ∷ []

-- each count whose mark is true goes on by one
unfoldable pub marked : List Bool → List ℕ → List ℕ
marked [] ns = ns
marked (b ∷ bs) [] = []
marked (b ∷ bs) (n ∷ ns) = cond b (onward n) n ∷ marked bs ns

unfoldable pub tally : Operation → Bool → List ℕ → List ℕ
tally o absent ns = marked (adds o absent) ns

-- "that of the first call served": this call's second where none was
abbrev pub start_of : Option ℕ → ℕ → ℕ
start_of none second = second
start_of (some first) second = first
