-- Loading a stored table through a buffer: what one call of `load_next` does, and what a whole run is.
use Rattle.std.specs.Prelude.{◌≡◌, Bool, true, false, cond, List, [], ◌∷◌, ◌++◌, ℕ, ◌+◌, ◌≤◌, ◌<◌, length, drop}
use Rattle.service.specs.Feed.{joined}
use Rattle.map.specs.State.{State}
use Rattle.table.specs.Memory.{state_of}
use Rattle.stored.specs.File.{form1}
use Rattle.stored.specs.StoreLoad.{LoadsLines}
use Rattle.stored.specs.declared.Loading.{Loading}
use Rattle.files.specs.declared.Window.{Window}
use Rattle.files.specs.declared.NextLoad.{NextLoad}
use Rattle.files.specs.declared.NextLoad.TheVariants as load
use Rattle.files.specs.Window.{inside, Lies, Moves, arrived, Brings}
use Rattle.field.specs.declared.refusals.Refusal.{Refusal}
use Rattle.field.specs.declared.refusals.Refusal.TheVariants as refusal

-- the longest line of a stored table, its line end not counted: 339 bytes in digits
abbrev pub longest_stored : ℕ
longest_stored = 678

-- the whole lines in the window are loaded, up to the first that is not good
pub record Loads (buf t : List ℕ) (s : Window) (p : Loading) (t' : List ℕ) : Type 0 where
  pub lies : Lies buf s
  pub long : longest_stored < length buf
  pub lines : LoadsLines form1 s.carried (inside buf s) t p t'

-- "read into the buffer behind the bytes that s' holds"
pub record LoadsOn (buf t : List ℕ) (s s' : Window) (buf' t' : List ℕ) : Type 0 where
  pub chunk : Loading
  pub loads : Loads buf t s chunk t'
  pub good : chunk.good ≡ true
  pub moves : Moves buf s chunk.taken chunk.begun s' buf'

-- "done": the file's end is reached, its first line is loaded, and nothing is left behind the last one
pub record LoadsAll (buf t : List ℕ) (s : Window) (buf' t' : List ℕ) : Type 0 where
  pub chunk : Loading
  pub loads : Loads buf t s chunk t'
  pub ended : s.ended ≡ true
  pub begun : chunk.begun ≡ true
  pub all : chunk.taken ≡ length (inside buf s)
  pub buffer : buf' ≡ buf

-- Why a file stores no table: a line is not good; the file ends without its first line, or within a line; or a line is too long.
pub data Wrong (buf : List ℕ) (s : Window) (p : Loading) : Type 0 where
  bad : p.good ≡ false → Wrong buf s p
  cut_off : p.good ≡ true → s.ended ≡ true → (p.begun ≡ true → p.taken ≡ length (inside buf s) → ⊥) → Wrong buf s p
  too_long : p.good ≡ true → longest_stored < length (drop p.taken (inside buf s)) → Wrong buf s p

-- Lines are counted from 1. The number of the line behind those loaded: they are the first line, and one for each entry.
unfoldable pub line_behind : Bool → State → ℕ
line_behind begun st = cond begun (length st.entries + 2) 1

-- "17: stored form broken", seen at line n
pub record LoadsNone (buf t : List ℕ) (s : Window) (n : ℕ) (buf' t' : List ℕ) : Type 0 where
  pub chunk : Loading
  pub line : n ≡ line_behind chunk.begun (state_of t')
  pub loads : Loads buf t s chunk t'
  pub wrong : Wrong buf s chunk
  pub buffer : buf' ≡ buf

-- the buffer is too short for a line: nothing was changed
pub record TooShort (buf t : List ℕ) (s : Window) (k : Refusal) (buf' t' : List ℕ) : Type 0 where
  pub number : k ≡ refusal.Room
  pub lies : Lies buf s
  pub short : length buf ≤ longest_stored
  pub buffer : buf' ≡ buf
  pub table : t' ≡ t

pub record LoadStrays (buf t : List ℕ) (s : Window) (buf' t' : List ℕ) : Type 0 where
  pub outside : Lies buf s → ⊥
  pub buffer : buf' ≡ buf
  pub table : t' ≡ t

-- what `load_next` answers, and what it leaves of what it was lent
abbrev pub LoadsNext : List ℕ → List ℕ → Window → NextLoad → List ℕ → List ℕ → Type 0
LoadsNext buf t s (load.Read s') buf' t' = LoadsOn buf t s s' buf' t'
LoadsNext buf t s load.Done buf' t' = LoadsAll buf t s buf' t'
LoadsNext buf t s (load.Broken n) buf' t' = LoadsNone buf t s n buf' t'
LoadsNext buf t s (load.Refused k) buf' t' = TooShort buf t s k buf' t'
LoadsNext buf t s load.Astray buf' t' = LoadStrays buf t s buf' t'

-- A whole run, from a buffer, a table and a window on: the chunks of the file, whether it ends with 'done', and the memory at the end. Where it ends
-- with 17, the chunks from there on are not read.
pub data Loadings : List ℕ → List ℕ → Window → List (List ℕ) → Bool → List ℕ → Type 0 where
  read : {buf t buf' t' p buf'' t'' : List ℕ} {s s' : Window} {ps : List (List ℕ)} {r : Bool} → LoadsNext buf t s (load.Read s') buf' t'
      → Brings buf' s'.held p buf'' → Loadings buf'' t' (arrived s' (length p)) ps r t'' → Loadings buf t s (p ∷ ps) r t''
  done : {buf t buf' t' : List ℕ} {s : Window} → LoadsNext buf t s load.Done buf' t' → Loadings buf t s [] true t'
  broken : {buf t buf' t' : List ℕ} {s : Window} {n : ℕ} {ps : List (List ℕ)} → LoadsNext buf t s (load.Broken n) buf' t' → (s.ended ≡ true → ps ≡ [])
      → Loadings buf t s ps false t'

-- Between two calls of a run: whatever run goes on from here, the chunks read so far come before its own.
pub record LoadAhead (buf t : List ℕ) (s : Window) (buf' t' : List ℕ) (s' : Window) : Type 0 where
  pub chunks : List (List ℕ)
  pub on : {ps : List (List ℕ)} {r : Bool} {t'' : List ℕ} → Loadings buf' t' s' ps r t'' → Loadings buf t s (chunks ++ ps) r t''

-- what a call answers, and what it leaves
pub record LoadAnswers (buf t : List ℕ) (s : Window) : Type 0 where
  pub answer : NextLoad
  pub buffer : List ℕ
  pub table : List ℕ
  pub does : LoadsNext buf t s answer buffer table

-- a run that loads a file, to its end or to a refusal
pub record LoadRan (file buf t : List ℕ) (s : Window) : Type 0 where
  pub chunks : List (List ℕ)
  pub all : joined chunks ≡ file
  pub good : Bool
  pub table : List ℕ
  pub runs : Loadings buf t s chunks good table
