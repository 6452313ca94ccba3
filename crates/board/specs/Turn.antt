-- Reading on in a file, and a turn of serving and of loading it.
use Rattle.std.specs.Prelude.{◌≡◌, Bool, true, List, [], ◌++◌, ℕ, ◌<◌, length}
use Rattle.service.specs.Feed.{joined}
use Rattle.table.specs.Memory.{size, state_of, Sound}
use Rattle.stored.specs.File as file
use Rattle.stored.specs.File.{form1}
use Rattle.map.specs.State.{State}
use Rattle.files.specs.declared.Window.{Window}
use Rattle.files.specs.declared.NextStore.{NextStore}
use Rattle.files.specs.declared.NextStore.TheVariants as store
use Rattle.files.specs.Window.{Lies, arrived, Brings}
use Rattle.files.specs.Serving.{Ready, Runs, FileGives, Ahead}
use Rattle.files.specs.Loading.{longest_stored, LoadsNone, Loadings, LoadAhead}
use Rattle.std.specs.Prelude.{Result, Ok, Err}
use Rattle.board.specs.declared.file.Turned.{Turned}
use Rattle.board.specs.declared.file.Turned.TheVariants as turned

-- a chunk of the file stands behind the bytes held, and the window goes on with it
pub record Chunk (buf : List ℕ) (s s' : Window) (buf' : List ℕ) : Type 0 where
  pub chunk : List ℕ
  pub brings : Brings buf s.held chunk buf'
  pub next : s' ≡ arrived s (length chunk)

abbrev pub ReadsOn : {E : Type 0} → List ℕ → Window → Result Window E → List ℕ → Type 0
ReadsOn buf s (Ok s') buf' = Chunk buf s s' buf'
ReadsOn buf s (Err e) buf' = Unit {0}

-- A turn of serving is a step of a run, behind which all is ready for the next, or its end. No turn is refused, and no window lies outside its buffer.
abbrev pub Serves : List ℕ → List ℕ → Window → Turned → List ℕ → List ℕ → List ℕ → Type 0
Serves buf t s (turned.On s') buf' t' out' = Ahead buf t s buf' t' s' × Ready buf' t' out' s'
Serves buf t s turned.Done buf' t' out' = Runs buf t s [] [] t'
Serves buf t s (turned.Broken n) buf' t' out' = ⊥
Serves buf t s turned.Failed buf' t' out' = Unit {0}

-- what loading asks for
pub record LoadReady (buf : List ℕ) (s : Window) : Type 0 where
  pub lies : Lies buf s
  pub long : longest_stored < length buf

-- a turn of loading: broken is only a file that stores no table
abbrev pub Loads : List ℕ → List ℕ → Window → Turned → List ℕ → List ℕ → Type 0
Loads buf t s (turned.On s') buf' t' = LoadAhead buf t s buf' t' s' × LoadReady buf' s'
Loads buf t s turned.Done buf' t' = Loadings buf t s [] true t'
Loads buf t s (turned.Broken n) buf' t' = LoadsNone buf t s n buf' t'
Loads buf t s turned.Failed buf' t' = Unit {0}

-- A file was served to its end, through chunks that reads brought: the table at the end is the one that its lines leave, and sound.
pub record FileServed (t t' : List ℕ) : Type 0 where
  pub chunks : List (List ℕ)
  pub written : List ℕ
  pub gives : FileGives (joined chunks) t written t'
  pub sound : Sound t'

-- what is to be done next in storing: no call is refused
abbrev pub Stores : NextStore → Type 0
Stores (store.Write n line) = Unit {0}
Stores store.Done = Unit {0}
Stores (store.Refused k) = ⊥

-- a stored table was loaded
pub record FileLoaded (t' : List ℕ) : Type 0 where
  pub chunks : List (List ℕ)
  pub stores : file.Stores form1 (joined chunks) (state_of t')
  pub sound : Sound t'

-- What was read stores no table, whatever comes behind it; at the file's end, nothing does.
pub record FileBroken (t : List ℕ) : Type 0 where
  pub chunks : List (List ℕ)
  pub ended : Bool
  pub none : length t ≡ size → (more : List (List ℕ)) → (ended ≡ true → more ≡ []) → (st : State) → file.Stores form1 (joined (chunks ++ more)) st → ⊥

-- how loading a file ends
abbrev pub Builds : List ℕ → Turned → List ℕ → Type 0
Builds t (turned.On s) t' = ⊥
Builds t turned.Done t' = FileLoaded t'
Builds t (turned.Broken n) t' = FileBroken t
Builds t turned.Failed t' = Unit {0}
