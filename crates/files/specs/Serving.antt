-- Serving a file through a buffer: what one call of `serve_next` does, and what a whole run is.
use Rattle.std.specs.Prelude.{◌≡◌, ◌⊎◌, true, List, [], ◌∷◌, ◌++◌, ℕ, ◌≤◌, ◌<◌, length, take}
use Rattle.std.proofs.lemmas.List.Edits.{sets}
use Rattle.service.specs.Line.{longest, lines_step}
use Rattle.service.specs.Feed.{Turn, lines_of, joined}
use Rattle.service.specs.Turns.{line_room, Turns}
use Rattle.table.specs.Memory.{state_of, Sound}
use Rattle.service.specs.Stream.{Becomes}
use Rattle.files.specs.declared.Window.{Window}
use Rattle.files.specs.declared.NextServe.{NextServe}
use Rattle.files.specs.declared.NextServe.TheVariants as next
use Rattle.files.specs.Window.{inside, Lies, behind, Moves, arrived, Brings}
use Rattle.field.specs.declared.refusals.Refusal.{Refusal}
use Rattle.field.specs.declared.refusals.Refusal.TheVariants as refusal

-- what serving asks for: a buffer longer than the longest line, room for a line given, and a sound table
pub record Ready (buf t out : List ℕ) (s : Window) : Type 0 where
  pub lies : Lies buf s
  pub long : longest < length buf
  pub room : line_room ≤ length out
  pub sound : Sound t

-- the lines in the window are served, as far as there is room for what they give: x is what the turns on them make
pub record Serves (buf t out : List ℕ) (s : Window) (x : Turn) (t' : List ℕ) : Type 0 where
  pub ready : Ready buf t out s
  pub turns : Turns s.ended s.carried (inside buf s) (state_of t) (length out) x
  pub table : Becomes t x.next t'

-- "write the first n bytes of out, and call again with s'"
pub record Writes (buf t out : List ℕ) (s : Window) (n : ℕ) (s' : Window) (buf' t' out' : List ℕ) : Type 0 where
  pub turn : Turn
  pub serves : Serves buf t out s turn t'
  pub some : 0 < n
  pub fits : n ≤ length out
  pub size : n ≡ length turn.text
  pub list : out' ≡ sets out 0 turn.text
  pub next : s' ≡ behind s turn.taken turn.passing
  pub buffer : buf' ≡ buf

-- "read into the buffer behind the bytes that s' holds"
pub record Reads (buf t out : List ℕ) (s s' : Window) (buf' t' out' : List ℕ) : Type 0 where
  pub turn : Turn
  pub serves : Serves buf t out s turn t'
  pub quiet : turn.text ≡ []
  pub moves : Moves buf s turn.taken turn.passing s' buf'
  pub list : out' ≡ out

-- "done": the file's end is reached, and there is nothing more to write
pub record Ends (buf t out : List ℕ) (s : Window) (buf' t' out' : List ℕ) : Type 0 where
  pub turn : Turn
  pub serves : Serves buf t out s turn t'
  pub ended : s.ended ≡ true
  pub quiet : turn.text ≡ []
  pub buffer : buf' ≡ buf
  pub list : out' ≡ out

-- nothing was changed
pub record Same (buf t out buf' t' out' : List ℕ) : Type 0 where
  pub buffer : buf' ≡ buf
  pub table : t' ≡ t
  pub list : out' ≡ out

-- "12" where a buffer is too short, else "13" where the table is not sound
pub record Refuses (buf t out : List ℕ) (s : Window) (k : Refusal) (buf' t' out' : List ℕ) : Type 0 where
  pub why : ((k ≡ refusal.Room) × ((length buf ≤ longest) ⊎ (length out < line_room))) ⊎ ((k ≡ refusal.Table) × (longest < length buf) × (line_room ≤ length out) × (Sound t → ⊥))
  pub lies : Lies buf s
  pub same : Same buf t out buf' t' out'

pub record Strays (buf t out : List ℕ) (s : Window) (buf' t' out' : List ℕ) : Type 0 where
  pub outside : Lies buf s → ⊥
  pub same : Same buf t out buf' t' out'

-- what `serve_next` answers, and what it leaves of what it was lent
abbrev pub ServesNext : List ℕ → List ℕ → List ℕ → Window → NextServe → List ℕ → List ℕ → List ℕ → Type 0
ServesNext buf t out s (next.Write n s') buf' t' out' = Writes buf t out s n s' buf' t' out'
ServesNext buf t out s (next.Read s') buf' t' out' = Reads buf t out s s' buf' t' out'
ServesNext buf t out s next.Done buf' t' out' = Ends buf t out s buf' t' out'
ServesNext buf t out s (next.Refused k) buf' t' out' = Refuses buf t out s k buf' t' out'
ServesNext buf t out s next.Astray buf' t' out' = Strays buf t out s buf' t' out'

-- A whole run, from a buffer, a table and a window on: the chunks that reads bring, one after the other, all that is written, in order, and the table
-- at the end. The buffer for output may be another at each call, and what stands in it does not matter.
pub data Runs : List ℕ → List ℕ → Window → List (List ℕ) → List ℕ → List ℕ → Type 0 where
  wrote : {buf t out buf' t' out' w t'' : List ℕ} {s s' : Window} {n : ℕ} {ps : List (List ℕ)} → ServesNext buf t out s (next.Write n s') buf' t' out'
      → Runs buf' t' s' ps w t'' → Runs buf t s ps (take n out' ++ w) t''
  read : {buf t out buf' t' out' p buf'' w t'' : List ℕ} {s s' : Window} {ps : List (List ℕ)} → ServesNext buf t out s (next.Read s') buf' t' out'
      → Brings buf' s'.held p buf'' → Runs buf'' t' (arrived s' (length p)) ps w t'' → Runs buf t s (p ∷ ps) w t''
  done : {buf t out buf' t' out' : List ℕ} {s : Window} → ServesNext buf t out s next.Done buf' t' out' → Runs buf t s [] [] t'

-- What serving a file from a table gives: what its lines give is written, and the table is the one that they leave. Where none of them takes effect, the
-- table keeps its bytes.
pub record FileGives (file t written t' : List ℕ) : Type 0 where
  pub text : written ≡ (lines_step (lines_of file) (state_of t)).text
  pub table : Becomes t (lines_step (lines_of file) (state_of t)).next t'

-- Between two calls of a run: whatever run goes on from here, the chunks read and the bytes written so far come before its own.
pub record Ahead (buf t : List ℕ) (s : Window) (buf' t' : List ℕ) (s' : Window) : Type 0 where
  pub chunks : List (List ℕ)
  pub written : List ℕ
  pub on : {ps : List (List ℕ)} {w t'' : List ℕ} → Runs buf' t' s' ps w t'' → Runs buf t s (chunks ++ ps) (written ++ w) t''

-- what a call answers, and what it leaves
pub record Answers (buf t out : List ℕ) (s : Window) : Type 0 where
  pub answer : NextServe
  pub buffer : List ℕ
  pub table : List ℕ
  pub output : List ℕ
  pub does : ServesNext buf t out s answer buffer table output

-- a run that serves a file to its end
pub record Ran (file buf t : List ℕ) (s : Window) : Type 0 where
  pub chunks : List (List ℕ)
  pub all : joined chunks ≡ file
  pub written : List ℕ
  pub table : List ℕ
  pub runs : Runs buf t s chunks written table
