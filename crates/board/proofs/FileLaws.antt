-- What a read leaves of a buffer is a chunk of the file behind the bytes held. Assumes nothing.
use mathlib.Core.Path.{◌≡◌, refl, sym, ap, ◌∙◌}
use mathlib.Core.List.{List, [], ◌∷◌, ◌++◌}
use Prim.Native.Nat.{ℕ, ◌+◌, ◌-◌, ◌≤◌}
use native.Mathlib.Omega.{arith}
use lib.ListN.{length, take, drop, length-append, length-take, length-drop}
use lib.Seq.{length-take-le, take_at}
use Rattle.files.specs.declared.Window.{Window}
use Rattle.files.specs.Window.{greatest, begin, arrived, Arrives}
use Rattle.files.specs.Serving.{Ready, Runs, Ahead}
use Rattle.files.specs.Loading.{broken, LoadAhead}
use Rattle.files.proofs.RunLaws.{whole-served}
use Rattle.files.proofs.LoadLaws.{whole-loaded}
use Rattle.files.proofs.WindowLaws.{brings-some}
use Rattle.board.specs.declared.file.Turned.{Turned}
use Rattle.board.specs.declared.file.Turned.TheVariants as turned
use Rattle.board.specs.contracts.file.Turned as turned-code
use Rattle.board.specs.Turn.{Chunk, FileServed, LoadReady, Loads, Builds, Stores}
use Rattle.table.specs.Memory.{Sound}
use Rattle.files.specs.declared.NextStore.{NextStore}
use Rattle.files.specs.declared.NextStore.TheVariants as store
use Rattle.files.specs.Storing.{StoreReady, StoresNext}
use Rattle.files.proofs.StoreLaws.{never-refused}
use types.Run.{OneOf, miss}
use denote.Enum.Declared.{tag_of}

-- the buffer after a read from the place `held` on left sub there
abbrev pub after : List ℕ → ℕ → List ℕ → List ℕ
after buf k sub = take k buf ++ (sub ++ drop (length buf - k) (drop k buf))

pub read-chunk : (buf sub : List ℕ) (s r : Window) (n : ℕ) → s.held ≤ length buf → length sub ≡ length buf - s.held
    → n ≤ length sub → length buf ≤ greatest → Arrives s n r → Chunk buf s r (after buf s.held sub)
read-chunk buf sub s r n h l m g a =
    let k : ℕ = s.held in
    let new : List ℕ = after buf k sub in
    let long : length new ≡ length buf = simp (length-append, length-take, length-drop, l) (omega arith) in
    let f : k + n ≤ length buf = omega arith in
    let p : length (take n (drop k new)) ≡ n = length-take-le n (drop k new) (omega (arith, length-drop k new)) in
    record {
      chunk = take n (drop k new);
      brings = brings-some buf new k n (take_at (take k buf) _ k (length-take-le k buf h)) long f;
      next = a.sum (omega arith) ∙ ap (arrived s) (sym p);
    }

-- a run that was put together from its turns
pub served-file : {buf t buf' t' t'' : List ℕ} {s : Window} → Ahead buf t begin buf' t' s → Runs buf' t' s [] [] t'' → FileServed t t''
served-file a x = let y = whole-served (a.on x) in record { chunks = _; written = _; gives = y.0; sound = y.1 }

-- a file that was loaded, or stores no table
pub built : {buf t buf' t' : List ℕ} {s : Window} (buf'' t'' : List ℕ) (r : Turned) → OneOf (1 ∷ 2 ∷ 3 ∷ []) (tag_of turned-code.the_type r) → LoadAhead buf t begin buf' t' s
    → Loads buf' t' s r buf'' t'' → Builds t r t''
built buf'' t'' (turned.On s) k a x = absurd (miss (1 ∷ 2 ∷ 3 ∷ []) 0 tt k)
built buf'' t'' turned.Done k a x = let y = (whole-loaded (a.on x)).0 refl in record { chunks = _; stores = y.1; sound = y.0 }
built {s = s} buf'' t'' (turned.Broken n) k a x =
    record { chunks = a.chunks; ended = s.ended; none = λ l more f st q. (whole-loaded (a.on (broken x f))).1 l refl st q }
built buf'' t'' turned.Failed k a x = tt

-- a buffer of the program is long enough
pub load-begin : (buf : List ℕ) → length buf ≡ 65536 → LoadReady buf begin
load-begin buf h = record { lies = record { order = omega arith; within = omega arith }; long = omega arith }

pub serve-begin : (buf t out : List ℕ) → length buf ≡ 65536 → length out ≡ 131072 → Sound t → Ready buf t out begin
serve-begin buf t out h o s = record { lies = record { order = omega arith; within = omega arith }; long = omega arith; room = omega arith; sound = s }

pub storing : {t out : List ℕ} (out' : List ℕ) (i : ℕ) (r : NextStore) → StoreReady t out → StoresNext t out i r out' → Stores r
storing out' i (store.Write n j) r x = tt
storing out' i store.Done r x = tt
storing out' i (store.Refused k) r x = never-refused r x
