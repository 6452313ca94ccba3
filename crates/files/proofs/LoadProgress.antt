-- Whoever calls and reads as the answers say comes to 'done' or to 17, however reading cuts the file. Assumes nothing.
use mathlib.Core.Path.{◌≡◌, sym, ◌∙◌}
use mathlib.Core.Bool.{true, false}
use mathlib.Core.List.{List, [], ◌∷◌, append-nil}
use Prim.Native.Nat.{ℕ, zero, suc, ◌<◌}
use native.Mathlib.Omega.{arith}
use lib.ListN.{length}
use Rattle.wire.proofs.Laws.{never}
use Rattle.map.specs.State.{State}
use Rattle.service.specs.Feed.{joined}
use Rattle.table.specs.Memory.{size, state_of, Sound}
use Rattle.stored.specs.File.{form1, Stores}
use Rattle.service.proofs.Chunks.{joined-more}
use Rattle.files.specs.declared.Window.{Window}
use Rattle.files.specs.declared.NextLoad.{NextLoad}
use Rattle.files.specs.declared.NextLoad.TheVariants as load
use Rattle.files.specs.Window.{begin, Lies, arrived, Cuts}
use Rattle.files.specs.Loading.{longest_stored, LoadsOn, LoadsNext, read, done, broken, LoadAnswers, LoadRan}
use Rattle.files.proofs.TurnsLaws.{no_chunks}
use Rattle.files.proofs.Progress.{togo, Cut, cut}
use Rattle.files.proofs.LoadLaws.{whole-loaded}

-- what is left of a file, as one chunk
rest : List ℕ → List (List ℕ)
rest [] = []
rest (b ∷ file) = (b ∷ file) ∷ []

rest_all : (file : List ℕ) → joined (rest file) ≡ file
unfolding joined rest
rest_all [] = no_chunks
rest_all (b ∷ file) = append-nil (b ∷ file)

rest-none : (file : List ℕ) → file ≡ [] → rest file ≡ []
unfolding rest
rest-none file e = rw e

ran_read : {file buf t buf' t' : List ℕ} {s s' : Window} → LoadsOn buf t s s' buf' t' → (z : Cut file buf s s' buf')
    → LoadRan z.rest z.new t' (arrived s' (length z.chunk)) → LoadRan file buf t s
ran_read x z y =
    record {
      chunks = z.chunk ∷ y.chunks;
      all = joined-more z.chunk y.chunks ∙ rw y.all z.all;
      good = y.good;
      table = y.table;
      runs = read x z.brings y.runs;
    }

module _ (c : Cuts) {n : ℕ}
    (on : (file buf t : List ℕ) (s : Window) → Lies buf s → longest_stored < length buf → (s.ended ≡ true → file ≡ []) → togo file buf s < n → LoadRan file buf t s)
    (file buf t : List ℕ) (s : Window) (l : Lies buf s) (w : longest_stored < length buf) (f : s.ended ≡ true → file ≡ []) (h : togo file buf s < suc n) where
  after-answer : (buf' t' : List ℕ) (a : NextLoad) → LoadsNext buf t s a buf' t' → LoadRan file buf t s
  after-answer buf' t' (load.Read s') x =
      let z = cut c file x.moves in
      ran_read x z (on z.rest z.new t' (arrived s' (length z.chunk)) z.lies (omega (arith, z.long)) z.none (omega (arith, z.less)))
  after-answer buf' t' load.Done x = record { chunks = []; all = no_chunks ∙ sym (f x.ended); good = true; table = t'; runs = done x }
  after-answer buf' t' (load.Broken m) x =
      record { chunks = rest file; all = rest_all file; good = false; table = t'; runs = broken x (λ e. rest-none file (f e)) }
  after-answer buf' t' (load.Refused k) x = absurd (omega (arith, x.short))
  after-answer buf' t' load.Astray x = absurd (x.outside l)

-- any function that does what `load_next` ensures, called again and again
module _ (call : (buf t : List ℕ) (s : Window) → LoadAnswers buf t s) (c : Cuts) where
  run_on : (n : ℕ) (file buf t : List ℕ) (s : Window) → Lies buf s → longest_stored < length buf → (s.ended ≡ true → file ≡ []) → togo file buf s < n → LoadRan file buf t s
  run_on zero file buf t s l w f h = absurd (omega arith)
  run_on (suc n) file buf t s l w f h =
      let a = call buf t s in
      after-answer c (λ file buf t s l w f h. run_on n file buf t s l w f h) file buf t s l w f h a.buffer a.table a.answer a.does

  loadings_end : (file buf t : List ℕ) → longest_stored < length buf → LoadRan file buf t begin
  loadings_end file buf t w =
      run_on (suc (togo file buf begin)) file buf t begin (record { order = omega arith; within = omega arith }) w (λ e. never (cc)) (omega arith)

  -- a whole file, however reading cuts it: 'done' exactly where it stores a table, which then is loaded
  pub loads-file : (file buf t : List ℕ) → longest_stored < length buf → length t ≡ size → (x : LoadRan file buf t begin)
      × ((x.good ≡ true → Sound x.table × Stores form1 file (state_of x.table)) × (x.good ≡ false → (st : State) → Stores form1 file st → ⊥))
  loads-file file buf t w l =
      let x = loadings_end file buf t w in
      let y = whole-loaded x.runs in
      (x, (λ e. rw x.all at (y.0 e), λ e st q. y.1 l e st (rw x.all q)))
