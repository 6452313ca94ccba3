-- A whole run is a file in chunks: what is written is what the lines of the file give, and the table at the end is sound and has the state behind them.
-- Assumes nothing.
use mathlib.Core.Path.{◌≡◌, refl, sym, ap, ◌∙◌}
use mathlib.Core.Bool.{Bool, true}
use mathlib.Core.Option.{Option, none}
use mathlib.Core.List.{List, [], ◌∷◌, ◌++◌}
use Prim.Native.Nat.{ℕ, ◌≤◌}
use native.Mathlib.Omega.{arith}
use lib.ListN.{length, take}
use lib.Seq.{sets, sets-eq, take-append_seam}
use Rattle.wire.proofs.Laws.{never}
use Rattle.service.specs.Line.{Given, given, later, lines_step}
use Rattle.service.specs.Feed.{lines_of, joined, Feeds, read as feeds-read, end as feeds-end}
use Rattle.service.proofs.Chunks.{rest_step, chunks}
use Rattle.table.specs.Memory.{state_of, Sound}
use Rattle.service.specs.Stream.{Becomes}
use Rattle.map.specs.State.{State}
use Rattle.server.proofs.LeftLaws.{left-state, left-sound, left_both}
use Rattle.files.specs.declared.Window.{Window}
use Rattle.files.specs.Window.{begin, inside, arrived, Brings}
use Rattle.files.specs.Serving.{Writes, Reads, Ends, Runs, wrote, read, done, FileGives}
use Rattle.files.proofs.TurnsLaws.{turns_feed, turns-within, turns-end}
use Rattle.files.proofs.WindowLaws.{inside-behind, inside-more, carried-more}

-- what is to be written
pub given_out : (out text : List ℕ) → length text ≤ length out → take (length text) (sets out 0 text) ≡ text
given_out out text h = rw (sets-eq text out 0 (omega arith)) (take-append_seam text _)

-- at the file's end there is no further chunk
ended-none : {buf t w t' : List ℕ} {s : Window} {ps : List (List ℕ)} → Runs buf t s ps w t' → s.ended ≡ true → ps ≡ []
ended-none (wrote x r) e = ended-none r (ap (λ (s : Window). s.ended) x.next ∙ e)
ended-none (read x b r) e = never (cc x.moves.on)
ended-none (done x) e = refl

-- a file in chunks, from a place on: what is written, and the table that is left
pub record Fed (passing : Bool) (here : List ℕ) (ps : List (List ℕ)) (t w t' : List ℕ) : Type 0 where
  pub next : Option State
  pub feeds : Feeds passing here ps (state_of t) (given w next)
  pub table : Becomes t next t'

module _ {buf t out buf' t' out' w t'' : List ℕ} {s s' : Window} {ps : List (List ℕ)} where
  fed-wrote : {n : ℕ} → Writes buf t out s n s' buf' t' out' → (s.ended ≡ true → ps ≡ []) → Fed s'.carried (inside buf' s') ps t' w t''
      → Fed s.carried (inside buf s) ps t (take n out' ++ w) t''
  fed-wrote x f y =
      let v = x.serves in
      let o = given_out out x.turn.text (omega (arith, x.size, x.fits)) in
      record {
        next = later x.turn.next y.next;
        feeds = rw (x.size, x.list, o)
            (turns_feed {g = given w y.next} f v.turns
            (rw (x.next, x.buffer, left-state t t' x.turn.next v.table, inside-behind v.ready.lies x.turn.taken x.turn.passing (turns-within v.turns)) at y.feeds));
        table = left_both t t' t'' x.turn.next y.next v.table y.table;
      }

  fed-more : {p buf'' : List ℕ} → Reads buf t out s s' buf' t' out' → Brings buf' s'.held p buf''
      → Fed (arrived s' (length p)).carried (inside buf'' (arrived s' (length p))) ps t' w t'' → Fed s.carried (inside buf s) (p ∷ ps) t w t''
  fed-more {p = p} x b y =
      let v = x.serves in
      record {
        next = later x.turn.next y.next;
        feeds = rw x.quiet
            at (turns_feed {g = given w y.next} (λ e. never (cc x.moves.on)) v.turns
            (feeds-read {p = p} (rw (inside-more x.moves b, carried-more x.moves b, left-state t t' x.turn.next v.table) at y.feeds)));
        table = left_both t t' t'' x.turn.next y.next v.table y.table;
      }

fed-done : {buf t out buf' t' out' : List ℕ} {s : Window} → Ends buf t out s buf' t' out' → Fed s.carried (inside buf s) [] t [] t'
fed-done x =
    let v = x.serves in
    let e = turns-end v.turns v.ready.room (ap length x.quiet) in
    record {
      next = x.turn.next;
      feeds = rw x.quiet at (turns_feed {g = given [] none} (λ _. refl) v.turns (feeds-end (rw x.ended at e)));
      table = v.table;
    }

pub fed : {buf t w t' : List ℕ} {s : Window} {ps : List (List ℕ)} → Runs buf t s ps w t' → Fed s.carried (inside buf s) ps t w t'
fed (wrote x r) = fed-wrote x (λ e. ended-none (wrote x r) e) (fed r)
fed (read x b r) = fed-more x b (fed r)
fed (done x) = fed-done x

-- the table at the end is sound
ends-sound : {buf t w t' : List ℕ} {s : Window} {ps : List (List ℕ)} → Runs buf t s ps w t' → Sound t'
ends-sound (wrote x r) = ends-sound r
ends-sound (read x b r) = ends-sound r
ends-sound {t = t} {t' = t'} (done x) = left-sound t t' x.turn.next x.serves.ready.sound x.serves.table

-- A whole file, however reading cuts it: what is written is what its lines give, and the table at the end is the one that they leave, and sound. Where
-- none of the lines takes effect, it keeps its bytes.
pub whole-served : {buf t w t' : List ℕ} {ps : List (List ℕ)} → Runs buf t begin ps w t' → FileGives (joined ps) t w t' × Sound t'
unfolding rest_step
whole-served {t = t} {w} {t'} {ps} r =
    let f = fed r in
    let e : given w f.next ≡ lines_step (lines_of (joined ps)) (state_of t) = chunks f.feeds in
    (record { text = ap (λ (g : Given). g.text) e; table = rw (ap (λ (g : Given). g.next) e) at f.table }, ends-sound r)

-- what is written, and the state at the end, go by the file and the state before it alone
pub determined : {buf t w t' buf₂ t₂ w₂ t₂' : List ℕ} {ps qs : List (List ℕ)} → Runs buf t begin ps w t' → Runs buf₂ t₂ begin qs w₂ t₂' → joined ps ≡ joined qs
    → state_of t ≡ state_of t₂ → (w ≡ w₂) × (state_of t' ≡ state_of t₂')
determined {t = t} {t' = t'} {t₂ = t₂} {t₂' = t₂'} {ps} {qs} x y e s =
    let f = (whole-served x).0 in
    let g = (whole-served y).0 in
    let h : lines_step (lines_of (joined ps)) (state_of t) ≡ lines_step (lines_of (joined qs)) (state_of t₂) = rw (e, s) in (
      f.text ∙ ap (λ (z : Given). z.text) h ∙ sym g.text,
      left-state t t' (lines_step (lines_of (joined ps)) (state_of t)).next f.table
          ∙ rw (h, s) (sym (left-state t₂ t₂' (lines_step (lines_of (joined qs)) (state_of t₂)).next g.table)),
    )
