-- Whoever calls, writes and reads as the answers say comes to the file's end, however reading cuts the file. Assumes nothing.
use mathlib.Core.Path.{◌≡◌, refl, sym, ap, ◌∙◌}
use mathlib.Core.Logic.{◌⊎◌, inl, inr}
use mathlib.Core.Bool.{Bool, true, cond}
use mathlib.Core.List.{List, [], ◌∷◌, ◌++◌}
use Prim.Native.Nat.{ℕ, zero, suc, ◌+◌, ◌-◌, ◌≤◌, ◌<◌}
use native.Mathlib.Omega.{arith}
use lib.ListN.{length, take, drop, length-drop, length-append, take-append-drop}
use lib.Seq.{length-sets, length-take-le, take_at, sets, sets-eq}
use lib.Dec.{eqb}
use borrow.Author.Tests.{eqb-true, ne_eqb}
use Rattle.field.specs.declared.refusals.Refusal.{Refusal}
use Rattle.field.specs.declared.refusals.Refusal.TheVariants as refusal
use Rattle.wire.proofs.Laws.{never}
use Rattle.hexadecimal.proofs.HexLaws.{length_none}
use Rattle.service.specs.Line.{longest}
use Rattle.service.specs.Turns.{line_room}
use Rattle.table.specs.Memory.{Sound}
use Rattle.server.proofs.LeftLaws.{left-sound}
use Rattle.service.proofs.Chunks.{joined-more}
use Rattle.files.specs.declared.Window.{Window}
use Rattle.files.specs.declared.NextServe.{NextServe}
use Rattle.files.specs.declared.NextServe.TheVariants as next
use Rattle.files.specs.Window.{begin, inside, Lies, Moves, arrived, Brings, Cuts}
use Rattle.files.specs.Serving.{Ready, Writes, Reads, Refuses, ServesNext, wrote, read, done, FileGives, Answers, Ran}
use Rattle.files.proofs.TurnsLaws.{no_chunks, turns-within, turns-some}
use Rattle.files.proofs.WindowLaws.{inside-behind, lies-behind, inside-read, lies-read, inside-front, front_long, lies_more, long-more}
use Rattle.files.proofs.RunLaws.{whole-served}

-- a number that falls with each call: a byte that is not yet read counts twice
abbrev pub togo : List ℕ → List ℕ → Window → ℕ
togo file buf s = length (inside buf s) + (length file + length file) + cond s.ended 0 1

-- what a read brings stands behind the bytes held
brings_sets : (buf p : List ℕ) (k : ℕ) → k + length p ≤ length buf → Brings buf k p (sets buf k p)
brings_sets buf p k h =
    let n : length (take k buf ++ p) ≡ k + length p = length-append (take k buf) p ∙ ap (λ (m : ℕ). m + length p) (length-take-le k buf (omega arith)) in
    record { fits = h; bytes = rw (sets-eq p buf k h) (take_at (take k buf ++ p) _ (k + length p) n); long = length-sets buf k p }

counts : (k : ℕ) → cond (eqb k 0) 0 1 ≤ k
counts zero = omega arith
counts (suc k) = rw (ne_eqb (suc k) 0 (λ e. omega arith)) (omega arith)

-- a read that brings nothing where there is room: nothing is left
none_left : (c : Cuts) (room left : ℕ) → 0 < room → c.brings room left ≡ 0 → left ≡ 0
none_left c room zero h e = refl
none_left c room (suc n) h e = absurd (omega (arith, c.some room (suc n) h (omega arith)))

-- the next chunk of a file: what is read of it, what is left of it, and the buffer with what was read
pub record Cut (file buf : List ℕ) (s s' : Window) (buf' : List ℕ) : Type 0 where
  pub chunk : List ℕ
  pub rest : List ℕ
  pub new : List ℕ
  pub all : chunk ++ rest ≡ file
  pub brings : Brings buf' s'.held chunk new
  pub lies : Lies new (arrived s' (length chunk))
  pub long : length new ≡ length buf
  pub none : (arrived s' (length chunk)).ended ≡ true → rest ≡ []
  pub less : togo rest new (arrived s' (length chunk)) < togo file buf s

pub cut : (c : Cuts) (file : List ℕ) {buf buf' : List ℕ} {s s' : Window} {n : ℕ} {d : Bool} → Moves buf s n d s' buf' → Cut file buf s s' buf'
cut c file {buf} {buf'} {s} {s'} {n} x =
    let left : List ℕ = drop n (inside buf s) in
    let z : s'.from ≡ 0 = ap (λ (s : Window). s.from) x.next in
    let l : s'.held ≡ length left = ap (λ (s : Window). s.held) x.next in
    let room : ℕ = length buf - s'.held in
    let k : ℕ = c.brings room (length file) in
    let p : List ℕ = take k file in
    let m : length p ≡ k = length-take-le k file (c.there room (length file)) in
    let long : length buf' ≡ length buf = ap length x.buffer ∙ front_long buf left (omega (arith, x.room)) in
    let b = brings_sets buf' p s'.held (omega (arith, c.fits room (length file), x.room)) in
    let i : inside buf' s' ≡ left = rw (x.next, x.buffer) (inside-front buf left (omega (arith, x.room))) in
    let q : length (inside (sets buf' s'.held p) (arrived s' (length p))) ≡ length (inside buf' s') + length p = ap length (inside-read s' z b) ∙ length-append (inside buf' s') p in
    let o : k ≡ 0 → length (drop k file) ≡ 0 = λ e. omega (arith, length-drop k file, none_left c room (length file) (omega (arith, x.room)) e) in
    record {
      chunk = p;
      rest = drop k file;
      new = sets buf' s'.held p;
      all = take-append-drop k file;
      brings = b;
      lies = lies-read s' z b;
      long = b.long ∙ long;
      none = λ e. length_none (drop k file) (o (sym m ∙ eqb-true (length p) 0 e));
      less = omega (arith, counts (length p), q, ap length i, c.there room (length file), length-drop k file, length-drop n (inside buf s), ap {B = ℕ} (λ (b : Bool). cond b 0 1) x.on);
    }

-- what is ready is not refused
pub never-refused : {buf t out buf' t' out' : List ℕ} {s : Window} {k : Refusal} → Ready buf t out s → Refuses buf t out s k buf' t' out' → ⊥
never-refused {buf} {t} {out} {k = k} r x = go x.why
  where
    go : ((k ≡ refusal.Room) × ((length buf ≤ longest) ⊎ (length out < line_room))) ⊎ ((k ≡ refusal.Table) × (longest < length buf) × (line_room ≤ length out) × (Sound t → ⊥)) → ⊥
    go (inl (_, inl h)) = omega (arith, r.long)
    go (inl (_, inr h)) = omega (arith, r.room)
    go (inr (_, _, _, e)) = e r.sound

-- behind a call that served, and behind a read, all is ready again
pub ready-wrote : {buf t out buf' t' out' : List ℕ} {s s' : Window} {k : ℕ} → Writes buf t out s k s' buf' t' out' → Ready buf' t' out' s'
ready-wrote {t = t} {out} {t' = t'} x =
    let v = x.serves in
    let r = v.ready in
    record {
      lies = rw (x.next, x.buffer) (lies-behind r.lies x.turn.taken x.turn.passing (turns-within v.turns));
      long = omega (arith, r.long, ap length x.buffer);
      room = omega (arith, r.room, ap length x.list, length-sets out 0 x.turn.text);
      sound = left-sound t t' x.turn.next r.sound v.table;
    }

pub ready_read : {buf t out buf' t' out' p buf'' : List ℕ} {s s' : Window} → Reads buf t out s s' buf' t' out' → Brings buf' s'.held p buf'' → Ready buf'' t' out' (arrived s' (length p))
ready_read {t = t} {t' = t'} x b =
    let r = x.serves.ready in
    record {
      lies = lies_more x.moves b;
      long = omega (arith, r.long, long-more x.moves b);
      room = omega (arith, r.room, ap length x.list);
      sound = left-sound t t' x.turn.next r.sound x.serves.table;
    }

-- a run behind a call
ran_wrote : {file buf t out buf' t' out' : List ℕ} {s s' : Window} {k : ℕ} → Writes buf t out s k s' buf' t' out' → Ran file buf' t' s' → Ran file buf t s
ran_wrote x y = record { chunks = y.chunks; all = y.all; written = _; table = y.table; runs = wrote x y.runs }

ran_read : {file buf t out buf' t' out' : List ℕ} {s s' : Window} → Reads buf t out s s' buf' t' out' → (z : Cut file buf s s' buf')
    → Ran z.rest z.new t' (arrived s' (length z.chunk)) → Ran file buf t s
ran_read x z y =
    record {
      chunks = z.chunk ∷ y.chunks;
      all = joined-more z.chunk y.chunks ∙ rw y.all z.all;
      written = y.written;
      table = y.table;
      runs = read x z.brings y.runs;
    }

module _ (c : Cuts) {n : ℕ}
    (on : (file buf t out : List ℕ) (s : Window) → Ready buf t out s → (s.ended ≡ true → file ≡ []) → togo file buf s < n → Ran file buf t s)
    {buf t out : List ℕ} (file : List ℕ) (s : Window) (r : Ready buf t out s) (f : s.ended ≡ true → file ≡ []) (h : togo file buf s < suc n) where
  after_write : {buf' t' out' : List ℕ} {k : ℕ} {s' : Window} → Writes buf t out s k s' buf' t' out' → Ran file buf t s
  after_write {buf'} {t'} {out'} {s' = s'} x =
      let v = x.serves in
      let w = turns-within v.turns in
      let i : inside buf' s' ≡ drop x.turn.taken (inside buf s) = rw (x.next, x.buffer) (inside-behind r.lies x.turn.taken x.turn.passing w) in
      let e : s'.ended ≡ s.ended = ap (λ (s : Window). s.ended) x.next in
      ran_wrote x (on file buf' t' out' s' (ready-wrote x) (λ q. f (sym e ∙ q))
      (rw (e, i) (omega (arith, length-drop x.turn.taken (inside buf s), turns-some v.turns (omega (arith, x.size, x.some))))))

  after_read : {buf' t' out' : List ℕ} {s' : Window} → Reads buf t out s s' buf' t' out' → Ran file buf t s
  after_read {t' = t'} {out'} {s'} x =
      let z = cut c file x.moves in
      ran_read x z (on z.rest z.new t' out' (arrived s' (length z.chunk)) (ready_read x z.brings) z.none (omega (arith, z.less)))

  after-answer : (buf' t' out' : List ℕ) (a : NextServe) → ServesNext buf t out s a buf' t' out' → Ran file buf t s
  after-answer buf' t' out' (next.Write k s') x = after_write x
  after-answer buf' t' out' (next.Read s') x = after_read x
  after-answer buf' t' out' next.Done x = record { chunks = []; all = no_chunks ∙ sym (f x.ended); written = []; table = t'; runs = done x }
  after-answer buf' t' out' (next.Refused k) x = absurd (never-refused r x)
  after-answer buf' t' out' next.Astray x = absurd (x.outside r.lies)

-- any function that does what `serve_next` ensures, called again and again
module _ (call : (buf t out : List ℕ) (s : Window) → Answers buf t out s) (c : Cuts) where
  run_on : (n : ℕ) (file buf t out : List ℕ) (s : Window) → Ready buf t out s → (s.ended ≡ true → file ≡ []) → togo file buf s < n → Ran file buf t s
  run_on zero file buf t out s r f h = absurd (omega arith)
  run_on (suc n) file buf t out s r f h =
      let a = call buf t out s in
      after-answer c (λ file buf t out s r f h. run_on n file buf t out s r f h) file s r f h a.buffer a.table a.output a.answer a.does

  runs-end : (file buf t out : List ℕ) → longest < length buf → line_room ≤ length out → Sound t → Ran file buf t begin
  runs-end file buf t out l r d =
      run_on (suc (togo file buf begin)) file buf t out begin (record { lies = record { order = omega arith; within = omega arith }; long = l; room = r; sound = d })
      (λ e. never (cc)) (omega arith)

  -- a whole file, however reading cuts it
  pub serves-file : (file buf t out : List ℕ) → longest < length buf → line_room ≤ length out → Sound t → (x : Ran file buf t begin)
      × (FileGives file t x.written x.table × Sound x.table)
  serves-file file buf t out l r d =
      let x = runs-end file buf t out l r d in
      (x, rw x.all at (whole-served x.runs))
