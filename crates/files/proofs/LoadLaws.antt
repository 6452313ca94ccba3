-- A whole run of loading: it ends with 'done' exactly where the file stores a table, and then that table is loaded. Assumes nothing.
use mathlib.Core.Path.{◌≡◌, refl, sym, ap, ◌∙◌, subst}
use mathlib.Core.Bool.{Bool, true, false}
use mathlib.Core.List.{List, [], ◌∷◌, ◌++◌, append_assoc, append-nil}
use Prim.Native.Nat.{ℕ, suc, ◌≤◌, ◌<◌}
use native.Mathlib.Omega.{arith}
use lib.ListN.{length, take, drop, length-append, length-drop, take-append-drop}
use lib.Seq.{take-length}
use lib.Dec.{eqb}
use Rattle.hexadecimal.specs.Scan.{index_of, index_after}
use Rattle.wire.specs.Codec.{Valid}
use Rattle.wire.proofs.Laws.{never}
use Rattle.map.specs.State.{Entry, State}
use Rattle.map.specs.Table.{Each}
use Rattle.service.specs.Feed.{joined}
use Rattle.hexadecimal.specs.Hex.{to_hex, line}
use Rattle.hexadecimal.proofs.HexLaws.{hex_length}
use Rattle.table.specs.Memory.{size, state_of, Sound}
use Rattle.table.proofs.Restores.{each-mid}
use Rattle.stored.specs.File.{form1, entry_line, head_line, entry_lines, lines_of, Stores}
use Rattle.stored.specs.StoreLoad.{NoEnd, Loads as LoadsWhole, no_line, a-line, Ends}
use Rattle.stored.proofs.LineLaws.{entry-most, head_most, head_good, table-good, no_end, first-end, line_cons}
use Rattle.stored.proofs.FileLaws.{file-afresh}
use Rattle.stored.proofs.OneTable.{file-front}
use Rattle.stored.proofs.WholeLaws.{loads_both, loads-stores, all-loaded}
use Rattle.service.proofs.Chunks.{joined-more}
use Rattle.files.specs.declared.Window.{Window}
use Rattle.stored.specs.declared.Loading.{Loading}
use Rattle.files.specs.Window.{begin, inside, arrived, Brings}
use Rattle.files.specs.Loading.{longest_stored, Loads, LoadsOn, LoadsAll, Wrong, bad, cut_off, too_long, LoadsNone, Loadings, read, done, broken}
use Rattle.files.proofs.TurnsLaws.{no_chunks}
use Rattle.files.proofs.WindowLaws.{inside-more, carried-more}

-- 'done': all lines are loaded
module _ {buf t buf' t' : List ℕ} {s : Window} where
  all-on : {s' : Window} {p buf'' v : List ℕ} (q : List ℕ) → LoadsOn buf t s s' buf' t' → Brings buf' s'.held p buf''
      → LoadsWhole form1 s'.carried (inside buf'' (arrived s' (length p)) ++ q) t' true v → LoadsWhole form1 s.carried (inside buf s ++ (p ++ q)) t true v
  all-on {p = p} q x b l =
      let n = x.chunk.taken in
      let y = rw (inside-more x.moves b, carried-more x.moves b, append_assoc) at l in
      rw (← (append_assoc (take n (inside buf s)) (drop n (inside buf s)) (p ++ q)), take-append-drop n (inside buf s)) at (loads_both x.loads.lines.loads y)

  all_done : LoadsAll buf t s buf' t' → LoadsWhole form1 s.carried (inside buf s ++ joined []) t true t'
  all_done x = rw (no_chunks, append-nil) (rw (x.all, take-length, x.begun) at x.loads.lines.loads)

all_lines : {buf t t' : List ℕ} {s : Window} {ps : List (List ℕ)} {r : Bool} → Loadings buf t s ps r t' → r ≡ true
    → LoadsWhole form1 s.carried (inside buf s ++ joined ps) t true t'
all_lines (read {p = p} {ps = ps} x b l) e = rw (joined-more p ps) (all-on (joined ps) x b (all_lines l e))
all_lines (done x) e = all_done x
all_lines (broken x f) e = never (cc)

-- 17: lines are loaded up to one that can't be
data Stuck (c : Bool) (y u : List ℕ) : Type 0 where
  line-bad : Ends form1 c y u false → Stuck c y u
  line_open : NoEnd y → (c ≡ true → y ≡ [] → ⊥) → Stuck c y u
  line-long : (l z : List ℕ) → y ≡ l ++ z → NoEnd l → longest_stored < length l → Stuck c y u

record Stopped (b : Bool) (bytes t : List ℕ) : Type 0 where
  flag : Bool
  front : List ℕ
  rest : List ℕ
  table : List ℕ
  split : bytes ≡ front ++ rest
  loads : LoadsWhole form1 b front t flag table
  stuck : Stuck flag rest table

stopped-on : {buf t buf' t' : List ℕ} {s s' : Window} {p buf'' : List ℕ} (q : List ℕ) → LoadsOn buf t s s' buf' t' → Brings buf' s'.held p buf''
    → Stopped s'.carried (inside buf'' (arrived s' (length p)) ++ q) t' → Stopped s.carried (inside buf s ++ (p ++ q)) t
stopped-on {buf = buf} {s = s} {p = p} q x b z =
    let n = x.chunk.taken in
    let i = inside buf s in
    let d : z.front ++ z.rest ≡ drop n i ++ (p ++ q) = sym z.split ∙ rw (inside-more x.moves b, append_assoc) in
    record {
      flag = z.flag;
      front = take n i ++ z.front;
      rest = z.rest;
      table = z.table;
      split = sym (rw (append_assoc, d, ← (append_assoc (take n i) (drop n i) (p ++ q)), take-append-drop n i));
      loads = loads_both x.loads.lines.loads (rw (carried-more x.moves b) at z.loads);
      stuck = z.stuck;
    }

-- a line that is not good is not good whatever comes behind it
ends_on : (b : Bool) (s t y : List ℕ) → Ends form1 b s t false → Ends form1 b (s ++ y) t false
ends_on b s t y e = (e.0, e.1 ++ y, rw (e.2, append_assoc), e.3, e.4)

stuck-here : {buf t t' : List ℕ} {s : Window} {p : Loading} (ps : List (List ℕ)) → Loads buf t s p t' → (s.ended ≡ true → ps ≡ []) → Wrong buf s p
    → Stuck p.begun (drop p.taken (inside buf s) ++ joined ps) t'
stuck-here {buf} {t' = t'} {s} {p} ps l f (bad g) = line-bad (ends_on p.begun (drop p.taken (inside buf s)) t' (joined ps) (rw g at l.lines.ends))
stuck-here {buf} {s = s} {p} ps l f (cut_off g e n) =
    rw (f e, no_chunks, append-nil)
    (line_open (rw g at l.lines.ends) (λ b z. n b (omega (arith, l.lines.within, ap length z, length-drop p.taken (inside buf s)))))
stuck-here {buf} {s = s} {p} ps l f (too_long g h) = line-long (drop p.taken (inside buf s)) (joined ps) refl (rw g at l.lines.ends) h

stopped-here : {buf t buf' t' : List ℕ} {s : Window} {n : ℕ} {ps : List (List ℕ)} → LoadsNone buf t s n buf' t' → (s.ended ≡ true → ps ≡ [])
    → Stopped s.carried (inside buf s ++ joined ps) t
stopped-here {buf = buf} {t' = t'} {s = s} {ps = ps} x f =
    let n = x.chunk.taken in
    record {
      flag = x.chunk.begun;
      front = take n (inside buf s);
      rest = drop n (inside buf s) ++ joined ps;
      table = t';
      split = rw (← append_assoc, take-append-drop n (inside buf s));
      loads = x.loads.lines.loads;
      stuck = stuck-here ps x.loads f x.wrong;
    }

stops : {buf t t' : List ℕ} {s : Window} {ps : List (List ℕ)} {r : Bool} → Loadings buf t s ps r t' → r ≡ false → Stopped s.carried (inside buf s ++ joined ps) t
stops (read {p = p} {ps = ps} x b l) e = rw (joined-more p ps) (stopped-on (joined ps) x b (stops l e))
stops (done x) e = never (cc)
stops (broken x f) e = stopped-here x f

-- what comes behind lines that are loaded, in a file that stores a table: nothing, or a line that is not too long
data Behind (y : List ℕ) : Type 0 where
  nothing : y ≡ [] → Behind y
  a-next : (bs z : List ℕ) → y ≡ line bs ++ z → length bs ≤ 339 → Behind y

next-entries : (us es : List Entry) (y : List ℕ) → Each (λ e. Valid (entry_line form1) e) (us ++ es) → y ≡ entry_lines form1 es → Behind y
unfolding entry_lines
next-entries us [] y v e = nothing e
next-entries us (x ∷ es) y v e = a-next ((entry_line form1).enc x) (entry_lines form1 es) e ((entry-most form1).most x (each-mid (λ e. Valid (entry_line form1) e) us x es v))

loads_true : {c : Bool} {s t u : List ℕ} → LoadsWhole form1 true s t c u → c ≡ true
loads_true no_line = refl
loads_true (a-line l o e r) = loads_true r

-- a file that stores a table has a line for each entry: at second 0 all stand
all-stored : {bytes : List ℕ} {st : State} → Stores form1 bytes st → bytes ≡ lines_of form1 st
all-stored {st = st} q = q.same ∙ file-afresh form1 st q.history

next-line : {c : Bool} {x t u : List ℕ} (y : List ℕ) (st : State) → LoadsWhole form1 false x t c u → Stores form1 (x ++ y) st → Behind y
unfolding lines_of
next-line y st no_line q =
    a-next ((head_line form1).enc st.last) (entry_lines form1 st.entries) (all-stored q) (omega (arith, (head_most form1).most st.last (head_good form1 st.last (omega (arith, q.table.last)))))
next-line {u = u} y st (a-line l o e r) q =
    let w = loads-stores (a-line l o e r) (loads_true r) in
    let p = file-front form1 (state_of u) st y w.0.table q.table (ap (λ (z : List ℕ). z ++ y) (sym (all-stored w.1)) ∙ all-stored q) in
    next-entries (state_of u).entries p.entries y (subst (Each (λ e. Valid (entry_line form1) e)) p.all (table-good form1 st q.table)) p.behind

-- such a line ends within 678 characters
open_far : (l z : List ℕ) → NoEnd l → length l ≤ index_of 0x0a (l ++ z)
unfolding index_of index_after
open_far [] z n = omega arith
open_far (x ∷ l) z n = go (eqb x 0x0a) (open_far l z) n
  where
    go : (b : Bool) → (NoEnd l → length l ≤ index_of 0x0a (l ++ z)) → index_after b (index_of 0x0a l) ≡ suc (length l) → suc (length l) ≤ index_after b (index_of 0x0a (l ++ z))
    go true f e = absurd (omega arith)
    go false f e = let h = f (omega arith) in omega arith

not_long : (l z : List ℕ) → NoEnd l → longest_stored < length l → Behind (l ++ z) → ⊥
not_long l z n h (nothing e) = omega (arith, ap length e, length-append l z)
not_long l z n h (a-next bs y e k) =
    omega (arith, open_far l z n, ap (index_of 0x0a) (e ∙ line_cons bs y), first-end (to_hex bs) y (no_end bs), hex_length bs)

not_stored : {bytes t : List ℕ} → Stopped false bytes t → length t ≡ size → (st : State) → Stores form1 bytes st → ⊥
not_stored x h st q = go x.stuck
  where
    q' : Stores form1 (x.front ++ x.rest) st
    q' = rw x.split at q

    go : Stuck x.flag x.rest x.table → ⊥
    go (line-bad e) = never (cc (all-loaded false x.rest st x.loads e q' h).1)
    go (line_open n f) = let a = all-loaded true x.rest st x.loads n q' h in f a.0 a.2
    go (line-long l z e n k) = not_long l z n k (rw e at (next-line x.rest st x.loads q'))

-- A whole file, however reading cuts it: loading ends with 'done' exactly where the file stores a table; then the memory is sound and has that state.
pub whole-loaded : {buf t t' : List ℕ} {ps : List (List ℕ)} {r : Bool} → Loadings buf t begin ps r t'
    → (r ≡ true → Sound t' × Stores form1 (joined ps) (state_of t')) × (length t ≡ size → r ≡ false → (st : State) → Stores form1 (joined ps) st → ⊥)
whole-loaded l = (λ e. loads-stores (all_lines l e) refl, λ h e. not_stored (stops l e) h)
