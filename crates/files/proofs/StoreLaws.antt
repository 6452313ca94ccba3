-- What a run of storing writes is the stored file; and it comes to its end. Assumes nothing.
use mathlib.Core.Path.{◌≡◌, refl, sym, ap, ◌∙◌, subst}
use mathlib.Core.Logic.{◌⊎◌, inl, inr, ⊎_elim}
use mathlib.Core.List.{List, [], ◌∷◌, ◌++◌, append_assoc}
use mathlib.Core.Bool.{Bool, true, false, cond}
use Prim.Native.Nat.{ℕ, zero, suc, ◌+◌, ◌-◌, ◌≤◌, ◌<◌}
use native.Mathlib.Omega.{arith}
use native.Mathlib.Nat.{zero-add}
use native.Mathlib.Numerals.{add-one}
use lib.ListN.{length, take, drop, get_or, length-append, drop_of_length-le}
use lib.Seq.{sets, length-sets, drop-cons, split_at}
use borrow.Author.Tests.{lt-ltb}
use Rattle.field.specs.declared.refusals.Refusal.{Refusal}
use Rattle.field.specs.declared.refusals.Refusal.TheVariants as refusal
use Rattle.wire.specs.Codec.{Valid}
use Rattle.wire.specs.Write.{laid}
use Rattle.wire.proofs.WriteLaws.{laid_done, sets_append}
use Rattle.wire.proofs.Basics.{pick}
use Rattle.map.specs.State.{Entry, State, without}
use Rattle.map.specs.Deadline.{expired, standing}
use Rattle.map.specs.Table.{Each, IsTable}
use Rattle.table.specs.Memory.{entry, state_of, Sound}
use Rattle.table.proofs.Lists.{lt-or_ge}
use Rattle.table.proofs.Restores.{each-mid}
use Rattle.hexadecimal.specs.Hex.{line}
use Rattle.hexadecimal.proofs.HexLaws.{line_length}
use Rattle.stored.specs.File.{form1, entry_line, head_line, entry_lines, line_of, lines_of, file}
use Rattle.stored.specs.StoreLoad.{line_at}
use Rattle.stored.proofs.LineLaws.{entry-most, head_most, head_good, table-good}
use Rattle.files.specs.declared.NextStore.{NextStore}
use Rattle.files.specs.declared.NextStore.TheVariants as store
use Rattle.files.specs.Storing.{store_room, file_from, StoreReady, StoreWrites, StoreRefuses, StoresNext, Storings, wrote, done, StoreAnswers}
use Rattle.files.proofs.RunLaws.{given_out}

-- the line of an entry, if it stands, and the lines of those behind it that stand
lines_next : (now : ℕ) (e : Entry) (es : List Entry) → entry_lines form1 (standing now (e ∷ es)) ≡ line_of form1 now e ++ entry_lines form1 (standing now es)
unfolding entry_lines without line_of
lines_next now e es = go (expired now e)
  where
    go : (b : Bool) → entry_lines form1 (cond b (standing now es) (e ∷ standing now es)) ≡ cond b [] (line ((entry_line form1).enc e)) ++ entry_lines form1 (standing now es)
    go true = refl
    go false = refl

module _ (st : State) where
  -- a line, and the lines behind it
  from_next : (i : ℕ) → i ≤ length st.entries → file_from st i ≡ line_at form1 st i ++ file_from st (i + 1)
  unfolding file_from line_at file lines_of
  from_next zero h = refl
  from_next (suc k) h =
      rw (lt-ltb k (length st.entries) h, add-one, drop-cons st.entries k (entry [] [] 0 0) h)
      (lines_next st.history.latest (get_or st.entries k (entry [] [] 0 0)) (drop (suc k) st.entries))

  from-none : (i : ℕ) → length st.entries < i → file_from st i ≡ []
  unfolding file_from entry_lines without
  from-none zero h = absurd (omega arith)
  from-none (suc k) h = rw (drop_of_length-le st.entries {i = k} (omega arith))

  -- a line has at most 678 characters and its line end
  line-room : (i : ℕ) → IsTable st → i ≤ length st.entries → length (line_at form1 st i) ≤ store_room
  unfolding line_at line_of
  line-room zero h l =
      omega (arith, line_length ((head_line form1).enc st.last), (head_most form1).most st.last (head_good form1 st.last (omega (arith, h.last))))
  line-room (suc k) h l =
      let e : Entry = get_or st.entries k (entry [] [] 0 0) in
      let v : Valid (entry_line form1) e =
      each-mid (λ e. Valid (entry_line form1) e) (take k st.entries) e (drop (suc k) st.entries)
      (subst (Each (λ e. Valid (entry_line form1) e)) (split_at st.entries k (entry [] [] 0 0) l) (table-good form1 st h)) in
      rw (lt-ltb k (length st.entries) l)
      (pick (λ (s : List ℕ). length s ≤ store_room) (expired st.history.latest e) (λ q. omega arith)
      (omega (arith, line_length ((entry_line form1).enc e), (entry-most form1).most e v)))

-- between two lines: those from `line` up to i stand at the front of the output
pub record Laid (t old : List ℕ) (line : ℕ) (out : List ℕ) (at i : ℕ) : Type 0 where
  pub text : List ℕ
  pub all : file_from (state_of t) line ≡ text ++ file_from (state_of t) i
  pub order : line ≤ i
  pub most : i ≤ length (state_of t).entries + 1
  pub size : at ≡ length text
  pub fits : at ≤ length old
  pub list : out ≡ sets old 0 text
  pub long : length out ≡ length old

pub laid-begin : (t old : List ℕ) (line : ℕ) → line ≤ length (state_of t).entries → Laid t old line old 0 line
laid-begin t old line h = record { text = []; all = refl; order = omega arith; most = omega arith; size = refl; fits = omega arith; list = refl; long = refl }

pub laid_on : {t old out : List ℕ} {line at i : ℕ} (out' : List ℕ) (r : ℕ) → Laid t old line out at i → Sound t → i ≤ length (state_of t).entries
    → store_room ≤ length old - at → (r, out') ≡ laid (line_at form1 (state_of t) i) at out → Laid t old line out' r (i + 1)
laid_on {t} {old} {out} {line} {at} {i} out' r g s l m e =
    let x : List ℕ = line_at form1 (state_of t) i in
    let k : length x ≤ store_room = line-room (state_of t) i s.table l in
    let d : ◌≡◌ {A = ℕ × List ℕ} (r, out') (at + length x, sets out at x) = e ∙ sym (laid_done x at out (omega (arith, g.long, g.fits))) in
    let n : r ≡ at + length x = ap (λ (q : ℕ × List ℕ). q.0) d in
    record {
      text = g.text ++ x;
      all = g.all ∙ rw (from_next (state_of t) i l) (sym (append_assoc g.text x (file_from (state_of t) (i + 1))));
      order = omega (arith, g.order);
      most = omega arith;
      size = omega (arith, g.size, length-append g.text x);
      fits = omega (arith, g.fits);
      list = ap (λ (q : ℕ × List ℕ). q.1) d ∙ rw (g.list, g.size) (rw zero-add at (sym (sets_append old 0 g.text x)));
      long = ap (λ (q : ℕ × List ℕ). length q.1) d ∙ length-sets out at x ∙ g.long;
    }

module _ {t old out : List ℕ} {line at i : ℕ} (g : Laid t old line out at i) where
  -- where something is written, a line is
  pub laid-some : 0 < at → line < i
  laid-some h = ⊎_elim (λ l. l) (λ l. absurd (none l)) (lt-or_ge line i)
    where
      none : i ≤ line → ⊥
      none l =
          let e : i ≡ line = omega (arith, g.order) in
          omega (arith, g.size, ap length (rw e at g.all), length-append g.text (file_from (state_of t) line))

  pub laid-writes : StoreReady t old → line < i → StoreWrites t old line at i out
  laid-writes r h = record { ready = r; text = g.text; all = g.all; order = h; most = g.most; size = g.size; fits = g.fits; list = g.list }

-- all that is written is the file from there on
stored-from : {t w : List ℕ} {i : ℕ} → Storings t i w → w ≡ file_from (state_of t) i
stored-from {t} (wrote {out} {j = j} x r) =
    let o = given_out out x.text (omega (arith, x.size, x.fits)) in
    rw (x.size, x.list, o, stored-from r) (sym x.all)
stored-from {t} (done {i = i} x) = sym (from-none (state_of t) i x.none)

pub whole-stored : {t w : List ℕ} → Storings t 0 w → w ≡ file form1 (state_of t)
unfolding file_from
whole-stored r = stored-from r

-- what is ready is not refused
pub never-refused : {t out out' : List ℕ} {k : Refusal} → StoreReady t out → StoreRefuses t out k out' → ⊥
never-refused {t} {out} {k = k} r x = go x.why
  where
    go : ((k ≡ refusal.Room) × (length out < store_room)) ⊎ ((k ≡ refusal.Table) × (store_room ≤ length out) × (Sound t → ⊥)) → ⊥
    go (inl (_, e)) = omega (arith, r.room)
    go (inr (_, _, e)) = e r.sound

module _ {t : List ℕ} {n : ℕ} (on : (out : List ℕ) (i : ℕ) → StoreReady t out → length (state_of t).entries + 1 - i < n → (w : List ℕ) × Storings t i w)
    {out : List ℕ} (i : ℕ) (r : StoreReady t out) (h : length (state_of t).entries + 1 - i < suc n) where
  after-answer : (out' : List ℕ) (a : NextStore) → StoresNext t out i a out' → (w : List ℕ) × Storings t i w
  after-answer out' (store.Write k j) x =
      let y = on out' j (record { room = omega (arith, r.room, ap length x.list, length-sets out 0 x.text); sound = r.sound }) (omega (arith, x.order, x.most)) in
      (take k out' ++ y.0, wrote x y.1)
  after-answer out' store.Done x = ([], done x)
  after-answer out' (store.Refused k) x = absurd (never-refused r x)

-- any function that does what `store_next` ensures, called again and again
module _ (t : List ℕ) (call : (out : List ℕ) (i : ℕ) → StoreAnswers t out i) where
  run_on : (n : ℕ) (out : List ℕ) (i : ℕ) → StoreReady t out → length (state_of t).entries + 1 - i < n → (w : List ℕ) × Storings t i w
  run_on zero out i r h = absurd (omega arith)
  run_on (suc n) out i r h = let a = call out i in after-answer (λ out i r h. run_on n out i r h) i r h a.output a.answer a.does

  pub stores-file : (out : List ℕ) → store_room ≤ length out → Sound t → (w : List ℕ) × (Storings t 0 w × (w ≡ file form1 (state_of t)))
  stores-file out l s =
      let x = run_on (suc (length (state_of t).entries + 1)) out 0 (record { room = l; sound = s }) (omega arith) in
      (x.0, (x.1, whole-stored x.1))
