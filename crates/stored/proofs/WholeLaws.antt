-- Whole lines loaded one after the other: how they are cut off a chunk, that the cuts do not matter, that a file of them stores the table that
-- they leave, and that of a file that stores a table all lines are loaded. Assumes nothing.
use mathlib.Core.Path.{◌≡◌, refl, sym, ap, ◌∙◌, subst}
use mathlib.Core.List.{List, [], ◌∷◌, ◌++◌, append_assoc, append-nil}
use mathlib.Core.Bool.{Bool, true, false}
use mathlib.Core.Option.{Option, none, some}
use Prim.Native.Nat.{ℕ, suc, ◌+◌, ◌-◌, ◌≤◌, ◌<◌}
use native.Mathlib.Omega.{arith}
use lib.ListN.{length, take, drop, length-append, length-drop, take-append-drop}
use lib.Seq.{take-length, take-append-le, drop-append-le, take-add, drop-drop}
use lib.Dec.{eqb}
use borrow.Author.Tests.{eqb-true}
use Rattle.hexadecimal.specs.Scan.{index_of, index_after}
use Rattle.wire.specs.Codec.{Valid}
use Rattle.wire.proofs.Laws.{never, bytes_are}
use Rattle.wire.proofs.FieldLaws.{limited-valid}
use Rattle.message.specs.Arguments.{key_limit, value_limit}
use Rattle.map.specs.History.{no_history}
use Rattle.map.specs.State.{Entry, State}
use Rattle.map.specs.Table.{Each, IsTable}
use Rattle.hexadecimal.specs.Hex.{to_hex, line}
use Rattle.hexadecimal.specs.Number.{from_digits}
use Rattle.hexadecimal.proofs.Values.{digits_read, digits_back}
use Rattle.table.specs.Memory.{size, entry, state_of, Sound}
use Rattle.table.specs.Change.{Left, is_some}
use Rattle.field.specs.declared.refusals.Refusal.TheVariants.{File}
use Rattle.std.specs.Prelude.{Ok, Err}
use Rattle.table.proofs.Restores.{started-is, started-says, started-long, restored-long, restored-sound, each-restored, each-mid}
use Rattle.table.proofs.HasImage.{started-sound}
use Rattle.stored.specs.File.{FileForm, form1, entry_line, head_line, entry_lines, lines_of, Stores}
use Rattle.stored.specs.StoreLoad.{start_with, restore_to, head_loaded, line_loaded, loaded, NoEnd, Loads, no_line, a-line, Ends, LoadsLines, Loaded}
use Rattle.stored.specs.declared.Loading.{Loading}
use Rattle.stored.proofs.LineLaws.{entry_laws, table-good, head_laws, head_good, no_end, first-end, ends-split, line_cons}
use Rattle.stored.proofs.StoreLaws.{parts}
use Rattle.stored.proofs.FileLaws.{lines_append, file-afresh}
use Rattle.stored.proofs.OneTable.{file-front}

-- a list up to its first line end
abbrev Cut : List ℕ → ℕ → Type 0
Cut s k = (take (k + 1) s ≡ take k s ++ (0x0a ∷ [])) × NoEnd (take k s)

to_end : (s : List ℕ) → index_of 0x0a s < length s → Cut s (index_of 0x0a s)
unfolding index_of index_after
to_end [] h = absurd (omega arith)
to_end (x ∷ s) h = go (eqb x 0x0a) refl (to_end s) h
  where
    go : (b : Bool) → eqb x 0x0a ≡ b → (index_of 0x0a s < length s → Cut s (index_of 0x0a s)) → index_after b (index_of 0x0a s) < suc (length s)
        → Cut (x ∷ s) (index_after b (index_of 0x0a s))
    go true e f l = (ap (λ (y : ℕ). y ∷ []) (eqb-true x 0x0a e), refl)
    go false e f l =
        let i = f (omega arith) in
        let n : suc (index_of 0x0a s) + 1 ≡ suc (index_of 0x0a s + 1) = omega arith in
        (rw n (ap (λ (y : List ℕ). x ∷ y) i.0), rw e (ap suc i.1))

-- no line end is found behind the end
index_most : (v : ℕ) (s : List ℕ) → index_of v s ≤ length s
unfolding index_of index_after
index_most v [] = omega arith
index_most v (x ∷ s) = go (eqb x v) (index_most v s)
  where
    go : (b : Bool) → index_of v s ≤ length s → index_after b (index_of v s) ≤ suc (length s)
    go true h = omega arith
    go false h = omega arith

-- what a loader left
left-none : {t u : List ℕ} (o : Option (List ℕ)) → is_some o ≡ false → Left t o u → (o ≡ none) × (t ≡ u)
left-none none e l = (refl, sym l)
left-none (some x) e l = never (cc)

left-some : (t u : List ℕ) (o : Option (List ℕ)) → is_some o ≡ true → Left t o u → o ≡ some u
left-some t u none e l = never (cc)
left-some t u (some x) e l = ap some (sym l)

-- lines behind lines: the cuts do not matter
pub loads_both : {f : FileForm} {b c d : Bool} {x y t u v : List ℕ} → Loads f b x t c u → Loads f c y u d v → Loads f b (x ++ y) t d v
loads_both no_line q = q
loads_both (a-line l o e r) q = rw append_assoc (a-line l o e (loads_both r q))

loaded-long : (f : FileForm) (b : Bool) (l t u : List ℕ) → loaded f b l t ≡ some u → length u ≡ length t
unfolding head_loaded line_loaded
loaded-long f false l t u e = go (from_digits (head_line f) l) e
  where
    go : (o : Option ℕ) → start_with t o ≡ some u → length u ≡ length t
    go none q = never (cc)
    go (some n) q = started-long n t u q
loaded-long f true l t u e = go (from_digits (entry_line f) l) e
  where
    go : (o : Option Entry) → restore_to t o ≡ some u → length u ≡ length t
    go none q = never (cc)
    go (some x) q = restored-long x.key x.value x.version x.deadline t u q

loads-long : {f : FileForm} {b c : Bool} {s t u : List ℕ} → Loads f b s t c u → length u ≡ length t
loads-long no_line = refl
loads-long {f} {b} {t = t} (a-line {u = u} l o e r) = loads-long r ∙ loaded-long f b l t u e

-- the line end that was found from `at` on, or the end of the list
module _ (s : List ℕ) (at r : ℕ) (found : r ≡ at + index_of 0x0a (drop at s)) where
  abbrev next : List ℕ
  next = take (r - at) (drop at s)

  index : r ≡ at + index_of 0x0a (drop at s)
  index = found

  pub found_within : at ≤ length s → r ≤ length s
  found_within h = omega (arith, index, index_most 0x0a (drop at s), length-drop at s)

  pub none_left : at ≤ length s → r ≡ length s → NoEnd (drop at s)
  none_left h e = omega (arith, index, length-drop at s)

  next-line : r < length s → (take (r + 1) s ≡ take at s ++ (next ++ (0x0a ∷ []))) × NoEnd next × (drop at s ≡ next ++ (0x0a ∷ drop (r + 1) s))
  next-line h =
      let i : r - at ≡ index_of 0x0a (drop at s) = omega (arith, index) in
      let e : r + 1 ≡ at + (index_of 0x0a (drop at s) + 1) = omega (arith, index) in
      let x = to_end (drop at s) (omega (arith, index, length-drop at s)) in (
        rw (e, i, take-add) (ap (λ (xs : List ℕ). take at s ++ xs) x.0),
        rw i x.1,
        rw (i, e, ← drop-drop) (sym (take-append-drop (index_of 0x0a (drop at s) + 1) (drop at s)) ∙ rw (x.0, append_assoc)),
      )

  module _ {f : FileForm} {b c : Bool} {t₀ t u : List ℕ} (h : r < length s) (g : Loads f b (take at s) t₀ c t) where
    pub bad-next : is_some (loaded f c next t) ≡ false → Left t (loaded f c next t) u → Loads f b (take at s) t₀ c u × Ends f c (drop at s) u false
    bad-next e l =
        let x = left-none (loaded f c next t) e l in
        let y = next-line h in
        rw (← x.1) (g, (next, drop (r + 1) s, y.2, y.1, x.0))

    pub good-next : is_some (loaded f c next t) ≡ true → Left t (loaded f c next t) u → Loads f b (take (r + 1) s) t₀ true u
    good-next e l =
        let x = left-some t u (loaded f c next t) e l in
        let y = next-line h in
        rw y.0 (loads_both g (a-line next y.1 x no_line))

ends_on : (f : FileForm) (b : Bool) (s t y : List ℕ) → Ends f b s t false → Ends f b (s ++ y) t false
ends_on f b s t y e = (e.0, e.1 ++ y, rw (e.2, append_assoc), e.3, e.4)

-- A file in chunks: what is left of a chunk stands before the next one. Together they are loaded as one chunk, and a line that is not good
-- is not good whatever comes behind it.
module _ {f : FileForm} {b : Bool} {p t u : List ℕ} {r : Loading} (q : List ℕ) (g : LoadsLines f b p t r u) where
  pub chunks : {v : List ℕ} {r' : Loading} → LoadsLines f r.begun (drop r.taken p ++ q) u r' v
      → LoadsLines f b (p ++ q) t (record { taken = r.taken + r'.taken; begun = r'.begun; good = r'.good }) v
  chunks {r' = r'} h =
      let w = g.within in
      record {
        within = omega (arith, h.within, length-append p q, length-append (drop r.taken p) q, length-drop r.taken p);
        loads = rw (take-add, take-append-le r.taken p q w, drop-append-le r.taken p q w) (loads_both g.loads h.loads);
        ends = rw (← drop-drop, drop-append-le r.taken p q w) h.ends;
      }

  pub bad-chunk : r.good ≡ false → LoadsLines f b (p ++ q) t r u
  bad-chunk e =
      let w = g.within in
      record {
        within = omega (arith, length-append p q);
        loads = rw (take-append-le r.taken p q w) g.loads;
        ends = rw (e, drop-append-le r.taken p q w) (ends_on f r.begun (drop r.taken p) u q (rw e at g.ends));
      }

-- a first line that is loaded is the lines of the table that it leaves, which has no history
head_sound : (l t u : List ℕ) → head_loaded form1 l t ≡ some u → Sound u × (lines_of form1 (state_of u) ≡ l ++ (0x0a ∷ [])) × ((state_of u).history ≡ no_history)
unfolding head_loaded lines_of entry_lines line
head_sound l t u e = go (from_digits (head_line form1) l) refl e
  where
    go : (o : Option ℕ) → from_digits (head_line form1) l ≡ o → start_with t o ≡ some u
        → Sound u × (lines_of form1 (state_of u) ≡ l ++ (0x0a ∷ [])) × ((state_of u).history ≡ no_history)
    go none p q = never (cc)
    go (some n) p q =
        let s = started-says n t u q in
        let d = started-sound n t u s.0 s.1 (rw q refl) in
        let x = digits_read (head_line form1) (head_laws form1) l n p in
        (d.0, ap (lines_of form1) d.1 ∙ append-nil (line ((head_line form1).enc n)) ∙ ap (λ (y : List ℕ). y ++ (0x0a ∷ [])) (sym x.same), ap (λ (st : State). st.history) d.1)

-- an entry's line that is loaded is behind the lines of the table before it
line-sound : (l t u : List ℕ) → Sound t → line_loaded form1 l t ≡ some u
    → Sound u × (lines_of form1 (state_of u) ≡ lines_of form1 (state_of t) ++ (l ++ (0x0a ∷ []))) × ((state_of u).history ≡ (state_of t).history)
unfolding line_loaded lines_of entry_lines entry line
line-sound l t u h e = go (from_digits (entry_line form1) l) refl e
  where
    go : (o : Option Entry) → from_digits (entry_line form1) l ≡ o → restore_to t o ≡ some u
        → Sound u × (lines_of form1 (state_of u) ≡ lines_of form1 (state_of t) ++ (l ++ (0x0a ∷ []))) × ((state_of u).history ≡ (state_of t).history)
    go none p q = never (cc)
    go (some x) p q =
        let y = digits_read (entry_line form1) (entry_laws form1) l x p in
        let k = (parts x y.good).1.1 in
        let d = restored-sound x.key x.value x.version x.deadline t u h
        (bytes_are _ (limited-valid key_limit x.key k.0).1) (bytes_are _ (limited-valid value_limit x.value k.1).1) q in
        (d.0, ap (lines_of form1) d.1 ∙ rw (lines_append, append-nil, y.same) (sym (append_assoc (line ((head_line form1).enc (state_of t).last)) (entry_lines form1 (state_of t).entries) (line ((entry_line form1).enc x)))), ap (λ (st : State). st.history) d.1)

-- lines behind a file
loads_true : {f : FileForm} {c : Bool} {s t u : List ℕ} → Loads f true s t c u → c ≡ true
loads_true no_line = refl
loads_true (a-line l o e r) = loads_true r

loads-sound : {c : Bool} {s t u : List ℕ} → Loads form1 true s t c u → Sound t
    → Sound u × (lines_of form1 (state_of u) ≡ lines_of form1 (state_of t) ++ s) × ((state_of u).history ≡ (state_of t).history)
loads-sound {t = t} no_line h = (h, sym (append-nil (lines_of form1 (state_of t))), refl)
loads-sound {t = t} (a-line {u = u} l o e r) h =
    let a = line-sound l t u h e in
    let d = loads-sound r a.0 in
    (d.0, d.1 ∙ rw (a.1, append_assoc, append_assoc), d.2 ∙ a.2)

-- a file of lines that are all loaded stores the table that they leave
pub loads-stores : {c : Bool} {s t u : List ℕ} → Loads form1 false s t c u → c ≡ true → Sound u × Stores form1 s (state_of u)
loads-stores no_line p = never (cc)
loads-stores {t = t} (a-line {u = u} l o e r) p =
    let a = head_sound l t u e in
    let d = loads-sound r a.0 in
    let z = d.2 ∙ a.2 in
    (d.0, record { table = d.0.table; order = d.0.layout.order; history = z; same = sym (file-afresh form1 _ z ∙ d.1 ∙ rw (a.1, append_assoc)) })

-- a line that can be loaded does not end the loading
stuck : (b : Bool) (bs z u : List ℕ) (g : Bool) → is_some (loaded form1 b (to_hex bs) u) ≡ true → Ends form1 b (line bs ++ z) u g → ⊥
stuck b bs z u true h e =
    let n : NoEnd (to_hex bs ++ (0x0a ∷ z)) = rw line_cons at e in
    omega (arith, first-end (to_hex bs) z (no_end bs), length-append (to_hex bs) (0x0a ∷ z))
stuck b bs z u false h e =
    let p = ends-split (to_hex bs) e.0 z e.1 (no_end bs) e.3 (sym (line_cons bs z) ∙ e.2) in
    let n : is_some (loaded form1 b (to_hex bs) u) ≡ false = rw p.0 (ap is_some e.4) in
    never (cc)

-- of a file that stores a table all lines are loaded, into memory of the right length
head_loads : (st : State) (t : List ℕ) → IsTable st → length t ≡ size → is_some (head_loaded form1 (to_hex ((head_line form1).enc st.last)) t) ≡ true
unfolding head_loaded
head_loads st t h l =
    rw (digits_back (head_line form1) (head_laws form1) st.last (head_good form1 st.last (omega (arith, h.last)))) (ap is_some (started-is st.last t l h.last))

line-loads : {bytes : List ℕ} {st : State} (u : List ℕ) (e : Entry) (es : List Entry) → Stores form1 bytes st → length u ≡ size → st.entries ≡ (state_of u).entries ++ (e ∷ es)
    → st.last ≡ (state_of u).last → is_some (line_loaded form1 (to_hex ((entry_line form1).enc e)) u) ≡ true
unfolding line_loaded
line-loads {st = st} u e es q h p l =
    let v : Valid (entry_line form1) e =
    each-mid (λ e. Valid (entry_line form1) e) (state_of u).entries e es (subst (Each (λ e. Valid (entry_line form1) e)) p (table-good form1 st q.table)) in
    rw (digits_back (entry_line form1) (entry_laws form1) e v) (ap is_some (each-restored st e es u q.table q.order h p l))

rest-loads : {bytes : List ℕ} {st : State} (u y : List ℕ) (g : Bool) (es : List Entry) → Stores form1 bytes st → length u ≡ size → st.entries ≡ (state_of u).entries ++ es
    → st.last ≡ (state_of u).last → y ≡ entry_lines form1 es → Ends form1 true y u g → (g ≡ true) × (y ≡ [])
unfolding entry_lines
rest-loads u y true [] q h p l e n = (refl, e)
rest-loads u y false [] q h p l e n = absurd (omega (arith, ap length e, ap length n.2, length-append n.0 (0x0a ∷ n.1)))
rest-loads u y g (x ∷ es) q h p l e n =
    absurd (stuck true ((entry_line form1).enc x) (entry_lines form1 es) u g (line-loads u x es q h p l) (rw e at n))

pub all-loaded : {c : Bool} {x t u : List ℕ} (g : Bool) (y : List ℕ) (st : State) → Loads form1 false x t c u → Ends form1 c y u g → Stores form1 (x ++ y) st → length t ≡ size
    → (c ≡ true) × (g ≡ true) × (y ≡ [])
unfolding lines_of
all-loaded {t = t} g y st no_line n q h =
    absurd (stuck false ((head_line form1).enc st.last) (entry_lines form1 st.entries) t g (head_loads st t q.table h) (rw (q.same ∙ file-afresh form1 st q.history) at n))
all-loaded {u = u} g y st (a-line l o e r) n q h =
    let i = loads_true r in
    let w = loads-stores (a-line l o e r) i in
    let p = file-front form1 (state_of u) st y w.0.table q.table (ap (λ (z : List ℕ). z ++ y) (sym (w.1.same ∙ file-afresh form1 (state_of u) w.1.history)) ∙ q.same ∙ file-afresh form1 st q.history) in
    let z = rest-loads u y g p.entries q w.0.layout.long p.all p.last p.behind (rw i at n) in
    (i, z.0, z.1)

-- the lines of a whole file
whole-stores : {B t u : List ℕ} {p : Loading} → LoadsLines form1 false B t p u → p.begun ≡ true → p.taken ≡ length B → Sound u × Stores form1 B (state_of u)
whole-stores g b n = let x = loads-stores g.loads b in (x.0, rw (n, take-length) at x.1)

pub whole-loaded : {B t u : List ℕ} {p : Loading} (st : State) → LoadsLines form1 false B t p u → Stores form1 B st → length t ≡ size
    → (p.begun ≡ true) × (p.good ≡ true) × (p.taken ≡ length B)
whole-loaded {B = B} {p = p} st g s l =
    let a = all-loaded p.good _ st g.loads g.ends (subst (λ (b : List ℕ). Stores form1 b st) (sym (take-append-drop p.taken B)) s) l in
    (a.0, a.1, omega (arith, ap length a.2, length-drop p.taken B, g.within))

-- what `load` answers
module _ {B new u : List ℕ} {p : Loading} (t : List ℕ) (g : LoadsLines form1 false B new p u) where
  pub loaded_no : length new ≡ size → (p.good ≡ true → p.begun ≡ true → p.taken ≡ length B → ⊥) → Loaded form1 B t (Err File) t
  loaded_no l n = (refl, refl, λ st s _. let a = whole-loaded st g s l in n a.1 a.0 a.2)

  pub loaded_yes : (t' : List ℕ) → length t ≡ size → p.begun ≡ true → p.taken ≡ length B → t' ≡ u → Loaded form1 B t (Ok tt) t'
  loaded_yes t' h b n e = let x = whole-stores g b n in rw e (h, x.0, x.1)
