-- However a file is cut into chunks, the turns give what its lines give one by one. Assumes nothing.
use mathlib.Core.Path.{◌≡◌, refl, sym, ap, ◌∙◌}
use mathlib.Core.List.{List, [], ◌∷◌, ◌++◌, append_assoc, append-nil}
use mathlib.Core.Bool.{Bool, true, false, cond, ◌&&◌}
use mathlib.Core.Option.{Option, none, some}
use Prim.Native.Nat.{ℕ, suc, ◌+◌, ◌≤◌, ◌<◌}
use native.Mathlib.Numerals.{add-one}
use native.Mathlib.Omega.{arith}
use lib.ListN.{length, take, drop, length-append}
use lib.Seq.{drop-length, drop-append-le, drop-append-add}
use lib.Dec.{eqb, ltb}
use borrow.Author.Tests.{ltb-true, ltb-false, lt-ltb, lt-leb}
use Rattle.wire.proofs.Laws.{both}
use Rattle.hexadecimal.specs.Scan.{index_of, index_after}
use Rattle.map.specs.State.{State}
use Rattle.service.specs.Line.{longest, asks, Given, given, state_left, later, refused14, line_step, lines_step}
use Rattle.service.specs.Feed.{line_end, Turn, turn, ended, turn_of, longer, lines_of, joined, Feeds, took, read, end}

-- two lefts, one after the other
pub later-none : (o : Option State) → later none o ≡ o
later-none none = refl
later-none (some st) = refl

pub later_assoc : (a b c : Option State) → later (later a b) c ≡ later a (later b c)
later_assoc a b none = refl
later_assoc a b (some st) = refl

pub left-later : (st : State) (a b : Option State) → state_left (state_left st a) b ≡ state_left st (later a b)
left-later st a none = refl
left-later st a (some next) = refl

-- what a file gives, and what it gives where the rest of its first line is passed over
unfoldable pub rest_step : Bool → List ℕ → State → Given
rest_step false s st = lines_step (lines_of s) st
rest_step true s st = lines_step (lines_of (drop (line_end s + 1) s)) st

pub end-within : (s : List ℕ) → line_end s ≤ length s
unfolding index_of index_after
end-within [] = omega arith
end-within (b ∷ s) = go (eqb b 0x0a) (end-within s)
  where
    go : (t : Bool) → line_end s ≤ length s → index_after t (line_end s) ≤ suc (length s)
    go true h = omega arith
    go false h = omega arith

-- a line with its end, whatever follows
whole-end : (s t : List ℕ) → line_end s < length s → line_end (s ++ t) ≡ line_end s
unfolding index_of index_after
whole-end [] t h = absurd (omega arith)
whole-end (b ∷ s) t h = go (eqb b 0x0a) (whole-end s t) h
  where
    go : (x : Bool) → (line_end s < length s → line_end (s ++ t) ≡ line_end s) → index_after x (line_end s) < suc (length s)
        → index_after x (line_end (s ++ t)) ≡ index_after x (line_end s)
    go true ih h = refl
    go false ih h = ap suc (ih (omega arith))

whole-line : (s t : List ℕ) → line_end s < length s → lines_of (s ++ t) ≡ take (line_end s) s ∷ lines_of (drop (suc (line_end s)) s ++ t)
unfolding index_of index_after lines_of
whole-line [] t h = absurd (omega arith)
whole-line (b ∷ s) t h = go (eqb b 0x0a) (whole-line s t) h
  where
    go : (x : Bool) → (line_end s < length s → lines_of (s ++ t) ≡ take (line_end s) s ∷ lines_of (drop (suc (line_end s)) s ++ t))
        → index_after x (line_end s) < suc (length s)
        → cond x ([] ∷ lines_of (s ++ t)) (longer b (lines_of (s ++ t)))
        ≡ take (index_after x (line_end s)) (b ∷ s) ∷ lines_of (drop (suc (index_after x (line_end s))) (b ∷ s) ++ t)
    go true ih h = refl
    go false ih h = ap (longer b) (ih (omega arith))

-- a line without its end is the beginning of the first line, and of no other
open_end : (s t : List ℕ) → line_end s ≡ length s → line_end (s ++ t) ≡ length s + line_end t
unfolding index_of index_after
open_end [] t h = omega arith
open_end (b ∷ s) t h = go (eqb b 0x0a) (open_end s t) h
  where
    go : (x : Bool) → (line_end s ≡ length s → line_end (s ++ t) ≡ length s + line_end t) → index_after x (line_end s) ≡ suc (length s)
        → index_after x (line_end (s ++ t)) ≡ suc (length s) + line_end t
    go true ih h = absurd (omega arith)
    go false ih h = omega (arith, ih (omega arith))

-- a byte that is no line end, in front of a file
lead : (b : ℕ) (t : List ℕ) → longer b (lines_of t) ≡ (b ∷ take (line_end t) t) ∷ lines_of (drop (suc (line_end t)) t)
unfolding index_of index_after lines_of
lead b [] = refl
lead b (c ∷ t) = go (eqb c 0x0a) (lead c t)
  where
    go : (x : Bool) → longer c (lines_of t) ≡ (c ∷ take (line_end t) t) ∷ lines_of (drop (suc (line_end t)) t)
        → longer b (cond x ([] ∷ lines_of t) (longer c (lines_of t)))
        ≡ (b ∷ take (index_after x (line_end t)) (c ∷ t)) ∷ lines_of (drop (suc (index_after x (line_end t))) (c ∷ t))
    go true ih = refl
    go false ih = ap (longer b) ih

open_line : (b : ℕ) (s t : List ℕ) → line_end (b ∷ s) ≡ length (b ∷ s)
    → lines_of ((b ∷ s) ++ t) ≡ ((b ∷ s) ++ take (line_end t) t) ∷ lines_of (drop (suc (line_end t)) t)
unfolding index_of index_after lines_of
open_line b [] t h = go (eqb b 0x0a) h
  where
    go : (x : Bool) → ◌≡◌ {A = ℕ} (index_after x 0) 1
        → cond x ([] ∷ lines_of t) (longer b (lines_of t)) ≡ (b ∷ take (line_end t) t) ∷ lines_of (drop (suc (line_end t)) t)
    go true e = absurd (omega arith)
    go false e = lead b t
open_line b (c ∷ s) t h = go (eqb b 0x0a) (open_line c s t) h
  where
    go : (x : Bool)
        → (line_end (c ∷ s) ≡ suc (length s) → lines_of ((c ∷ s) ++ t) ≡ ((c ∷ s) ++ take (line_end t) t) ∷ lines_of (drop (suc (line_end t)) t))
        → ◌≡◌ {A = ℕ} (index_after x (line_end (c ∷ s))) (suc (suc (length s)))
        → cond x ([] ∷ lines_of ((c ∷ s) ++ t)) (longer b (lines_of ((c ∷ s) ++ t)))
        ≡ (b ∷ ((c ∷ s) ++ take (line_end t) t)) ∷ lines_of (drop (suc (line_end t)) t)
    go true ih e = absurd (omega arith)
    go false ih e = ap (longer b) (ih (omega arith))

-- a line that is too long is refused 14, whatever follows
too_long : (s : List ℕ) (st : State) → longest < length s → line_step s st ≡ given refused14 none
unfolding line_step asks
too_long s st h = rw (lt-leb (length s) longest h)

long_append : (s t : List ℕ) (st : State) → longest < length s → line_step (s ++ t) st ≡ line_step s st
long_append s t st h = too_long (s ++ t) st (omega (arith, length-append s t)) ∙ sym (too_long s st h)

-- a line that lacks its end: it is the first one, with what follows it up to the next line end
open_first : (s t : List ℕ) → 0 < length s → line_end s ≡ length s → lines_of (s ++ t) ≡ (s ++ take (line_end t) t) ∷ lines_of (drop (suc (line_end t)) t)
open_first [] t l h = absurd (omega arith)
open_first (b ∷ s) t l h = open_line b s t h

no_lines : lines_of ([] ++ []) ≡ []
unfolding lines_of
no_lines = refl

open_last : (s : List ℕ) → 0 < length s → line_end s ≡ length s → lines_of s ≡ s ∷ []
unfolding lines_of index_of index_after
open_last s l h =
    let e : lines_of (s ++ []) ≡ (s ++ []) ∷ [] = open_first s [] l h in
    rw (append-nil s) at e

module _ (st : State) where
  -- a line given, and what comes behind it
  one_line : (l : List ℕ) (ls : List (List ℕ)) → lines_step (l ∷ ls) st ≡ given (ended (line_step l st) ++ (lines_step ls (state_left st (line_step l st).next)).text) (later (line_step l st).next (lines_step ls (state_left st (line_step l st).next)).next)
  unfolding lines_step
  one_line l ls = rw (append_assoc (line_step l st).text (0x0a ∷ []) (lines_step ls (state_left st (line_step l st).next)).text)

  -- what a turn gives, and what is left of the file behind it
  abbrev Keeps : Turn → List ℕ → List ℕ → Given → Type 0
  Keeps x s t g =
      (let r = rest_step x.passing (drop x.taken s ++ t) (state_left st x.next) in g ≡ given (x.text ++ r.text) (later x.next r.next))

  keeps-turn : (passing last : Bool) (s t : List ℕ) → (last ≡ true → t ≡ []) → Keeps (turn_of passing last s st) s t (rest_step passing (s ++ t) st)
  unfolding turn_of rest_step
  keeps-turn true last s t f = go (ltb (line_end s) (length s)) refl
    where
      go : (x : Bool) → ltb (line_end s) (length s) ≡ x
          → Keeps (cond x (turn (line_end s + 1) [] false none) (turn (length s) [] true none)) s t (lines_step (lines_of (drop (line_end (s ++ t) + 1) (s ++ t))) st)
      go true e =
          let h = ltb-true (line_end s) (length s) e in
          let p : drop (line_end (s ++ t) + 1) (s ++ t) ≡ drop (line_end s + 1) s ++ t = rw (whole-end s t h) (drop-append-le (line_end s + 1) s t (omega arith)) in
          rw (p, later-none)
      go false e =
          let h : line_end s ≡ length s = omega (arith, ltb-false (line_end s) (length s) e, end-within s) in
          let q : length s + line_end t + 1 ≡ length s + (line_end t + 1) = omega arith in
          let p : drop (line_end (s ++ t) + 1) (s ++ t) ≡ drop (line_end t + 1) t = rw (open_end s t h, q) (drop-append-add s t (line_end t + 1)) in
          rw (p, drop-length s, later-none)
  keeps-turn false last s t f = go (ltb (line_end s) (length s)) (ltb longest (length s)) (last && ltb 0 (length s)) refl refl refl
    where
      whole : Turn
      whole = turn (line_end s + 1) (ended (line_step (take (line_end s) s) st)) false (line_step (take (line_end s) s) st).next

      go : (x y z : Bool) → ltb (line_end s) (length s) ≡ x → ltb longest (length s) ≡ y → last && ltb 0 (length s) ≡ z
          → Keeps (cond x (turn (line_end s + 1) (ended (line_step (take (line_end s) s) st)) false (line_step (take (line_end s) s) st).next)
          (cond y (turn (length s) (ended (line_step s st)) true (line_step s st).next)
          (cond z (turn (length s) (ended (line_step s st)) false (line_step s st).next) (turn 0 [] false none)))) s t (lines_step (lines_of (s ++ t)) st)
      go true y z e f g =
          rw (whole-line s t (ltb-true (line_end s) (length s) e), add-one) (one_line (take (line_end s) s) (lines_of (drop (suc (line_end s)) s ++ t)))
      go false true z e y g =
          let h : line_end s ≡ length s = omega (arith, ltb-false (line_end s) (length s) e, end-within s) in
          let l : longest < length s = ltb-true longest (length s) y in
          rw (open_first s t (omega arith) h, drop-length s, add-one)
          (one_line (s ++ take (line_end t) t) (lines_of (drop (suc (line_end t)) t)) ∙ rw (long_append s (take (line_end t) t) st l))
      go false false true e y g =
          let h : line_end s ≡ length s = omega (arith, ltb-false (line_end s) (length s) e, end-within s) in
          let b = both last (ltb 0 (length s)) g in
          let n : t ≡ [] = f b.0 in
          rw (n, append-nil s, drop-length s, open_last s (ltb-true 0 (length s) b.1) h, no_lines) (one_line s [])
      go false false false e f g = rw later-none

no_more : (ps : List (List ℕ)) → ps ≡ [] → joined ps ≡ []
unfolding joined
no_more ps e = rw e

pub joined-more : (p : List ℕ) (ps : List (List ℕ)) → joined (p ∷ ps) ≡ p ++ joined ps
unfolding joined
joined-more p ps = refl

some-taken : (passing : Bool) (b : ℕ) (s : List ℕ) (st : State) → 1 ≤ (turn_of passing true (b ∷ s) st).taken
unfolding turn_of
some-taken true b s st = go (ltb (line_end (b ∷ s)) (suc (length s)))
  where
    go : (x : Bool) → 1 ≤ (cond x (turn (line_end (b ∷ s) + 1) [] false none) (turn (suc (length s)) [] true none)).taken
    go true = omega arith
    go false = omega arith
some-taken false b s st = go (ltb (line_end (b ∷ s)) (suc (length s))) (ltb longest (suc (length s)))
  where
    go : (x y : Bool) → 1 ≤ (cond x (turn (line_end (b ∷ s) + 1) (ended (line_step (take (line_end (b ∷ s)) (b ∷ s)) st)) false (line_step (take (line_end (b ∷ s)) (b ∷ s)) st).next)
        (cond y (turn (suc (length s)) (ended (line_step (b ∷ s) st)) true (line_step (b ∷ s) st).next)
        (cond (ltb 0 (suc (length s))) (turn (suc (length s)) (ended (line_step (b ∷ s) st)) false (line_step (b ∷ s) st).next) (turn 0 [] false none)))).taken
    go true y = omega arith
    go false true = omega arith
    go false false = rw (lt-ltb 0 (suc (length s)) (omega arith)) (omega arith)

-- a turn on the last chunk that takes nothing: there was nothing left
nothing_left : (passing : Bool) (s : List ℕ) (st : State) → (turn_of passing true s st).taken ≡ 0 → given [] none ≡ rest_step passing (s ++ joined []) st
unfolding joined rest_step lines_of lines_step index_of index_after
nothing_left true [] st z = refl
nothing_left false [] st z = refl
nothing_left passing (b ∷ s) st z = absurd (omega (arith, some-taken passing b s st))

pub chunks : {passing : Bool} {s : List ℕ} {ps : List (List ℕ)} {st : State} {g : Given} → Feeds passing s ps st g → g ≡ rest_step passing (s ++ joined ps) st
chunks {passing = passing} {s = s} {ps = ps} {st = st} (took {last = last} {g = g} f x) =
    let i = chunks x in
    sym (keeps-turn st passing last s (joined ps) (λ e. no_more ps (f e)) ∙ rw (← i))
chunks {passing = passing} {s = s} {st = st} (read {p = p} {ps = ps} {g = g} x) = chunks x ∙ rw (joined-more p ps, append_assoc s p (joined ps))
chunks {passing = passing} {s = s} {st = st} (end z) = nothing_left passing s st z
