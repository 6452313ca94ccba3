-- What writing statistics goes by. Assumes nothing.
use mathlib.Core.Path.{◌≡◌, refl, sym, ap, ◌∙◌}
use mathlib.Core.List.{List, [], ◌∷◌, ◌++◌}
use mathlib.Core.Bool.{Bool, true, false, ◌&&◌}
use Prim.Native.Nat.{ℕ, zero, suc, ◌+◌, ◌*◌, ◌≤◌, ◌<◌}
use native.Mathlib.Omega.{arith}
use native.Mathlib.Decide.{dec_lt}
use Rattle.std.specs.List.{list_all}
use native.Mathlib.Numerals.{add-one}
use native.Mathlib.Nat.{add-zero}
use lib.ListN.{length, get_or, drop, length-append, drop_of_length-le}
use lib.Seq.{sets, drop-cons}
use lib.Dec.{eqb, ltb, leb}
use borrow.Author.Tests.{eqb-true, lt-ltb, le-leb, lt-leb}
use Rattle.wire.specs.Codec.{Valid, empty, raw, byte, guard, seq, as_type, all, is_bytes}
use Rattle.wire.specs.Number.{v_int, number, number_enc}
use Rattle.wire.specs.Same.{same_list}
use Rattle.wire.specs.Field.{limited}
use Rattle.wire.specs.Write.{Room, Wrote, put_at}
use Rattle.wire.proofs.Laws.{never, both, and, seq-valid, guard-valid, type_valid}
use Rattle.wire.proofs.FieldLaws.{limited-valid}
use Rattle.wire.proofs.WriteLaws.{sets_append, put-wrote, wrote-seq, wrote-guard, wrote_type}
use Rattle.decimal.specs.Decimal.{decimal}
use Rattle.decimal.proofs.DecimalLaws.{decimal-good, decimal-bad}
use Rattle.decimal.proofs.DecimalWrite.{decimal-most}
use Rattle.statistics.specs.Statistics.{titles, title_limit, named, statistic, values, statistics}

-- the bytes of values, the first and the others
values-enc : (n : List ℕ) (ns : List (List ℕ)) (v : ℕ) (vs : List ℕ) → (values (n ∷ ns)).enc (v ∷ vs) ≡ (statistic n).enc v ++ (values ns).enc vs
unfolding values as_type seq
values-enc n ns v vs = refl

values-ok : (n : List ℕ) (ns : List (List ℕ)) (v : ℕ) (vs : List ℕ) → (values (n ∷ ns)).ok (v ∷ vs) ≡ ((statistic n).ok v && (values ns).ok vs)
unfolding values as_type seq
values-ok n ns v vs = rw (lt-ltb 0 (length (v ∷ vs)) (omega arith))

-- names that have a written form
unfoldable good_names : List (List ℕ) → Bool
good_names [] = true
good_names (n ∷ ns) = (named n).ok n && good_names ns

names-good : good_names titles ≡ true
unfolding good_names titles named guard limited as_type seq raw v_int number same_list is_bytes
names-good = refl

good-at : (ns : List (List ℕ)) (i : ℕ) → good_names ns ≡ true → i < length ns → Valid (named (get_or ns i [])) (get_or ns i [])
unfolding good_names
good-at [] i e h = absurd (omega arith)
good-at (n ∷ ns) zero e h = (both ((named n).ok n) (good_names ns) e).0
good-at (n ∷ ns) (suc i) e h = good-at ns i (both ((named n).ok n) (good_names ns) e).1 (omega arith)

one-ok : (n : List ℕ) (v : ℕ) → Valid (named n) n → (statistic n).ok v ≡ decimal.ok v
unfolding statistic as_type seq
one-ok n v e = rw e

statistic-ok : (i v : ℕ) → i < 9 → (statistic (get_or titles i [])).ok v ≡ decimal.ok v
unfolding titles
statistic-ok i v h = one-ok (get_or titles i []) v (good-at titles i names-good h)

-- how many bytes values take
abbrev size : List (List ℕ) → List ℕ → ℕ
size [] vs = 0
size (n ∷ ns) [] = 0
size (n ∷ ns) (v ∷ vs) = suc (length n + length (decimal.enc v)) + size ns vs

one_byte : (n : ℕ) → n < 128 → v_int.enc n ≡ n ∷ []
unfolding v_int number number_enc
one_byte n h = rw (lt-ltb n 128 h)

statistic-enc : (n : List ℕ) (v : ℕ) → length n < 128 → (statistic n).enc v ≡ length n ∷ (n ++ decimal.enc v)
unfolding statistic named as_type seq guard limited raw
statistic-enc n v h = rw (one_byte (length n) h)

statistic_length : (n : List ℕ) (v : ℕ) → Valid (named n) n → length ((statistic n).enc v) ≡ suc (length n + length (decimal.enc v))
unfolding named
statistic_length n v e =
    let l = (limited-valid title_limit n (guard-valid (same_list n) 8 (limited title_limit) n e).1).0 in
    ap length (statistic-enc n v (omega arith)) ∙ ap suc (length-append n (decimal.enc v))

values_length : (ns : List (List ℕ)) (vs : List ℕ) → good_names ns ≡ true → length vs ≡ length ns → length ((values ns).enc vs) ≡ size ns vs
unfolding good_names values as_type empty
values_length [] vs e h = refl
values_length (n ∷ ns) [] e h = absurd (omega arith)
values_length (n ∷ ns) (v ∷ vs) e h =
    let g = both ((named n).ok n) (good_names ns) e in
    ap length (values-enc n ns v vs)
    ∙ rw (length-append, statistic_length n v g.0, values_length ns vs g.1 (omega arith))

statistics_length : (vs : List ℕ) → length vs ≡ 9 → length (statistics.enc vs) ≡ suc (size titles vs)
unfolding statistics as_type seq guard v_int number number_enc titles
statistics_length vs h = ap suc (values_length titles vs names-good h)

-- how many there are, and then each
pub statistics-ok : (vs : List ℕ) → statistics.ok vs ≡ (values titles).ok vs
unfolding statistics as_type seq guard v_int number
statistics-ok vs = refl

-- they have one where each is a vLong
decimal-ok : (v : ℕ) → decimal.ok v ≡ leb v 0x7fff_ffff_ffff_ffff
decimal-ok v = go (dec_lt 0x7fff_ffff_ffff_ffff v)
  where
    go : Dec (0x7fff_ffff_ffff_ffff < v) → decimal.ok v ≡ leb v 0x7fff_ffff_ffff_ffff
    go (yes h) = rw (decimal-bad v h, lt-leb v 0x7fff_ffff_ffff_ffff h)
    go (no h) = rw (decimal-good v (omega arith), le-leb v 0x7fff_ffff_ffff_ffff (omega arith))

values-all : (ns : List (List ℕ)) (vs : List ℕ) → good_names ns ≡ true → length vs ≡ length ns → (values ns).ok vs ≡ list_all (λ v. leb v 0x7fff_ffff_ffff_ffff) vs
unfolding good_names values as_type empty
values-all [] [] e h = refl
values-all [] (v ∷ vs) e h = absurd (omega arith)
values-all (n ∷ ns) [] e h = absurd (omega arith)
values-all (n ∷ ns) (v ∷ vs) e h =
    let w = both ((named n).ok n) (good_names ns) e in
    values-ok n ns v vs ∙ rw (one-ok n v w.0, decimal-ok v, values-all ns vs w.1 (omega arith))

pub statistics-all : (vs : List ℕ) → length vs ≡ 9 → statistics.ok vs ≡ list_all (λ v. leb v 0x7fff_ffff_ffff_ffff) vs
unfolding titles
statistics-all vs h = statistics-ok vs ∙ values-all titles vs names-good h

pub statistics-good : (vs : List ℕ) → length vs ≡ 9 → ((i : ℕ) → get_or vs i 0 ≤ 0x7fff_ffff_ffff_ffff) → Valid statistics vs
statistics-good vs h g = statistics-all vs h ∙ each vs g
  where
    each : (vs : List ℕ) → ((i : ℕ) → get_or vs i 0 ≤ 0x7fff_ffff_ffff_ffff) → list_all (λ v. leb v 0x7fff_ffff_ffff_ffff) vs ≡ true
    each [] g = refl
    each (v ∷ vs) g = and (le-leb v 0x7fff_ffff_ffff_ffff (g 0)) (each vs (λ i. g (suc i)))

-- no value has no written form
pub none-bad : statistics.ok [] ≡ false
unfolding statistics as_type seq guard v_int number values titles
none-bad = refl

-- a value for each name
valid_length_of : (ns : List (List ℕ)) (vs : List ℕ) → Valid (values ns) vs → length vs ≡ length ns
unfolding values
valid_length_of [] vs v = eqb-true _ 0 (type_valid (λ vs. eqb (length vs) 0) (λ u. []) (λ vs. tt) empty vs v).0
valid_length_of (n ∷ ns) [] v = never (cc (type_valid (λ vs. ltb 0 (length vs)) (λ p. p.0 ∷ p.1) (λ vs. (get_or vs 0 0, drop 1 vs)) (seq (statistic n) λ _. values ns) [] v).0)
valid_length_of (n ∷ ns) (x ∷ vs) v = ap suc (valid_length_of ns vs (both ((statistic n).ok x) ((values ns).ok vs) (sym (values-ok n ns x vs) ∙ v)).1)

pub valid_length : (vs : List ℕ) → Valid (values titles) vs → length vs ≡ 9
unfolding titles
valid_length vs v = valid_length_of titles vs v

-- a value takes at most 20 bytes
size_most : List (List ℕ) → ℕ
size_most [] = 0
size_most (n ∷ ns) = suc (length n + 20) + size_most ns

size-most : (ns : List (List ℕ)) (vs : List ℕ) → size ns vs ≤ size_most ns
unfolding size_most
size-most [] vs = omega arith
size-most (n ∷ ns) [] = omega arith
size-most (n ∷ ns) (v ∷ vs) = omega (arith, decimal-most v, size-most ns vs)

pub statistics-most : (vs : List ℕ) → Valid statistics vs → length (statistics.enc vs) ≤ 294
unfolding size_most titles
statistics-most vs v = omega (arith, statistics_length vs (valid_length vs (sym (statistics-ok vs) ∙ v)), size-most titles vs)

-- the names with their lengths, and the values
unfoldable names_size : List (List ℕ) → ℕ
names_size [] = 0
names_size (n ∷ ns) = suc (length n) + names_size ns

unfoldable pub values_size : List ℕ → ℕ
values_size [] = 0
values_size (v ∷ vs) = length (decimal.enc v) + values_size vs

size-split : (ns : List (List ℕ)) (vs : List ℕ) → length vs ≡ length ns → size ns vs ≡ names_size ns + values_size vs
unfolding names_size values_size
size-split [] [] h = refl
size-split [] (v ∷ vs) h = absurd (omega arith)
size-split (n ∷ ns) [] h = absurd (omega arith)
size-split (n ∷ ns) (v ∷ vs) h = omega (arith, size-split ns vs (omega arith))

-- the names, their lengths and the number of them take 114 bytes; of the values, the first i are counted
pub record Summed (vs : List ℕ) (i n : ℕ) : Type 0 where
  pub same : n + values_size (drop i vs) ≡ 114 + values_size vs
  pub small : n ≤ 114 + 20 * i

module _ (vs : List ℕ) where
  pub summed-on : (i n m : ℕ) → Summed vs i n → i < length vs → m ≡ length (decimal.enc (get_or vs i 0)) → Summed vs (i + 1) (n + m)
  unfolding values_size
  summed-on i n m g l e =
      let s = rw (drop-cons vs i 0 l, ← e) at g.same in
      rw add-one (record { same = omega arith; small = omega (arith, g.small, decimal-most (get_or vs i 0)) })

  pub summed-all : (i n : ℕ) → length vs ≡ 9 → 9 ≤ i → Summed vs i n → n ≡ length (statistics.enc vs)
  unfolding names_size values_size titles
  summed-all i n h l g =
      let s = rw (drop_of_length-le vs {i = i} (omega arith)) at g.same in
      omega (arith, statistics_length vs h, size-split titles vs h)

module _ (vs : List ℕ) (h : length vs ≡ 9) (i : ℕ) (l : i < 9) where
  ok-on : (values (drop i titles)).ok (drop i vs) ≡ (decimal.ok (get_or vs i 0) && (values (drop (suc i) titles)).ok (drop (suc i) vs))
  unfolding titles
  ok-on =
      rw (drop-cons titles i [] l, drop-cons vs i 0 (omega arith))
      (values-ok (get_or titles i []) (drop (suc i) titles) (get_or vs i 0) (drop (suc i) vs) ∙ rw (statistic-ok i (get_or vs i 0) l))

  enc-on : (values (drop i titles)).enc (drop i vs) ≡ (statistic (get_or titles i [])).enc (get_or vs i 0) ++ (values (drop (suc i) titles)).enc (drop (suc i) vs)
  unfolding titles
  enc-on =
      rw (drop-cons titles i [] l, drop-cons vs i 0 (omega arith))
      (values-enc (get_or titles i []) (drop (suc i) titles) (get_or vs i 0) (drop (suc i) vs))

-- the values before the i-th are written, and those from it on are still to be, from `here` on
pub record Begun (vs old : List ℕ) (at : ℕ) (new : List ℕ) (i here : ℕ) : Type 0 where
  pub list : sets old at ((values titles).enc vs) ≡ sets new here ((values (drop i titles)).enc (drop i vs))
  pub end : at + length ((values titles).enc vs) ≡ here + length ((values (drop i titles)).enc (drop i vs))
  pub good : Valid (values (drop i titles)) (drop i vs)
  pub long : length new ≡ length old

module _ (vs old : List ℕ) (at : ℕ) (h : length vs ≡ 9) where
  pub begun : Valid (values titles) vs → Begun vs old at old 0 at
  begun v = record { list = refl; end = refl; good = v; long = refl }

  module _ (new : List ℕ) (i here : ℕ) (g : Begun vs old at new i here) (l : i < 9) where
    pub on-valid : Valid (statistic (get_or titles i [])) (get_or vs i 0)
    on-valid = rw (statistic-ok i (get_or vs i 0) l) (both (decimal.ok (get_or vs i 0)) _ (sym (ok-on vs h i l) ∙ g.good)).0

    pub on_room : at + length ((values titles).enc vs) ≤ length old → here + length ((statistic (get_or titles i [])).enc (get_or vs i 0)) ≤ length new
    on_room r =
        omega (arith, g.end, g.long, ap length (enc-on vs h i l), length-append ((statistic (get_or titles i [])).enc (get_or vs i 0)) ((values (drop (suc i) titles)).enc (drop (suc i) vs)))

    pub on : (next : List ℕ) (r : ℕ) → Wrote (statistic (get_or titles i [])) (get_or vs i 0) new next here r → Begun vs old at next (i + 1) r
    on next r w =
        rw (add-one, w.next)
        (record {
          list = g.list ∙ rw (enc-on vs h i l, w.list) (sets_append new here ((statistic (get_or titles i [])).enc (get_or vs i 0)) ((values (drop (suc i) titles)).enc (drop (suc i) vs)));
          end = g.end ∙ rw (enc-on vs h i l, length-append) (omega arith);
          good = (both (decimal.ok (get_or vs i 0)) _ (sym (ok-on vs h i l) ∙ g.good)).1;
          long = w.long ∙ g.long;
        })

  pub written : (new : List ℕ) (i here : ℕ) → i ≡ 9 → Begun vs old at new i here → Wrote (values titles) vs old new at here
  unfolding titles values as_type empty
  written new i here e g =
      let h = rw e at g in
      record { next = sym (h.end ∙ add-zero here); list = sym h.list; long = h.long }

-- a name and a value, one after the other
pub wrote-named : (n : List ℕ) (v at : ℕ) (old : List ℕ) {o₁ o₂ : List ℕ} {r₁ r₂ : ℕ} → Valid (statistic n) v → Room (statistic n) v at old
    → (r₁, o₁) ≡ put_at (limited title_limit) n at old → (r₂, o₂) ≡ put_at decimal v r₁ o₁ → Wrote (statistic n) v old o₂ at r₂
unfolding statistic named seq guard as_type
wrote-named n v at old g h e f =
    let w = seq-valid (named n) (λ _. decimal) (n, v) (type_valid all (λ p. p.1) (λ v. (n, v)) (seq (named n) λ _. decimal) v g).1 in
    let l : length ((statistic n).enc v) ≡ length ((limited title_limit).enc n) + length (decimal.enc v) = both_length in
    let x = put-wrote (limited title_limit) n at old (guard-valid (same_list n) 8 (limited title_limit) n w.0).1 (omega arith) _ _ e in
    let y = put-wrote decimal v _ _ w.1 (omega arith) _ _ f in
    wrote_type all (λ p. p.1) (λ v. (n, v)) (seq (named n) λ _. decimal)
    (wrote-seq (named n) (λ _. decimal) (wrote-guard (same_list n) 8 (limited title_limit) x) y)
  where
    both_length : length ((limited title_limit).enc n ++ decimal.enc v) ≡ length ((limited title_limit).enc n) + length (decimal.enc v)
    both_length = length-append ((limited title_limit).enc n) (decimal.enc v)

pub first_more : (vs : List ℕ) → length (statistics.enc vs) ≡ suc (length ((values titles).enc vs))
unfolding statistics as_type seq guard v_int number number_enc
first_more vs = refl

module _ (vs : List ℕ) (at : ℕ) (old : List ℕ) (h : Room statistics vs at old) {o₁ : List ℕ} {r₁ : ℕ} (e : (r₁, o₁) ≡ put_at byte 9 at old) where
  first : Wrote byte 9 old o₁ at r₁
  unfolding byte
  first = put-wrote byte 9 at old refl (omega (arith, first_more vs)) _ _ e

  pub rest-room : Room (values titles) vs r₁ o₁
  unfolding byte
  rest-room = omega (arith, first.next, first.long, first_more vs)

  pub wrote-statistics : {o₂ : List ℕ} {r₂ : ℕ} → Wrote (values titles) vs o₁ o₂ r₁ r₂ → Wrote statistics vs old o₂ at r₂
  unfolding byte statistics v_int number number_enc
  wrote-statistics y =
      let x : Wrote v_int 9 old o₁ at r₁ = record { next = first.next; list = first.list; long = first.long } in
      wrote_type all (λ p. p.1) (λ vs. (9, vs)) (seq (guard (λ n. eqb n 9) 8 v_int) λ _. values titles)
      (wrote-seq (guard (λ n. eqb n 9) 8 v_int) (λ _. values titles) (wrote-guard (λ n. eqb n 9) 8 v_int x) y)
