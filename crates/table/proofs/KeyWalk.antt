-- Walking through the order: what is left of a listing at each place, and the numbers that name the keys passed. Assumes nothing.
use mathlib.Core.Path.{◌≡◌, refl, sym, ap, ap₂, ◌∙◌}
use mathlib.Core.List.{List, [], ◌∷◌, ◌++◌, map, append_assoc, append-nil}
use mathlib.Core.Logic.{⊎_elim}
use mathlib.Core.Bool.{true, false}
use borrow.Author.Tests.{eq-eqb, ne_eqb}
use Prim.Native.Nat.{ℕ, ◌+◌, ◌*◌, ◌%◌, ◌≤◌, ◌<◌, min}
use native.Mathlib.Omega.{arith}
use native.Mathlib.Numerals.{add-one}
use lib.ListN.{length, get_or, set, drop, replicate, length-set, length-replicate, get_or-replicate, get_or-eq_default, drop_of_length-le}
use lib.Seq.{drop-cons, get_or-set_same, get_or-set_other}
use Rattle.wire.specs.Upto.{upto}
use Rattle.wire.specs.Write.{part}
use Rattle.wire.proofs.UptoLaws.{length_upto, get_or_upto}
use Rattle.map.specs.State.{Entry, without}
use Rattle.map.specs.Step.{most_keys}
use Rattle.map.specs.Deadline.{expired, standing}
use Rattle.map.specs.Reply.{pair_of}
use Rattle.listing.specs.EntryWrite.{entry_named}
use Rattle.message.specs.Arguments.{key_limit}
use Rattle.table.specs.Bytes.{be8}
use Rattle.table.specs.Memory.{rows_at, row_width, key_length_start, key_start, size, entry, entry_of, count_of, state_of, Permutation, order_of, name_of, row_entry}
use Rattle.table.proofs.Lists.{lt-or_ge, upto_ext, upto-more}
use Rattle.table.proofs.RowLaws.{count_most}
use Rattle.wire.specs.Before.{before}
use Rattle.table.specs.Order.{name_at, OrderedRows, insertion_place}
use Rattle.map.specs.KeyListing.{sorted_by_key}
use Rattle.table.specs.KeysFrom.{entries_by_key, pairs_from, keys_from, KeysNamed}
use Rattle.table.proofs.FindLaws.{row_below, keys-ascend}
use Rattle.table.proofs.IsKept.{order-afresh}
use Rattle.wire.proofs.UptoLaws.{map-upto}
use Rattle.table.proofs.Bisect.{insertion-place}
use Rattle.table.proofs.ByKey.{order-entries, dropped}

module _ (t : List ℕ) (now : ℕ) where
  long : length (entries_by_key t) ≡ count_of t
  unfolding entries_by_key
  long = length_upto _ _

  at : (p : ℕ) → p < count_of t → get_or (entries_by_key t) p (row_entry t 0) ≡ row_entry t (order_of t p % most_keys)
  unfolding entries_by_key
  at p l = get_or_upto (λ (q : ℕ). row_entry t (order_of t q % most_keys)) (count_of t) p (row_entry t 0) l

  next : (p : ℕ) → p < count_of t → drop p (entries_by_key t) ≡ row_entry t (order_of t p % most_keys) ∷ drop (p + 1) (entries_by_key t)
  next p l =
      drop-cons (entries_by_key t) p (row_entry t 0) (omega (arith, long))
      ∙ ap₂ ◌∷◌ (at p l) (ap (λ (i : ℕ). drop i (entries_by_key t)) (sym (add-one p)))

  pub passes : (p : ℕ) → p < count_of t → expired now (row_entry t (order_of t p % most_keys)) ≡ true → pairs_from t now p ≡ pairs_from t now (p + 1)
  unfolding without
  passes p l e = ap (λ (es : List Entry). map (pair_of false) (standing now es)) (next p l) ∙ rw e

  pub takes : (p : ℕ) → p < count_of t → expired now (row_entry t (order_of t p % most_keys)) ≡ false
      → pairs_from t now p ≡ ((row_entry t (order_of t p % most_keys)).key, []) ∷ pairs_from t now (p + 1)
  unfolding without
  takes p l e = ap (λ (es : List Entry). map (pair_of false) (standing now es)) (next p l) ∙ rw e

  pub ends : (p : ℕ) → count_of t ≤ p → pairs_from t now p ≡ []
  unfolding without
  ends p l = ap (λ (es : List Entry). map (pair_of false) (standing now es)) (drop_of_length-le (entries_by_key t) {i = p} (omega (arith, long)))

  -- the entriesByKey of an order is the order sortedByKey afresh, and from the place of a key on it has the keys that are not before it
  module _ (h : length t ≡ size) (p : Permutation t) (o : OrderedRows t) where
    pub entries_sorted : entries_by_key t ≡ sorted_by_key (state_of t).entries
    unfolding entries_by_key
    entries_sorted =
        upto_ext (λ (q : ℕ). row_entry t (order_of t q)) (λ (q : ℕ). row_entry t (order_of t q % most_keys)) (count_of t)
        (λ q l. let b = row_below t h p o q l in let e : order_of t q % most_keys ≡ order_of t q = omega arith in ap (row_entry t) e)
        ∙ sym (map-upto (row_entry t) (order_of t) (count_of t))
        ∙ order-entries t h p (order-afresh t p o)

    key-at : (q : ℕ) → q < count_of t → (get_or (entries_by_key t) q (row_entry t 0)).key ≡ name_at t q
    unfolding name_of
    key-at q l = ap (λ (e : Entry). e.key) (at q l)

    -- on a table the keys from the place of a key on are those that are not before it
    pub keys-listed : (k : List ℕ) → keys_from t k now ≡ map (pair_of false) (standing now (without (λ e. before e.key k) (sorted_by_key (state_of t).entries)))
    unfolding keys_from
    keys-listed k =
        let f = insertion-place t k in
        let q = insertion_place t k in
        rw (eq-eqb (length t) size h)
        (ap (λ (es : List Entry). map (pair_of false) (standing now es))
        (sym
        (dropped (λ e. before e.key k) (row_entry t 0) (entries_by_key t) q (omega (arith, long, f.within))
        (λ i l. ap (λ (x : List ℕ). before x k) (key-at i (omega (arith, f.within))) ∙ f.front (keys-ascend t h p o) i l)
        (λ i l m. ap (λ (x : List ℕ). before x k) (key-at i (omega (arith, long))) ∙ f.back (keys-ascend t h p o) i l (omega (arith, long)))))
        ∙ ap (λ (es : List Entry). map (pair_of false) (standing now (without (λ e. before e.key k) es))) entries_sorted)

-- the numbers that name a key more, where those behind are 0
module _ (t ns : List ℕ) (m s l : ℕ) (long : length ns ≡ 512) (few : m < 128) (zero : (j : ℕ) → m * 4 ≤ j → get_or ns j 0 ≡ 0) where
  abbrev us : List ℕ
  us = set (set ns (m * 4) s) (m * 4 + 1) l

  kept : (j : ℕ) → (j ≡ m * 4 → ⊥) → (j ≡ m * 4 + 1 → ⊥) → get_or us j 0 ≡ get_or ns j 0
  kept j a b = get_or-set_other (set ns (m * 4) s) (m * 4 + 1) j l 0 b ∙ get_or-set_other ns (m * 4) j s 0 a

  start_is : get_or us (m * 4) 0 ≡ s
  start_is = get_or-set_other (set ns (m * 4) s) (m * 4 + 1) (m * 4) l 0 (λ e. omega arith) ∙ get_or-set_same ns (m * 4) s 0 (omega arith)

  length_is : get_or us (m * 4 + 1) 0 ≡ l
  length_is = get_or-set_same (set ns (m * 4) s) (m * 4 + 1) l 0 (simp length-set (omega arith))

  same : (i : ℕ) → i < m → entry_named t us i ≡ entry_named t ns i
  unfolding entry_named
  same i q = rw (kept (i * 4) (λ e. omega arith) (λ e. omega arith), kept (i * 4 + 1) (λ e. omega arith) (λ e. omega arith), kept (i * 4 + 2) (λ e. omega arith) (λ e. omega arith), kept (i * 4 + 2 + 1) (λ e. omega arith) (λ e. omega arith))

  new : entry_named t us m ≡ (part t s l, [])
  unfolding entry_named
  new =
      let e₂ : get_or us (m * 4 + 2) 0 ≡ 0 = kept (m * 4 + 2) (λ e. omega arith) (λ e. omega arith) ∙ zero (m * 4 + 2) (omega arith) in
      let e₃ : get_or us (m * 4 + 2 + 1) 0 ≡ 0 = kept (m * 4 + 2 + 1) (λ e. omega arith) (λ e. omega arith) ∙ zero (m * 4 + 2 + 1) (omega arith) in
      rw (start_is, length_is, e₂, e₃)

  named_more : upto (λ i. entry_named t us i) (m + 1) ≡ upto (λ i. entry_named t ns i) m ++ ((part t s l, []) ∷ [])
  named_more = upto-more (λ i. entry_named t ns i) (λ i. entry_named t us i) m (part t s l, []) same new

  zero_more : (j : ℕ) → (m + 1) * 4 ≤ j → get_or us j 0 ≡ 0
  zero_more j q = kept j (λ e. omega arith) (λ e. omega arith) ∙ zero j (omega arith)

-- the entriesByKey up to place p: the keys passed that stand are named
pub record Walked (t : List ℕ) (now first : ℕ) (ns : List ℕ) (many p : ℕ) : Type 0 where
  pub few : many ≤ p
  pub within : p ≤ count_of t
  pub long : length ns ≡ 512
  pub zero : (j : ℕ) → many * 4 ≤ j → get_or ns j 0 ≡ 0
  pub list : upto (λ i. entry_named t ns i) many ++ pairs_from t now p ≡ pairs_from t now first

row-key : (t : List ℕ) (r : ℕ) → (row_entry t r).key ≡ part t (rows_at + row_width * r + key_start) (min (be8 t (rows_at + row_width * r + key_length_start)) key_limit)
unfolding entry_of entry
row-key t r = refl

zeros-at : (n j : ℕ) → ◌≡◌ {A = ℕ} (get_or (replicate n 0) j 0) 0
zeros-at n j =
    let z : ℕ = 0 in
    ⊎_elim (λ l. get_or-replicate n j z z l) (λ l. get_or-eq_default (replicate n z) z {n = j} (omega (arith, length-replicate n z))) (lt-or_ge j n)

module _ (t : List ℕ) (now first : ℕ) where
  pub walked_none : first ≤ count_of t → Walked t now first (replicate 512 0) 0 first
  unfolding upto
  walked_none l = record { few = omega arith; within = l; long = length-replicate {A = ℕ} 512 0; zero = λ j q. zeros-at 512 j; list = refl }

  module _ (ns : List ℕ) (many p : ℕ) (w : Walked t now first ns many p) where
    pub walked_pass : p < count_of t → expired now (row_entry t (order_of t p % most_keys)) ≡ true → Walked t now first ns many (p + 1)
    walked_pass l e =
        let f = w.few in
        record {
          few = omega arith;
          within = omega arith;
          long = w.long;
          zero = w.zero;
          list = ap (λ (r : List (List ℕ × List ℕ)). upto (λ i. entry_named t ns i) many ++ r) (sym (passes t now p l e)) ∙ w.list;
        }

    pub walked_take : (s n : ℕ) → p < count_of t → expired now (row_entry t (order_of t p % most_keys)) ≡ false
        → s ≡ rows_at + row_width * (order_of t p % most_keys) + key_start → n ≡ min (be8 t (rows_at + row_width * (order_of t p % most_keys) + key_length_start)) key_limit
        → Walked t now first (set (set ns (many * 4) s) (many * 4 + 1) n) (many + 1) (p + 1)
    walked_take s n l e f g =
        let q = w.few in
        let m : many < 128 = omega (arith, count_most t) in
        let k : ◌≡◌ {A = List ℕ × List ℕ} (part t s n, []) ((row_entry t (order_of t p % most_keys)).key, []) = ap {B = List ℕ × List ℕ} (λ (x : List ℕ). (x, [])) (ap₂ (part t) f g ∙ sym (row-key t (order_of t p % most_keys))) in
        record {
          few = omega arith;
          within = omega arith;
          long = simp length-set w.long;
          zero = zero_more t ns many s n w.long m w.zero;
          list =
              ap (λ (r : List (List ℕ × List ℕ)). r ++ pairs_from t now (p + 1)) (named_more t ns many s n w.long m w.zero)
              ∙ append_assoc (upto (λ i. entry_named t ns i) many) ((part t s n, []) ∷ []) (pairs_from t now (p + 1))
              ∙ ap (λ (x : List ℕ × List ℕ). upto (λ i. entry_named t ns i) many ++ (x ∷ pairs_from t now (p + 1))) k
              ∙ ap (λ (r : List (List ℕ × List ℕ)). upto (λ i. entry_named t ns i) many ++ r) (sym (takes t now p l e))
              ∙ w.list;
        }

    pub walked_all : (k : List ℕ) → length t ≡ size → count_of t ≤ p → first ≡ insertion_place t k → KeysNamed t k now ns many
    unfolding keys_from
    walked_all k h l f =
        record {
          few = omega (arith, w.few, w.within, count_most t);
          long = w.long;
          pairs =
              sym (append-nil (upto (λ i. entry_named t ns i) many))
              ∙ ap (λ (r : List (List ℕ × List ℕ)). upto (λ i. entry_named t ns i) many ++ r) (sym (ends t now p l))
              ∙ w.list
              ∙ rw (f, eq-eqb (length t) size h);
        }

-- memory of another length has no key
pub none_named : (t k : List ℕ) (now : ℕ) → (length t ≡ size → ⊥) → KeysNamed t k now (replicate 512 0) 0
unfolding keys_from upto
none_named t k now d = record { few = omega arith; long = length-replicate {A = ℕ} 512 0; pairs = rw (ne_eqb (length t) size d) }
