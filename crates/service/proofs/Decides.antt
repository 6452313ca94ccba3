-- Whether memory is a sound table can be decided, so that a definition may go by it. What each of these decides is said by its type.
use mathlib.Core.Path.{◌≡◌, refl}
use mathlib.Core.List.{List, [], ◌∷◌}
use mathlib.Core.Bool.{Bool, true, false}
use Prim.Native.Nat.{ℕ, zero, suc, ◌+◌, ◌≤◌, ◌<◌}
use native.Mathlib.Decide.{dec_le, dec_lt}
use native.Mathlib.Omega.{arith}
use lib.ListN.{length, get_or, get_or-eq_default}
use lib.Dec.{eqb}
use borrow.Author.Tests.{eqb-true, eqb-false}
use Rattle.message.specs.Arguments.{key_limit, value_limit}
use Rattle.wire.specs.Codec.{is_bytes}
use Rattle.wire.proofs.Laws.{never}
use Rattle.wire.specs.Same.{same_list}
use Rattle.map.specs.History.{History, counts_held, most_count, start_of}
use Rattle.map.specs.State.{Entry, State}
use Rattle.map.specs.Step.{most_keys, last_version}
use Rattle.map.specs.Table.{Each, Pairs, last_deadline, Sizes, Counts, last_second, Seconds, IsTable}
use Rattle.wire.proofs.SameLaws.{same_true, other_differ}
use Rattle.table.specs.Bytes.{be8}
use Rattle.table.specs.Memory.{count_index, bound_index, size, number_of, place_of, row_at, count_of, state_of, Permutation, Layout, Sound, order_held, made_afresh}

dec_map : {P Q : Type 0} → (P → Q) → (Q → P) → Dec P → Dec Q
dec_map f g (yes p) = yes (f p)
dec_map f g (no n) = no (λ q. n (g q))

dec_both : {P Q : Type 0} → Dec P → Dec Q → Dec (P × Q)
dec_both (yes p) (yes q) = yes (p, q)
dec_both (yes p) (no n) = no (λ z. n z.1)
dec_both (no n) d = no (λ z. n z.0)

dec_not : {P : Type 0} → Dec P → Dec (P → ⊥)
dec_not (yes p) = no (λ n. n p)
dec_not (no n) = yes n

dec_from : {P Q : Type 0} → Dec P → Dec Q → Dec (P → Q)
dec_from d (yes q) = yes (λ p. q)
dec_from (yes p) (no n) = no (λ f. n (f p))
dec_from (no m) (no n) = yes (λ p. absurd (m p))

dec_bool : (a b : Bool) → Dec (a ≡ b)
dec_bool true true = yes refl
dec_bool true false = no (λ e. never (cc))
dec_bool false true = no (λ e. never (cc))
dec_bool false false = yes refl

dec_eq : (a b : ℕ) → Dec (a ≡ b)
dec_eq a b = go (eqb a b) refl
  where
    go : (t : Bool) → eqb a b ≡ t → Dec (a ≡ b)
    go true e = yes (eqb-true a b e)
    go false e = no (eqb-false a b e)

dec_key : (a b : List ℕ) → Dec (a ≡ b)
dec_key a b = go (same_list a b) refl
  where
    go : (t : Bool) → same_list a b ≡ t → Dec (a ≡ b)
    go true e = yes (same_true a b e)
    go false e = no (other_differ a b e)

-- a property of each number below n
dec_below : (P : ℕ → Type 0) → ((i : ℕ) → Dec (P i)) → (n : ℕ) → Dec ((i : ℕ) → i < n → P i)
dec_below P d zero = yes (λ i h. absurd (omega arith))
dec_below P d (suc n) = dec_map (λ z i h. go z i h (dec_lt i n)) (λ z. ((λ i h. z i (omega arith)), z n (omega arith))) (dec_both (dec_below P d n) (d n))
  where
    go : ((i : ℕ) → i < n → P i) × P n → (i : ℕ) → i < suc n → Dec (i < n) → P i
    go z i h (yes l) = z.0 i l
    go z i h (no l) = let e : n ≡ i = omega arith in rw (← e) z.1

module _ {P : Entry → Type 0} (d : (e : Entry) → Dec (P e)) where
  dec_each : (es : List Entry) → Dec (Each P es)
  dec_each [] = yes tt
  dec_each (e ∷ es) = dec_both (d e) (dec_each es)

module _ {P : Entry → Entry → Type 0} (d : (e f : Entry) → Dec (P e f)) where
  dec_pairs : (es : List Entry) → Dec (Pairs P es)
  dec_pairs [] = yes tt
  dec_pairs (e ∷ es) = dec_both (dec_each (d e) es) (dec_pairs es)

dec_sizes : (e : Entry) → Dec (Sizes e)
dec_sizes e =
    dec_map (λ z. record { key = z.0; value = z.1.0; key_bytes = z.1.1.0; value_bytes = z.1.1.1.0; deadline = z.1.1.1.1 })
    (λ s. (s.key, (s.value, (s.key_bytes, (s.value_bytes, s.deadline)))))
    (dec_both (dec_le (length e.key) key_limit) (dec_both (dec_le (length e.value) value_limit)
    (dec_both (dec_bool (is_bytes e.key) true) (dec_both (dec_bool (is_bytes e.value) true) (dec_le e.deadline last_deadline)))))

dec_counts : (h : History) → Dec (Counts h)
dec_counts h =
    dec_map (λ z. record { long = z.0; most = λ i. each h.counts z.1 i (dec_lt i (length h.counts)) }) (λ c. (c.long, λ i _. c.most i))
    (dec_both (dec_eq (length h.counts) counts_held) (dec_below _ (λ i. dec_le (get_or h.counts i 0) most_count) (length h.counts)))
  where
    each : (ns : List ℕ) → ((i : ℕ) → i < length ns → get_or ns i 0 ≤ most_count) → (i : ℕ) → Dec (i < length ns) → get_or ns i 0 ≤ most_count
    each ns z i (yes l) = z i l
    each ns z i (no l) = omega (arith, get_or-eq_default ns 0 {n = i} (omega arith))

dec_seconds : (h : History) → Dec (Seconds h)
dec_seconds h =
    dec_map (λ z. record { first = z.0; latest = z.1 }) (λ s. (s.first, s.latest))
    (dec_both (dec_le (start_of h.first 0) last_second) (dec_le h.latest last_second))

dec_table : (st : State) → Dec (IsTable st)
dec_table st =
    dec_map (λ z. record { few = z.0; keys = z.1.0; sizes = z.1.1.0; versions = z.1.1.1.0; issued = z.1.1.1.1.0; last = z.1.1.1.1.1.0; counts = z.1.1.1.1.1.1.0; seconds = z.1.1.1.1.1.1.1 })
    (λ s. (s.few, (s.keys, (s.sizes, (s.versions, (s.issued, (s.last, (s.counts, s.seconds))))))))
    (dec_both (dec_le (length st.entries) most_keys) (dec_both (dec_pairs (λ e f. dec_not (dec_key e.key f.key)) st.entries)
    (dec_both (dec_each dec_sizes st.entries) (dec_both (dec_pairs (λ e f. dec_not (dec_eq e.version f.version)) st.entries)
    (dec_both (dec_each (λ e. dec_both (dec_le 1 e.version) (dec_le e.version st.last)) st.entries) (dec_both (dec_le st.last last_version) (dec_both (dec_counts st.history) (dec_seconds st.history))))))))

dec_places : (t : List ℕ) → Dec (Permutation t)
dec_places t =
    dec_map (λ z. record { below = z.0; once = λ i j l m. z.1 i l j m }) (λ p. (p.below, λ i l j m. p.once i j l m))
    (dec_both (dec_below _ (λ i. dec_lt (place_of t i) most_keys) most_keys)
    (dec_below _ (λ i. dec_below _ (λ j. dec_from (dec_eq (place_of t i) (place_of t j)) (dec_eq i j)) most_keys) most_keys))

dec_layout : (t : List ℕ) → Dec (Layout t)
dec_layout t =
    dec_map (λ z. record { long = z.0; counted = z.1.0; places = z.1.1.0; lengths = z.1.1.1.0; order = z.1.1.1.1.0; bound = z.1.1.1.1.1.0; by_key = z.1.1.1.1.1.1 })
    (λ f. (f.long, (f.counted, (f.places, (f.lengths, (f.order, (f.bound, f.by_key)))))))
    (dec_both (dec_eq (length t) size) (dec_both (dec_le (number_of t count_index) most_keys) (dec_both (dec_places t)
    (dec_both (dec_below _ (λ i. dec_both (dec_le (be8 t (row_at t i + 16)) key_limit) (dec_le (be8 t (row_at t i + 24)) value_limit)) (count_of t))
    (dec_both (dec_pairs (λ e f. dec_lt e.version f.version) (state_of t).entries)
    (dec_both (dec_each (λ e. dec_from (dec_lt 0 e.deadline) (dec_le (number_of t bound_index) e.deadline)) (state_of t).entries)
    (dec_key (order_held t) (made_afresh t))))))))

pub dec_sound : (t : List ℕ) → Dec (Sound t)
dec_sound t = dec_map (λ z. record { layout = z.0; table = z.1 }) (λ s. (s.layout, s.table)) (dec_both (dec_layout t) (dec_table (state_of t)))

abbrev pub is_yes : {P : Type 0} → Dec P → Bool
is_yes (yes p) = true
is_yes (no n) = false

-- whether the table is sound, that is not refused 13
unfoldable pub is_sound : List ℕ → Bool
is_sound t = is_yes (dec_sound t)
