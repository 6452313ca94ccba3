-- The keys that numbers name are the listing, which has a written form, and the writer of entries writes it. Assumes nothing.
use mathlib.Core.Path.{◌≡◌, refl, sym, ap, subst, ◌∙◌}
use mathlib.Core.List.{List, [], ◌∷◌, ◌++◌, map}
use mathlib.Core.Bool.{Bool, true, false}
use Prim.Native.Nat.{ℕ, zero, suc, ◌+◌, ◌*◌, ◌/◌, ◌≤◌, ◌<◌, min}
use native.Mathlib.Omega.{arith}
use native.Mathlib.Nat.{zero-add}
use lib.ListN.{length, take, drop, length-take}
use lib.Seq.{get_or-take, ext_get_or, length-take-le, sets-eq}
use borrow.Author.Tests.{le-leb, lt-leb, ne_eqb}
use Rattle.wire.specs.Codec.{Valid}
use Rattle.wire.specs.Upto.{upto}
use Rattle.wire.specs.Write.{Sent, written, kept, sent, put_at}
use Rattle.wire.proofs.UptoLaws.{length_upto, get_or_upto}
use Rattle.wire.proofs.WriteLaws.{put-wrote, put-moved, put-kept}
use Rattle.wire.proofs.ListedEnc.{listed-some}
use Rattle.message.specs.Listing.{item_of, listing}
use Rattle.map.specs.State.{Entry, without}
use Rattle.map.specs.Deadline.{expired, standing}
use Rattle.map.specs.Table.{Sizes}
use Rattle.map.specs.Reply.{pair_of}
use Rattle.map.proofs.Each.{each-without, fewer}
use Rattle.map.proofs.ListedLaws.{each_take}
use Rattle.map.proofs.ListedFormat.{listing-good}
use Rattle.listing.specs.EntryWrite.{entry_named, listed_in}
use Rattle.table.specs.Memory.{state_of, Sound}
use Rattle.table.proofs.Lists.{upto_ext, says_yes, says_no}
use Rattle.wire.specs.Before.{before}
use Rattle.wire.proofs.SortedLaws.{length_sorted, each-sorted}
use Rattle.map.specs.KeyListing.{entry_before, sorted_by_key, key_listing, listing_body, list_keys}
use Rattle.table.specs.KeysFrom.{KeysNamed}
use Rattle.table.proofs.IsKept.{afresh-order}
use Rattle.table.proofs.KeyWalk.{keys-listed}
use Rattle.order.specs.Lists.{Lists}

-- a listing of a table has a written form
pub listing-valid : (t k : List ℕ) (n : ℕ) → Sound t → Valid (listing false) (map (pair_of false) (key_listing k n (state_of t)))
unfolding key_listing
listing-valid t k n s =
    let es = (state_of t).entries in
    let test : Entry → Bool = λ e. before e.key k in
    let fs = without test (sorted_by_key es) in
    let gs = standing (state_of t).history.latest fs in
    listing-good false (take n gs)
    (omega (arith, length-take n gs, fewer (expired (state_of t).history.latest) fs, fewer test (sorted_by_key es), length_sorted entry_before es, s.table.few))
    (each_take Sizes n gs (each-without (expired (state_of t).history.latest) Sizes fs (each-without test Sizes (sorted_by_key es) (each-sorted entry_before Sizes es s.table.sizes))))

module _ {A B : Type 0} (f : A → B) where
  map_take : (n : ℕ) (xs : List A) → map f (take n xs) ≡ take n (map f xs)
  map_take zero xs = refl
  map_take (suc n) [] = refl
  map_take (suc n) (x ∷ xs) = ap (λ (l : List B). f x ∷ l) (map_take n xs)

-- the first ones of a list by its elements
upto_take : {A : Type 0} (f : ℕ → A) (n m : ℕ) → upto f (min n m) ≡ take n (upto f m)
upto_take f n m =
    let l = length_upto f m in
    let e = length-take n (upto f m) in
    ext_get_or (f 0) (upto f (min n m)) (take n (upto f m)) (length_upto f (min n m) ∙ omega arith)
    (λ i q.
    let q' : i < min n m = omega (arith, length_upto f (min n m)) in
    get_or_upto f (min n m) i (f 0) q' ∙ sym (get_or-take n (upto f m) i (f 0) (omega arith) ∙ get_or_upto f m i (f 0) (omega arith)))

-- the entries that the first numbers name
named-first : (t ns : List ℕ) (m : ℕ) → m * 4 ≤ length ns → listed_in t (take (m * 4) ns) ≡ upto (λ i. entry_named t ns i) m
unfolding listed_in entry_named
named-first t ns m h =
    let l : length (take (m * 4) ns) ≡ m * 4 = length-take-le (m * 4) ns h in
    let e : length (take (m * 4) ns) / 4 ≡ m = omega arith in
    ap (upto (λ i. entry_named t (take (m * 4) ns) i)) e
    ∙ upto_ext (λ i. entry_named t ns i) (λ i. entry_named t (take (m * 4) ns) i) m
    (λ i q.
    rw (get_or-take (m * 4) ns (i * 4) 0 (omega arith), get_or-take (m * 4) ns (i * 4 + 1) 0 (omega arith), get_or-take (m * 4) ns (i * 4 + 2) 0 (omega arith), get_or-take (m * 4) ns (i * 4 + 2 + 1) 0 (omega arith)))

-- the entries that the first of the numbers name are the listing
pub listed : (t k : List ℕ) (n : ℕ) (ns : List ℕ) (many now : ℕ) → KeysNamed t k now ns many → Sound t → now ≡ (state_of t).history.latest
    → listed_in t (take (min n many * 4) ns) ≡ map (pair_of false) (key_listing k n (state_of t))
unfolding key_listing
listed t k n ns many now c s e =
    let f = c.few in
    let gs = standing (state_of t).history.latest (without (λ e. before e.key k) (sorted_by_key (state_of t).entries)) in
    named-first t ns (min n many) (omega (arith, c.long))
    ∙ upto_take (λ i. entry_named t ns i) n many
    ∙ ap (take n) (c.pairs ∙ keys-listed t now s.layout.long s.layout.places (afresh-order t s s.layout.by_key) k)
    ∙ ap (λ (x : ℕ). take n (map (pair_of false) (standing x (without (λ e. before e.key k) (sorted_by_key (state_of t).entries))))) e
    ∙ sym (map_take (pair_of false) n gs)

-- what the writer of a field makes of bytes at the front
module _ (xs : List (List ℕ × List ℕ)) (old new : List ℕ) (r : ℕ) (v : Valid (listing false) xs) (e : ◌≡◌ {A = ℕ × List ℕ} (r, new) (put_at (listing false) xs 0 old)) where
  abbrev bs : List ℕ
  bs = (listing false).enc xs

  some : 1 ≤ length bs
  unfolding listing
  some = listed-some (item_of false) 128 xs

  pub not_sent : r ≡ 0 → ◌≡◌ {A = Sent × List ℕ} (kept 12, new) (sent bs old)
  not_sent z =
      let f : ◌≡◌ {A = ℕ × List ℕ} (0, new) (put_at (listing false) xs 0 old) = subst (λ (x : ℕ). ◌≡◌ {A = ℕ × List ℕ} (x, new) (put_at (listing false) xs 0 old)) z e in
      let w = put-kept (listing false) xs 0 old some new f in
      rw (lt-leb (length bs) (length old) (omega (arith, w.1 v)), w.0)

  pub was_sent : (r ≡ 0 → ⊥) → ◌≡◌ {A = Sent × List ℕ} (written r, new) (sent bs old)
  was_sent d =
      let m = put-moved (listing false) xs 0 old new r e d in
      let w = put-wrote (listing false) xs 0 old v m.1 new r e in
      let l : length bs ≤ length old = omega (arith, m.1) in
      let g : r ≡ length bs = omega (arith, w.next) in
      let h : new ≡ bs ++ drop (length bs) old = w.list ∙ sets-eq bs old 0 m.1 ∙ ap (λ (i : ℕ). bs ++ drop i old) (zero-add (length bs)) in
      rw (le-leb (length bs) (length old) l, g, h)

-- what is answered in each case
module _ (t name k : List ℕ) (n : ℕ) (old : List ℕ) where
  pub lists_no_table : (Sound t → ⊥) → Lists t name k n old (kept 13, old)
  unfolding list_keys
  lists_no_table f = record { ok = false; sound = says_no f; same = refl }

  pub lists_no_cache : Sound t → (length name ≡ 0 → ⊥) → Lists t name k n old (kept 9, old)
  unfolding list_keys
  lists_no_cache s d = record { ok = true; sound = says_yes s; same = rw (ne_eqb (length name) 0 d) }

  pub lists-keys : (z : Sent × List ℕ) → Sound t → length name ≡ 0 → z ≡ sent (listing_body k n (state_of t)) old → Lists t name k n old z
  unfolding list_keys
  lists-keys z s d e = record { ok = true; sound = says_yes s; same = e ∙ rw d }
