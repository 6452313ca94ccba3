-- The laws of values one after the other, and reading them step by step. Assumes nothing.
use mathlib.Core.Path.{◌≡◌, refl, sym, ap, subst₂, ◌∙◌}
use mathlib.Core.List.{List, [], ◌∷◌}
use mathlib.Core.Option.{Option, none, some}
use mathlib.Core.Bool.{true, cond}
use Prim.Native.Nat.{ℕ, zero, suc, ◌+◌, ◌≤◌}
use native.Mathlib.Nat.{add-zero}
use native.Mathlib.Omega.{arith}
use lib.ListN.{length}
use lib.Dec.{leb, eqb}
use borrow.Author.Tests.{leb-true, eqb-true}
use Rattle.wire.specs.Codec.{Read, whole, refused, after, Codec, Valid, Bytes, empty, byte, guard, seq, all, read_at}
use Rattle.wire.specs.Listed.{more_byte, Behind, behind, to_item, from_item, item, Others, others, to_list, from_list, is_nil, listed, Steps, end, on}
use Rattle.wire.proofs.Laws.{Laws, never, after_same, after-after, after-whole, passed, sized, same_read, seq-valid, guard-valid, seq_laws, guard_laws, type_laws, empty_laws, byte_laws}
use Rattle.wire.proofs.At.{at-seq, at_type, at-guard, at_cond, at_exact}

more_laws : Laws more_byte
unfolding more_byte
more_laws = guard_laws (λ b. leb b 1) 8 byte byte_laws

more-small : (b : ℕ) → Valid more_byte b → b ≤ 1
unfolding more_byte
more-small b v = leb-true b 1 (guard-valid (λ b. leb b 1) 8 byte b v).0

behind_laws : {A : Type 0} (c : Codec A) → Laws c → (b : ℕ) → Laws (behind c b)
unfolding behind
behind_laws c l zero = empty_laws
behind_laws c l (suc b) = l

item-there : {A : Type 0} (o : Option A) → to_item (from_item o).0 (from_item o).1 ≡ o
item-there none = refl
item-there (some a) = refl

item_back : {A : Type 0} (b : ℕ) (x : Behind A b) → b ≤ 1 → from_item (to_item b x) ≡ (b, x)
item_back zero x h = refl
item_back (suc zero) x h = refl
item_back (suc (suc b)) x h = absurd (omega arith)

pub item_laws : {A : Type 0} (c : Codec A) → Laws c → Laws (item c)
unfolding item
item_laws c l =
    type_laws all (λ p. to_item p.0 p.1) from_item (seq more_byte (behind c)) (seq_laws more_byte (behind c) more_laws (behind_laws c l))
    (λ o e. item-there o)
    (λ p v. (item_back p.0 p.1 (more-small p.0 (seq-valid more_byte (behind c) p v).0), refl))

others_laws : {A : Type 0} (rest : Codec (List A)) → Laws rest → (o : Option A) → Laws (others rest o)
unfolding others
others_laws rest l none = empty_laws
others_laws rest l (some a) = l

pub nil_is : {A : Type 0} (xs : List A) → is_nil xs ≡ true → [] ≡ xs
nil_is [] e = refl
nil_is (a ∷ xs) e = never (cc)

list-there : {A : Type 0} (xs : List A) → to_list (from_list xs).0 (from_list xs).1 ≡ xs
list-there [] = refl
list-there (a ∷ xs) = refl

list_back : {A : Type 0} (o : Option A) (x : Others o) → from_list (to_list o x) ≡ (o, x)
list_back none x = refl
list_back (some a) x = refl

pub listed_laws : {A : Type 0} (n : ℕ) (c : Codec A) → Laws c → Laws (listed n c)
unfolding listed
listed_laws zero c l =
    type_laws is_nil (λ b. []) (λ xs. 0) (guard (λ b. eqb b 0) 6 more_byte) (guard_laws (λ b. eqb b 0) 6 more_byte more_laws)
    (λ xs e. nil_is xs e)
    (λ b v. (sym (eqb-true b 0 (guard-valid (λ b. eqb b 0) 6 more_byte b v).0), refl))
listed_laws (suc n) c l =
    type_laws all (λ p. to_list p.0 p.1) from_list (seq (item c) (others (listed n c)))
    (seq_laws (item c) (others (listed n c)) (item_laws c l) (others_laws (listed n c) (listed_laws n c l)))
    (λ xs e. list-there xs)
    (λ p v. (list_back p.0 p.1, refl))

-- what stands behind a more byte, and behind an item
unfoldable pub on_byte : {A : Type 0} → Codec A → List ℕ → ℕ → ℕ → Read (Option A)
on_byte c s zero j = whole none j
on_byte c s (suc b) j = after (read_at c s j) (λ a k. whole (some a) k)

unfoldable pub on_item : {A : Type 0} → Codec (List A) → List ℕ → Option A → ℕ → Read (List A)
on_item rest s none j = whole [] j
on_item rest s (some a) j = after (read_at rest s j) (λ xs k. whole (a ∷ xs) k)

pub at_more : (s : List ℕ) (at : ℕ) → read_at more_byte s at ≡ after (read_at byte s at) (λ b j. cond (leb b 1) (whole b j) (refused 8))
unfolding more_byte
at_more s at = at-guard s at (λ b. leb b 1) 8 byte

empty-at : {A : Type 0} (a : A) (s : List ℕ) (j : ℕ) → after (read_at empty s j) (λ x k. whole a k) ≡ whole a j
unfolding read_at empty
empty-at a s j = rw add-zero

at-behind : {A : Type 0} (c : Codec A) (s : List ℕ) (b j : ℕ) → after (read_at (behind c b) s j) (λ x k. whole (to_item b x) k) ≡ on_byte c s b j
unfolding behind on_byte
at-behind c s zero j = empty-at none s j
at-behind c s (suc b) j = refl

at_others : {A : Type 0} (rest : Codec (List A)) (s : List ℕ) (o : Option A) (j : ℕ) → after (read_at (others rest o) s j) (λ x k. whole (to_list o x) k) ≡ on_item rest s o j
unfolding others on_item
at_others rest s none j = empty-at [] s j
at_others rest s (some a) j = refl

none-behind : {A : Type 0} (c : Codec A) (s : List ℕ) (j b k : ℕ) → on_byte c s b k ≡ whole none j → whole b k ≡ whole 0 j
unfolding on_byte
none-behind c s j zero k e = ap (λ (m : ℕ). whole 0 m) (sized e)
none-behind c s j (suc b) k e = let x = after-whole (read_at c s k) _ none j e in never (cc x.then)

one-behind : {A : Type 0} (c : Codec A) (s : List ℕ) (a : A) (j b k : ℕ) → on_byte c s b k ≡ whole (some a) j → read_at c s k ≡ whole a j
unfolding on_byte
one-behind c s a j zero k e = never (cc)
one-behind c s a j (suc b) k e = let x = after-whole (read_at c s k) _ (some a) j e in x.first ∙ cc x.then

more-next : (s : List ℕ) (at b j : ℕ) → Bytes s → read_at more_byte s at ≡ whole b j → j ≡ at + 1
unfolding more_byte guard byte
more-next s at b j h e = at_exact more_byte more_laws s at b j h e

module _ {A : Type 0} (c : Codec A) (s : List ℕ) (at : ℕ) where
  pub at_item : read_at (item c) s at ≡ after (read_at more_byte s at) (λ b j. on_byte c s b j)
  unfolding item
  at_item = rw (at_type, at-seq, after-after) (after_same (read_at more_byte s at) (λ b j. rw after-after (at-behind c s b j)))

  item-end : (j : ℕ) → read_at more_byte s at ≡ whole 0 j → read_at (item c) s at ≡ whole none j
  unfolding on_byte
  item-end j e = at_item ∙ rw e

  item-none : (j : ℕ) → read_at (item c) s at ≡ whole none j → read_at more_byte s at ≡ whole 0 j
  item-none j e =
      let x = after-whole (read_at more_byte s at) _ none j (sym at_item ∙ e) in
      x.first ∙ none-behind c s j x.val x.len x.then

  -- a value stands behind its byte 1
  pub item-some : (a : A) (j : ℕ) → Bytes s → read_at (item c) s at ≡ whole (some a) j → read_at c s (at + 1) ≡ whole a j
  item-some a j b e =
      let x = after-whole (read_at more_byte s at) _ (some a) j (sym at_item ∙ e) in
      rw (← (more-next s at x.val x.len b x.first)) (one-behind c s a j x.val x.len x.then)

  -- where no value may follow
  pub at-full : read_at (listed 0 c) s at ≡ after (read_at more_byte s at) (λ b j. cond (eqb b 0) (whole [] j) (refused 6))
  unfolding listed
  at-full = simp (at_type, at-guard, after-after, at_cond)

  pub at_listed : (n : ℕ) → read_at (listed (suc n) c) s at ≡ after (read_at (item c) s at) (λ o j. on_item (listed n c) s o j)
  unfolding listed
  at_listed n = rw (at_type, at-seq, after-after) (after_same (read_at (item c) s at) (λ o j. rw after-after (at_others (listed n c) s o j)))

-- a list that is read whole is read by its steps
module _ {A : Type 0} (c : Codec A) (s : List ℕ) where
  same_end : {at : ℕ} {xs ys : List A} {j k : ℕ} → Steps c s at xs j → whole xs j ≡ whole ys k → Steps c s at ys k
  same_end {at} g e = subst₂ (λ (l : List A) (m : ℕ). Steps c s at l m) (same_read e) (sized e) g

  full-step : (at : ℕ) (xs : List A) (j : ℕ) → read_at (listed 0 c) s at ≡ whole xs j → Steps c s at xs j
  full-step at xs j e =
      let x = after-whole (read_at more_byte s at) _ xs j (sym (at-full c s at) ∙ e) in
      let y = passed (eqb x.val 0) (whole [] x.len) 6 x.then in
      let f = x.first ∙ ap (λ (b : ℕ). whole b x.len) (eqb-true x.val 0 y.0) in
      same_end (end (item-end c s at x.len f)) y.1

  step : (rest : Codec (List A)) → ((at : ℕ) (xs : List A) (j : ℕ) → read_at rest s at ≡ whole xs j → Steps c s at xs j)
      → (at : ℕ) (o : Option A) (j : ℕ) (xs : List A) (k : ℕ) → read_at (item c) s at ≡ whole o j → on_item rest s o j ≡ whole xs k → Steps c s at xs k
  unfolding on_item
  step rest h at none j xs k e f = same_end (end e) f
  step rest h at (some a) j xs k e f =
      let x = after-whole (read_at rest s j) _ xs k f in
      same_end (on e (h j x.val x.len x.first)) x.then

  pub listed-steps : (n at : ℕ) (xs : List A) (j : ℕ) → read_at (listed n c) s at ≡ whole xs j → Steps c s at xs j
  listed-steps zero at xs j e = full-step at xs j e
  listed-steps (suc n) at xs j e =
      let x = after-whole (read_at (item c) s at) _ xs j (sym (at_listed c s at n) ∙ e) in
      step (listed n c) (listed-steps n) at x.val x.len xs j x.first x.then

  -- and no other list is
  pub steps-listed : (n : ℕ) {at : ℕ} {xs : List A} {j : ℕ} → Steps c s at xs j → length xs ≤ n → read_at (listed n c) s at ≡ whole xs j
  unfolding on_item
  steps-listed zero {at} {xs} {j} (end e) h = at-full c s at ∙ rw (item-none c s at j e)
  steps-listed zero (on e g) h = absurd (omega arith)
  steps-listed (suc n) {at} {xs} {j} (end e) h = at_listed c s at n ∙ rw e
  steps-listed (suc n) {at} {xs} {j} (on e g) h = at_listed c s at n ∙ rw (e, steps-listed n g (omega arith))
