-- What holds of each entry of a list, or of each two: without some of the entries, with one more, and in another order. Assumes nothing.
use mathlib.Core.Path.{◌≡◌, refl, ap, subst, subst₂, ◌∙◌}
use mathlib.Core.List.Permᴰ.{cons}
use mathlib.Core.List.Permᴰ.{nil}
use mathlib.Core.List.Permᴰ.{swap}
use mathlib.Core.List.Permᴰ.{trans}
use mathlib.Core.List.{List, [], ◌∷◌, ◌++◌, Permᴰ as Perm}
use mathlib.Core.Bool.{Bool, true, false, cond}
use mathlib.Core.Option.{Option, none, some}
use Prim.Native.Nat.{suc, ◌≤◌, zero-le, suc-le-suc}
use native.Mathlib.Omega.{arith}
use lib.ListN.{length}
use Rattle.wire.proofs.Basics.{pick}
use Rattle.map.specs.History.{History}
use Rattle.map.specs.State.{Entry, State, with_entries, with_history, find, without}
use Rattle.map.specs.Table.{Each, Pairs, Sizes, OtherKey, OtherVersion, Issued, Counts, Seconds, IsTable}

pub each_map : (P Q : Entry → Type 0) → ((e : Entry) → P e → Q e) → (es : List Entry) → Each P es → Each Q es
each_map P Q f [] h = tt
each_map P Q f (e ∷ es) h = (f e h.0, each_map P Q f es h.1)

pub each_both : (P Q R : Entry → Type 0) → ((e : Entry) → P e → Q e → R e) → (es : List Entry) → Each P es → Each Q es → Each R es
each_both P Q R f [] h g = tt
each_both P Q R f (e ∷ es) h g = (f e h.0 g.0, each_both P Q R f es h.1 g.1)

pub pairs-map : (P Q : Entry → Entry → Type 0) → ((e f : Entry) → P e f → Q e f) → (es : List Entry) → Pairs P es → Pairs Q es
pairs-map P Q f [] h = tt
pairs-map P Q f (e ∷ es) h = (each_map (P e) (Q e) (f e) es h.0, pairs-map P Q f es h.1)

-- what is said of an entry, if there is one
abbrev pub Maybe : (Entry → Type 0) → Option Entry → Type 0
Maybe P none = Unit {0}
Maybe P (some e) = P e

module _ (p : Entry → Bool) where
  pub each-find : (P : Entry → Type 0) (es : List Entry) → Each P es → Maybe P (find p es)
  unfolding find
  each-find P [] h = tt
  each-find P (e ∷ es) h = pick (Maybe P) (p e) (λ q. h.0) (each-find P es h.1)

  pub each-without : (P : Entry → Type 0) (es : List Entry) → Each P es → Each P (without p es)
  unfolding without
  each-without P [] h = tt
  each-without P (e ∷ es) h = let g = each-without P es h.1 in pick (Each P) (p e) (λ q. g) (h.0, g)

  pub pairs-without : (R : Entry → Entry → Type 0) (es : List Entry) → Pairs R es → Pairs R (without p es)
  unfolding without
  pairs-without R [] h = tt
  pairs-without R (e ∷ es) h = let g = pairs-without R es h.1 in pick (Pairs R) (p e) (λ q. g) (each-without (R e) es h.0, g)

  -- none is dropped where none passes the test
  pub without-none : (es : List Entry) → Each (λ e. p e ≡ false) es → without p es ≡ es
  unfolding without
  without-none [] h = refl
  without-none (e ∷ es) h = rw (h.0, without-none es h.1)

  pub fewer : (es : List Entry) → length (without p es) ≤ length es
  unfolding without
  fewer [] = zero-le
  fewer (e ∷ es) = let g = fewer es in pick (λ (l : List Entry). length l ≤ suc (length es)) (p e) (λ q. omega arith) (suc-le-suc g)

  -- none that is left passes the test
  pub each_left : (es : List Entry) → Each (λ e. p e ≡ false) (without p es)
  unfolding without
  each_left [] = tt
  each_left (e ∷ es) = go (p e) refl (each_left es)
    where
      go : (t : Bool) → p e ≡ t → Each (λ e. p e ≡ false) (without p es) → Each (λ e. p e ≡ false) (cond t (without p es) (e ∷ without p es))
      go true q g = g
      go false q g = (q, g)

module _ (x : Entry) where
  pub each_add : (P : Entry → Type 0) (es : List Entry) → Each P es → P x → Each P (es ++ (x ∷ []))
  each_add P [] h g = (g, tt)
  each_add P (e ∷ es) h g = (h.0, each_add P es h.1 g)

  pub pairs_add : (R : Entry → Entry → Type 0) (es : List Entry) → Pairs R es → Each (λ e. R e x) es → Pairs R (es ++ (x ∷ []))
  pairs_add R [] h g = (tt, tt)
  pairs_add R (e ∷ es) h g = (each_add (R e) es h.0 g.0, pairs_add R es h.1 g.1)

-- what is said of each entry, or of each two in either order, is said of a list in any order
pub same-each : (P : Entry → Type 0) {es fs : List Entry} → Perm es fs → Each P es → Each P fs
same-each P nil h = tt
same-each P (cons p s) h = (subst P p h.0, same-each P s h.1)
same-each P (swap p q) h = (subst P q h.1.0, (subst P p h.0, h.1.1))
same-each P (trans s t) h = same-each P t (same-each P s h)

pub same-pairs : (R : Entry → Entry → Type 0) → ((e f : Entry) → R e f → R f e) → {es fs : List Entry} → Perm es fs → Pairs R es → Pairs R fs
same-pairs R turn nil h = tt
same-pairs R turn (cons {b = f} {l₁ = es} p s) h = (same-each (R f) s (subst (λ (x : Entry). Each (R x) es) p h.0), same-pairs R turn s h.1)
same-pairs R turn (swap {a = e} {b = f} {l = es} p q) h =
    ((subst₂ R q p (turn e f h.0.0), subst (λ (x : Entry). Each (R x) es) q h.1.0), (subst (λ (x : Entry). Each (R x) es) p h.0.1, h.1.1))
same-pairs R turn (trans s t) h = same-pairs R turn t (same-pairs R turn s h)

pub same_length : {es fs : List Entry} → Perm es fs → length es ≡ length fs
same_length nil = refl
same_length (cons p s) = ap suc (same_length s)
same_length (swap p q) = refl
same_length (trans s t) = same_length s ∙ same_length t

-- a table without some of its entries is one, and so is one with another history
pub table-without : (p : Entry → Bool) {st : State} → IsTable st → IsTable (with_entries (without p st.entries) st)
table-without p {st} s =
    record {
      few = omega (arith, fewer p st.entries, s.few);
      keys = pairs-without p OtherKey st.entries s.keys;
      sizes = each-without p Sizes st.entries s.sizes;
      versions = pairs-without p OtherVersion st.entries s.versions;
      issued = each-without p (Issued st.last) st.entries s.issued;
      last = s.last;
      counts = s.counts;
      seconds = s.seconds;
    }

pub table-history : {st : State} (h : History) → Counts h → Seconds h → IsTable st → IsTable (with_history h st)
table-history h c q s =
    record { few = s.few; keys = s.keys; sizes = s.sizes; versions = s.versions; issued = s.issued; last = s.last; counts = c; seconds = q }
