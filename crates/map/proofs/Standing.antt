-- What stands at a second. Assumes nothing.
use mathlib.Core.Path.{◌≡◌, refl, sym, ◌∙◌}
use mathlib.Core.List.{List, [], ◌∷◌}
use mathlib.Core.Bool.{Bool, true, false, cond, not, ◌&&◌}
use mathlib.Core.Option.{none, some}
use Prim.Native.Nat.{ℕ}
use native.Mathlib.Omega.{arith}
use lib.Dec.{eqb, leb}
use borrow.Author.Tests.{eqb-false, ne_eqb, leb-false, lt-leb}
use Rattle.wire.proofs.SameLaws.{same_true}
use Rattle.map.specs.State.{Entry, find, without, has_key}
use Rattle.map.specs.Deadline.{expired, standing, still}
use Rattle.map.specs.Table.{Each, Pairs, OtherKey}
use Rattle.map.specs.Expiry.{Stands}
use Rattle.map.proofs.Each.{each_map, each_left, without-none}

pub stands : (now : ℕ) (e : Entry) → expired now e ≡ false → Stands now e
unfolding expired
stands now e h l = leb-false e.deadline now (rw (ne_eqb e.deadline 0 (λ q. omega arith)) at h)

pub stands-back : (now : ℕ) (e : Entry) → Stands now e → expired now e ≡ false
unfolding expired
stands-back now e h = go (eqb e.deadline 0) refl
  where
    go : (b : Bool) → eqb e.deadline 0 ≡ b → (not b && leb e.deadline now) ≡ false
    go true q = refl
    go false q = lt-leb e.deadline now (h (omega (arith, eqb-false e.deadline 0 q)))

-- those that are left stand, and where all stand all are left
pub standing_stand : (now : ℕ) (es : List Entry) → Each (Stands now) (standing now es)
standing_stand now es = each_map (λ e. expired now e ≡ false) (Stands now) (stands now) (standing now es) (each_left (expired now) es)

pub standing-all : (now : ℕ) (es : List Entry) → Each (Stands now) es → standing now es ≡ es
standing-all now es h = without-none (expired now) es (each_map (Stands now) (λ e. expired now e ≡ false) (stands-back now) es h)

-- one entry has a key: of those that stand, it is the one that has it of all, if that stands
module _ (k : List ℕ) (now : ℕ) where
  none-behind : (e : Entry) → has_key k e ≡ true → (es : List Entry) → Each (OtherKey e) es → find (has_key k) (standing now es) ≡ none
  unfolding find without
  none-behind e i [] h = refl
  none-behind e i (f ∷ es) h = go (expired now f) (has_key k f) refl (none-behind e i es h.1)
    where
      go : (x y : Bool) → has_key k f ≡ y → find (has_key k) (standing now es) ≡ none
          → find (has_key k) (cond x (standing now es) (f ∷ standing now es)) ≡ none
      go true y j ih = ih
      go false true j ih = absurd (h.0 (same_true e.key k i ∙ sym (same_true f.key k j)))
      go false false j ih = rw j ih

  pub find-still : (es : List Entry) → Pairs OtherKey es → find (has_key k) (standing now es) ≡ still now (find (has_key k) es)
  unfolding find without
  find-still [] h = refl
  find-still (e ∷ es) h = go (expired now e) (has_key k e) refl refl (find-still es h.1)
    where
      go : (x y : Bool) → expired now e ≡ x → has_key k e ≡ y → find (has_key k) (standing now es) ≡ still now (find (has_key k) es)
          → find (has_key k) (cond x (standing now es) (e ∷ standing now es)) ≡ still now (cond y (some e) (find (has_key k) es))
      go true true p q ih = rw p (none-behind e q es h.0)
      go true false p q ih = ih
      go false true p q ih = rw (q, p)
      go false false p q ih = rw q ih
