-- What the editions have in common. Assumes nothing.
use mathlib.Core.Path.{◌≡◌, refl}
use mathlib.Core.Option.{Option, none, some}
use mathlib.Core.Bool.{Bool, true, false, cond, not}
use Prim.Native.Nat.{ℕ, ◌≤◌, ◌<◌}
use native.Mathlib.Omega.{arith}
use lib.Dec.{eqb, lit≤}
use borrow.Author.Tests.{eqb-true}
use Rattle.wire.proofs.Laws.{never}
use Rattle.wire.proofs.Basics.{pick}
use Rattle.message.specs.Edition.{Edition, twenty, edition_of, is_served, served}
use Rattle.message.specs.Request.{is_version, edition_at}

pub flags-small : (v : ℕ) → (edition_at v).flags ≤ 31
unfolding edition_of
flags-small v =
    let P : Option Edition → Type 0 = λ e. (served e).flags ≤ 31 in
    pick P (eqb v 10) (λ e. lit≤ tt) (pick P (eqb v 11) (λ e. lit≤ tt) (pick P (eqb v 12) (λ e. lit≤ tt) (pick P (eqb v 20) (λ e. lit≤ tt) (lit≤ tt))))

pub version-small : (v : ℕ) → is_version v ≡ true → v < 256
unfolding edition_of
version-small v =
    let P : Option Edition → Type 0 = λ e. is_served e ≡ true → v < 256 in
    pick P (eqb v 10) (λ e s. omega (arith, eqb-true v 10 e))
    (pick P (eqb v 11) (λ e s. omega (arith, eqb-true v 11 e))
    (pick P (eqb v 12) (λ e s. omega (arith, eqb-true v 12 e)) (pick P (eqb v 20) (λ e s. omega (arith, eqb-true v 20 e)) (λ s. never (cc)))))

-- version 20 is the one without a transaction type, and the one that has the statuses 03 and 04
pub transaction-is : (v : ℕ) → (edition_at v).transaction ≡ not (eqb v 20)
unfolding edition_of
transaction-is v =
    let P : Option Edition → Type 0 = λ e. (served e).transaction ≡ not (eqb v 20) in
    pick P (eqb v 10) (λ e. rw (eqb-true v 10 e))
    (pick P (eqb v 11) (λ e. rw (eqb-true v 11 e)) (pick P (eqb v 12) (λ e. rw (eqb-true v 12 e)) (last (eqb v 20))))
  where
    last : (t : Bool) → (served (cond t (some twenty) none)).transaction ≡ not t
    last true = refl
    last false = refl

pub old_statuses_is : (v : ℕ) → (edition_at v).old_statuses ≡ eqb v 20
unfolding edition_of
old_statuses_is v =
    let P : Option Edition → Type 0 = λ e. (served e).old_statuses ≡ eqb v 20 in
    pick P (eqb v 10) (λ e. rw (eqb-true v 10 e))
    (pick P (eqb v 11) (λ e. rw (eqb-true v 11 e)) (pick P (eqb v 12) (λ e. rw (eqb-true v 12 e)) (last (eqb v 20))))
  where
    last : (t : Bool) → (served (cond t (some twenty) none)).old_statuses ≡ t
    last true = refl
    last false = refl

-- the edition of a version that is served, and of one that is not
pub no_edition : (v : ℕ) → is_version v ≡ false → edition_of v ≡ none
no_edition v = go (edition_of v)
  where
    go : (e : Option Edition) → is_served e ≡ false → e ≡ none
    go none h = refl
    go (some e) h = never (cc)

pub edition-is : (v : ℕ) → is_version v ≡ true → edition_of v ≡ some (edition_at v)
edition-is v = go (edition_of v)
  where
    go : (e : Option Edition) → is_served e ≡ true → e ≡ some (served e)
    go none h = never (cc)
    go (some e) h = refl
