-- What is held says what the map finds. Assumes nothing.
use mathlib.Core.Path.{◌≡◌, refl, sym, ap, ◌∙◌}
use mathlib.Core.List.{List, [], ◌∷◌}
use mathlib.Core.Bool.{Bool, true, false, cond}
use mathlib.Core.Option.{Option, none, some}
use Rattle.std.specs.Prelude.{Some, None, is_some, not}
use Rattle.std.specs.Prelude as code
use mathlib.Core.Logic.{inl, inr}
use Prim.Native.Nat.{ℕ, ◌≤◌}
use native.Mathlib.Omega.{arith}
use lib.ListN.{length}
use types.Run.{OneOf, miss}
use denote.Enum.Declared.{tag_of}
use Rattle.wire.proofs.Laws.{never}
use Rattle.map.specs.State.{State, find, has_key}
use Rattle.map.specs.Deadline.{still, expired, standing}
use Rattle.map.specs.Expiry.{Stands}
use Rattle.map.specs.Table.{Each, Pairs, OtherKey}
use Rattle.map.proofs.Each.{fewer}
use Rattle.map.proofs.Standing.{stands-back, find-still}
use Rattle.map.specs.Step.{version_of, is_none}
use Rattle.table.specs.Memory.{bound_index, number_of, entry, state_of, Sound}
use Rattle.table.specs.Sweep.{is_due}
use Rattle.table.specs.Found.{entry_at, FoundIs}
use Rattle.table.proofs.Keys.{found-held, found_none}
use Rattle.table.proofs.Order.{each_at}
use Rattle.table.proofs.Sweeps.{below-bound, not_due}
use Rattle.plan.specs.declared.Held.{Held}
use Rattle.plan.specs.declared.Change.{Change}
use Rattle.plan.specs.declared.Change.TheVariants as c
use Rattle.plan.specs.Plan.{Holds, HoldsAt, as_change, held_version, held_at, standing_at, judged_by, refusal_of}
use Rattle.plan.specs.contracts.Change as change-code

module _ (t k : List ℕ) {x : code.Option Held} where
  pub row-found : {h : Held} → x ≡ Some h → Holds t k x → FoundIs t k (Some h.row) × (h.version.0 ≡ (entry_at t h.row).version)
  row-found e g = rw e at g

  pub none_found : x ≡ None → Holds t k x → FoundIs t k None
  none_found e g = rw e at g

  pub row-held : {h : Held} → x ≡ Some h → Holds t k x → held_at t k ≡ some (entry_at t h.row)
  row-held {h} e g = found-held t k h.row (row-found e g).0

  pub none-held : x ≡ None → Holds t k x → held_at t k ≡ none
  none-held e g = found_none t k (none_found e g)

-- the version that the code holds is that of the entry that the map finds
pub version-held : (t k : List ℕ) (x : code.Option Held) → Holds t k x → held_version x ≡ version_of (held_at t k)
version-held t k (Some h) g = rw (row-held t k {x = Some h} refl g, g.1)
version-held t k None g = rw (none-held t k {x = None} refl g)

still-held : (now : ℕ) (t k : List ℕ) (x : code.Option Held) → HoldsAt now t k x → held_version x ≡ version_of (still now (held_at t k))
still-held now t k (Some h) g = rw (row-held t k {x = Some h} refl g.0, g.1, g.0.1)
still-held now t k None (inl g) = rw (none-held t k {x = None} refl g)
still-held now t k None (inr g) = rw (found-held t k g.0 g.1, g.2)

-- whether a version is held is whether a row is
pub held-some : (x : code.Option Held) (r : Bool) → r ≡ is_some x → is_none (held_version x) ≡ not r
held-some (Some h) true e = refl
held-some (Some h) false e = never (cc)
held-some None true e = never (cc)
held-some None false e = refl

-- where each entry stands, what stands is what is held
pub all_stand : (now : ℕ) (t k : List ℕ) (x : code.Option Held) → Each (Stands now) (state_of t).entries → HoldsAt now t k x → Holds t k x
unfolding entry_at entry
all_stand now t k (Some h) s g = g.0
all_stand now t k None s (inl g) = g
all_stand now t k None s (inr g) =
    let e = stands-back now (entry_at t g.0) (each_at (Stands now) (state_of t).entries (entry [] [] 0 0) g.0 s g.1.0) in
    never (cc (g.2, e))

-- where keys differ, the version is that of the entry that the map finds among those that stand
pub version-stands : (now : ℕ) (t k : List ℕ) (x : code.Option Held) → Pairs OtherKey (state_of t).entries → HoldsAt now t k x
    → held_version x ≡ version_of (find (has_key k) (standing_at now (state_of t)).entries)
version-stands now t k x p g = still-held now t k x g ∙ ap version_of (sym (find-still k now (state_of t).entries p))

-- an entry that is found has the version held
module _ (t k : List ℕ) (i : ℕ) (x : code.Option Held) (g : held_version x ≡ version_of (held_at t k)) (e : FoundIs t k (Some i)) where
  version-found : held_version x ≡ some (entry_at t i).version
  version-found = g ∙ ap (λ o. version_of o) (found-held t k i e)

  pub found-version : {h : Held} → x ≡ Some h → Holds t k (Some (record { row = i; version = h.version }))
  found-version q = (e, cc (rw q at version-found))

  pub found-held-none : x ≡ None → ⊥
  found-held-none q = never (cc (rw q at version-found))

-- no more entries are judged by than are held; and they are those that stand, since no deadline is below the bound
pub judged-fewer : (now : ℕ) (t : List ℕ) → length (judged_by now t) ≤ length (state_of t).entries
unfolding judged_by
judged-fewer now t = go (is_due now t)
  where
    go : (b : Bool) → length (cond b (standing now (state_of t).entries) (state_of t).entries) ≤ length (state_of t).entries
    go true = fewer (expired now) (state_of t).entries
    go false = omega arith

pub judged-stands : (now : ℕ) (t : List ℕ) → Sound t → judged_by now t ≡ standing now (state_of t).entries
unfolding judged_by
judged-stands now t s = go (is_due now t) refl
  where
    go : (b : Bool) → is_due now t ≡ b → cond b (standing now (state_of t).entries) (state_of t).entries ≡ standing now (state_of t).entries
    go true e = refl
    go false e = sym (below-bound now (number_of t bound_index) (state_of t).entries (not_due now t s.layout.long e) s.layout.bound)

-- what is held goes by the entries alone
pub holds_same : (t u k : List ℕ) → (state_of u).entries ≡ (state_of t).entries → (x : code.Option Held) → Holds t k x → Holds u k x
unfolding entry_at
holds_same t u k e (Some h) g = rw e g
holds_same t u k e None g = rw e g

-- a change that is no store is not refused
pub not_refused : (st : State) (e : Option ℕ) (d : Change) → OneOf (0 ∷ 2 ∷ 3 ∷ []) (tag_of change-code.the_type d) → none ≡ refusal_of st e (as_change d)
unfolding refusal_of
not_refused st e c.Keep k = refl
not_refused st e c.Store k = absurd (miss (0 ∷ 2 ∷ 3 ∷ []) 1 tt k)
not_refused st e c.Drop k = refl
not_refused st e c.Empty k = refl
