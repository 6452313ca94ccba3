-- What a computed test says of every operation, and of every body that a status has. Assumes nothing.
use mathlib.Core.Path.{◌≡◌, refl, subst}
use mathlib.Core.List.{List, [], ◌∷◌}
use mathlib.Core.Logic.{◌⊎◌, inl, inr}
use mathlib.Core.Bool.{Bool, true, ◌&&◌}
use mathlib.Core.Option.{Option}
use Prim.Native.Nat.{ℕ, ◌+◌, ◌<◌}
use native.Mathlib.Omega.{arith}
use lib.Dec.{eqb, ltb}
use borrow.Author.Tests.{ne_eqb, ltb-true}
use Rattle.wire.proofs.Laws.{both}
use Rattle.wire.proofs.Basics.{pick}
use Rattle.message.specs.declared.Operation.{Operation}
use Rattle.message.specs.declared.Operation.TheVariants.{Put, Get, PutIfAbsent, Replace, ReplaceIfUnmodified, Remove, RemoveIfUnmodified, ContainsKey, GetWithVersion, Clear, Stats, Ping, BulkGet, BulkGetKeys}
use Rattle.message.specs.Operation.{code_of}
use Rattle.message.specs.ReplyTable.{Body, nothing, table, body_at, allowed}
use Rattle.message.specs.Reply.{statuses_of}

abbrev pub operations : List Operation
operations = Put ∷ Get ∷ PutIfAbsent ∷ Replace ∷ ReplaceIfUnmodified ∷ Remove ∷ RemoveIfUnmodified ∷ ContainsKey ∷ GetWithVersion ∷ Clear ∷ Stats ∷ Ping ∷ BulkGet ∷ BulkGetKeys ∷ []

abbrev In : Operation → List Operation → Type 0
In o [] = ⊥
In o (x ∷ os) = (x ≡ o) ⊎ In o os

listed : (o : Operation) → In o operations
listed Put = inl refl
listed Get = inr (inl refl)
listed PutIfAbsent = inr (inr (inl refl))
listed Replace = inr (inr (inr (inl refl)))
listed ReplaceIfUnmodified = inr (inr (inr (inr (inl refl))))
listed Remove = inr (inr (inr (inr (inr (inl refl)))))
listed RemoveIfUnmodified = inr (inr (inr (inr (inr (inr (inl refl))))))
listed ContainsKey = inr (inr (inr (inr (inr (inr (inr (inl refl)))))))
listed GetWithVersion = inr (inr (inr (inr (inr (inr (inr (inr (inl refl))))))))
listed Clear = inr (inr (inr (inr (inr (inr (inr (inr (inr (inl refl)))))))))
listed Stats = inr (inr (inr (inr (inr (inr (inr (inr (inr (inr (inl refl))))))))))
listed Ping = inr (inr (inr (inr (inr (inr (inr (inr (inr (inr (inr (inl refl)))))))))))
listed BulkGet = inr (inr (inr (inr (inr (inr (inr (inr (inr (inr (inr (inr (inl refl))))))))))))
listed BulkGetKeys = inr (inr (inr (inr (inr (inr (inr (inr (inr (inr (inr (inr (inr (inl refl)))))))))))))

-- each operation of a list passes a test
abbrev pub pass : (Operation → Bool) → List Operation → Bool
pass test [] = true
pass test (o ∷ os) = test o && pass test os

one : (test : Operation → Bool) (os : List Operation) (o : Operation) → pass test os ≡ true → In o os → test o ≡ true
one test [] o h i = absurd i
one test (x ∷ os) o h (inl e) = subst (λ (y : Operation). test y ≡ true) e (both (test x) (pass test os) h).0
one test (x ∷ os) o h (inr i) = one test os o (both (test x) (pass test os) h).1 i

pub every : (test : Operation → Bool) → pass test operations ≡ true → (o : Operation) → test o ≡ true
every test h o = one test operations o h (listed o)

-- each body of a list passes a test: so does that of any status
abbrev pub bodies : (Body → Bool) → List (ℕ × Body) → Bool
bodies test [] = true
bodies test (r ∷ rs) = test r.1 && bodies test rs

pub every_body : (test : Body → Bool) (s : ℕ) (rs : List (ℕ × Body)) → test nothing ≡ true → bodies test rs ≡ true → test (allowed (body_at s rs)) ≡ true
unfolding body_at
every_body test s [] n h = n
every_body test s (r ∷ rs) n h =
    let w = both (test r.1) (bodies test rs) h in
    pick (λ (x : Option Body). test (allowed x) ≡ true) (eqb s r.0) (λ e. w.0) (every_body test s rs n w.1)

pub code-small : (o : Operation) → code_of o < 0x1e
code-small o = ltb-true (code_of o) 0x1e (every (λ o. ltb (code_of o) 0x1e) refl o)

-- the statuses of a reply to an operation are the operation's
pub statuses_are : (with_old : Bool) (o : Operation) → statuses_of with_old o (code_of o + 1) ≡ table with_old o
statuses_are with_old o = rw (ne_eqb (code_of o + 1) 0x50 (λ e. omega (arith, code-small o)))
