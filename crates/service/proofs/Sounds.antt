-- What a sound table tells of its state, and a call by whether its table is sound. Assumes nothing.
use mathlib.Core.Path.{◌≡◌, refl, sym, subst, ◌∙◌}
use mathlib.Core.List.{List, ◌∷◌}
use mathlib.Core.Bool.{Bool, true, false}
use Prim.Native.Nat.{ℕ, ◌≤◌}
use native.Mathlib.Omega.{arith}
use lib.ListN.{drop}
use Rattle.map.specs.Table.{Each}
use Rattle.map.proofs.Keeps.{below}
use Rattle.table.specs.Memory.{state_of, Sound}
use Rattle.table.specs.Found.{Tells}
use Rattle.service.specs.Serve.{Effect}
use Rattle.service.specs.Stream.{Call, Done, Does, effect_of, Serves, Run, run_call}
use Rattle.service.proofs.Decides.{dec_sound, is_yes, is_sound}

yes_it_is : {P : Type 0} (d : Dec P) → is_yes d ≡ true → P
yes_it_is (yes p) e = p
yes_it_is (no n) e = absurd (let z : ◌≡◌ {A = ℕ} 0 1 = cc in omega arith)

it_is_yes : {P : Type 0} (d : Dec P) → P → is_yes d ≡ true
it_is_yes (yes p) q = refl
it_is_yes (no n) q = absurd (n q)

pub is-sound : (t : List ℕ) → is_sound t ≡ true → Sound t
unfolding is_sound
is-sound t e = yes_it_is (dec_sound t) e

pub sound-is : (t : List ℕ) → Sound t → is_sound t ≡ true
unfolding is_sound
sound-is t s = it_is_yes (dec_sound t) s

pub tells-sound : (t : List ℕ) → Tells (is_sound t) (Sound t)
tells-sound t = (is-sound t, sound-is t)

pub told_same : (a b : Bool) {P : Type 0} → Tells a P → Tells b P → a ≡ b
told_same true b p q = sym (q.1 (p.0 refl))
told_same false true p q = p.1 (q.0 refl)
told_same false false p q = refl

pub both-sound : (t t' : List ℕ) → Sound t → Sound t' → is_sound t ≡ is_sound t'
both-sound t t' s s' = sound-is t s ∙ sym (sound-is t' s')

-- no entry has a version above the last one issued
pub bounded : (t : List ℕ) → Sound t → Each (λ e. e.version ≤ (state_of t).last) (state_of t).entries
bounded t s = below (state_of t) s.table

abbrev pub effect_in : List ℕ → List ℕ → Call → Effect
effect_in input t c = effect_of (is_sound t) input t c

pub does_in : {input t : List ℕ} {c : Call} {d : Done} → Serves input t c d → Does (effect_in input t c) t c.buffer d
does_in {input} {t} {c} {d} x =
    subst (λ (ok : Bool). Does (effect_of ok input t c) t c.buffer d) (told_same x.ok (is_sound t) x.tells (tells-sound t)) x.does

-- the first call of a run, and the run behind it
pub first-of : {input t : List ℕ} {c : Call} {cs : List Call} {d : Done} {ds : List Done} → Run input t (c ∷ cs) (d ∷ ds)
    → Does (effect_in input t c) t c.buffer d
first-of (run_call x xs) = does_in x

pub rest_of : {input t : List ℕ} {c : Call} {cs : List Call} {d : Done} {ds : List Done} → Run input t (c ∷ cs) (d ∷ ds)
    → Run (drop d.answer.taken input) d.table cs ds
rest_of (run_call x xs) = xs
