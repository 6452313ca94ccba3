-- Two effects that are alike, and two calls of such effects. Assumes nothing.
use mathlib.Core.Path.{◌≡◌, refl, sym, ap, subst, ◌∙◌}
use mathlib.Core.List.{List}
use mathlib.Core.Option.{Option, none, some}
use Prim.Native.Nat.{ℕ}
use lib.ListN.{length}
use Rattle.map.specs.State.{State}
use Rattle.map.specs.Step as map-step
use Rattle.map.specs.Step.{answered}
use Rattle.map.specs.Reply.{Piece, flat}
use Rattle.map.proofs.Sent.{same_size}
use Rattle.table.specs.Memory.{state_of}
use Rattle.service.specs.Serve.{Effect}
use Rattle.service.specs.Stream.{Call, Done, Becomes, Does}
use Rattle.service.specs.Demand3.{Progress, ahead, wrote, gone, state_but, sent_but, Alike}
use Rattle.service.proofs.Decides.{is_sound}
use Rattle.service.proofs.Sounds.{both-sound}

pub answered-answer : {a b : map-step.Result} {s t : State} → answered a s ≡ answered b t → a ≡ b
answered-answer e = cc

pub answered-state : {a b : map-step.Result} {s t : State} → answered a s ≡ answered b t → s ≡ t
answered-state e = cc

module _ (u w : List ℕ) (len : length w ≡ length u) where
  -- one answer, and replies that differ in the value of the entry that the request wrote
  pub record Like (p : Progress) (e e' : Effect) : Type 0 where
    pub answer : e'.answer ≡ e.answer
    pub sent : e'.sent ≡ sent_but p w e.sent
    pub shows : sent_but p u e.sent ≡ e.sent

  pub like-ahead : (n : ℕ) (e e' : Effect) → e'.answer ≡ e.answer → e'.sent ≡ e.sent → Like (ahead n) e e'
  like-ahead n e e' a s = record { answer = a; sent = s; shows = refl }

  pub like-gone : (e e' : Effect) → e' ≡ e → Like gone e e'
  like-gone e e' q = record { answer = ap (λ (f : Effect). f.answer) q; sent = ap (λ (f : Effect). f.sent) q; shows = refl }

  size-kept : (p : Progress) (ps : List Piece) → sent_but p u ps ≡ ps → length (flat (sent_but p w ps)) ≡ length (flat ps)
  size-kept (ahead n) ps h = refl
  size-kept (wrote v) ps h = same_size v u w len ps h
  size-kept gone ps h = refl

  pub same_answer : (p : Progress) (e e' : Effect) (t t' l l' : List ℕ) (d d' : Done) → Like p e e' → Does e t l d → Does e' t' l' d'
      → d'.answer ≡ d.answer
  same_answer p e e' t t' l l' d d' a x y = y.answer ∙ (a.answer ∙ sym x.answer)

  pub alike : (p q : Progress) (e e' : Effect) (t t' : List ℕ) (c c' : Call) (d d' : Done) → Like p e e'
      → Does e t c.buffer d → Does e' t' c'.buffer d'
      → state_of d'.table ≡ state_but q w (state_of d.table) → state_but q u (state_of d.table) ≡ state_of d.table
      → Alike u w p q e c c' d d'
  alike p q e e' t t' c c' d d' a x y s h =
      record {
        answer = same_answer p e e' t t' c.buffer c'.buffer d d' a x y;
        size = y.size ∙ (rw a.sent (size-kept p e.sent a.shows) ∙ sym x.size);
        reply = x.buffer;
        reply' = rw a.sent at y.buffer;
        shows = a.shows;
        state = s;
        holds = h;
      }

-- tables of one state
pub record Same (t t' : List ℕ) : Type 0 where
  pub state : state_of t' ≡ state_of t
  pub sounds : is_sound t' ≡ is_sound t

pub same_next : (t t' : List ℕ) (n n' : Option State) (s s' : List ℕ) → Same t t' → n' ≡ n → Becomes t n s → Becomes t' n' s' → Same s s'
same_next t t' n n' s s' g e x y = go n x (subst (λ (m : Option State). Becomes t' m s') e y)
  where
    go : (m : Option State) → Becomes t m s → Becomes t' m s' → Same s s'
    go none p q = rw (p, q) g
    go (some st) p q = record { state = q.0 ∙ sym p.0; sounds = both-sound s' s q.1 p.1 }
