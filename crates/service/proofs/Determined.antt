-- Answers, replies and states of a run are determined: two runs of the same calls on the same input and table look alike. Assumes nothing.
use mathlib.Core.Path.{◌≡◌, refl, sym, ap, ap₂, subst, ◌∙◌}
use mathlib.Core.List.{List, [], ◌∷◌, map}
use Prim.Native.Nat.{ℕ}
use lib.ListN.{length, drop}
use lib.Seq.{sets}
use Rattle.map.specs.Reply.{flat}
use Rattle.service.specs.Serve.{Effect}
use Rattle.service.specs.Stream.{Call, Done, Serves, Run, run_end, run_call}
use Rattle.service.specs.Demand3.{Seen, seen}
use Rattle.service.proofs.Sounds.{effect_in, does_in}
use Rattle.service.proofs.Like.{Same, same_next}

same_seen : (input t t' : List ℕ) (c : Call) (d d' : Done) → Same t t' → Serves input t c d → Serves input t' c d'
    → (seen d ≡ seen d') × Same d.table d'.table
same_seen input t t' c d d' g x' y' =
    let x = does_in x' in
    let y = does_in y' in
    let e : effect_in input t' c ≡ effect_in input t c = rw (g.sounds, g.state) in
    let z = same_next t t' (effect_in input t c).next (effect_in input t' c).next d.table d'.table g (ap (λ (f : Effect). f.next) e) x.table y.table in
    let a : d.answer ≡ d'.answer = x.answer ∙ (ap (λ (f : Effect). f.answer) (sym e) ∙ sym y.answer) in
    let n : d.size ≡ d'.size = x.size ∙ (ap (λ (f : Effect). length (flat f.sent)) (sym e) ∙ sym y.size) in
    let b : d.buffer ≡ d'.buffer = x.buffer ∙ (ap (λ (f : Effect). sets c.buffer 0 (flat f.sent)) (sym e) ∙ sym y.buffer) in
    ((λ i. record { answer = a i; size = n i; buffer = b i; state = sym z.state i }), z)

pub determined : (input t t' : List ℕ) (cs : List Call) (ds ds' : List Done) → Same t t' → Run input t cs ds → Run input t' cs ds' → map seen ds ≡ map seen ds'
determined input t t' [] [] [] g run_end run_end = refl
determined input t t' (c ∷ cs) (d ∷ ds) (d' ∷ ds') g (run_call x xs) (run_call y ys) =
    let z = same_seen input t t' c d d' g x y in
    let k : d'.answer.taken ≡ d.answer.taken = ap (λ (s : Seen). s.answer.taken) (sym z.0) in
    ap₂ ◌∷◌ z.0
    (determined (drop d.answer.taken input) d.table d'.table cs ds ds' z.1 xs
    (subst (λ (n : ℕ). Run (drop n input) d'.table cs ds') k ys))
determined input t t' [] [] (d' ∷ ds') g _ x10 = elim x10 [ ]
determined input t t' [] (d ∷ ds) _ g x7 _ = elim x7 [ ]
determined input t t' (c ∷ cs) [] _ g x6 _ = elim x6 [ ]
determined input t t' (c ∷ cs) (d ∷ ds) [] g _ x10 = elim x10 [ ]
