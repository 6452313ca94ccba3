-- A list of bytes that begins another: so do the lists of requests. Assumes nothing.
use mathlib.Core.Path.{◌≡◌, refl, sym, ap, ap₂, ◌∙◌}
use mathlib.Core.List.{List, [], ◌∷◌, ◌++◌, append_assoc}
use Prim.Native.Nat.{ℕ}
use lib.ListN.{length}
use lib.Seq.{drop-append_seam}
use Rattle.wire.specs.Codec.{whole, Valid}
use Rattle.wire.proofs.Laws.{never, same_read}
use Rattle.message.specs.Request.{Request, request}
use Rattle.message.specs.Written.{written, WellFormed, Begins}
use Rattle.message.proofs.RequestLaws.{request_laws, request-starts}

-- a written request has a byte
pub some_byte : (r : Request) → Valid request r → (t : List ℕ) → request.enc r ++ t ≡ [] → ⊥
some_byte r v t e =
    let p : request.dec [] ≡ whole r (length (request.enc r)) = rw e at (request_laws.round r t v) in
    never (cc request-starts)

-- two written requests that begin the same list are one
same_first : (r s : Request) (t u : List ℕ) → Valid request r → Valid request s → request.enc r ++ t ≡ request.enc s ++ u → (r ≡ s) × (t ≡ u)
same_first r s t u v w e =
    let p = request_laws.round r t v in
    let q = request_laws.round s u w in
    let h : whole r (length (request.enc r)) ≡ whole s (length (request.enc s)) = cc in
    let i : r ≡ s = same_read h in
    let j : request.enc r ≡ request.enc s = ap (λ (x : Request). request.enc x) i in
    (i, sym (drop-append_seam (request.enc r) t) ∙ rw (e, j) (drop-append_seam (request.enc s) u))

pub lists : (rs ss : List Request) → WellFormed rs → WellFormed ss → Begins (written rs) (written ss) → Begins rs ss
unfolding written
lists [] ss v w b = record { behind = ss; same = refl }
lists (r ∷ rs) [] v w b =
    absurd (some_byte r v.0 (written rs ++ b.behind) (sym (append_assoc (request.enc r) (written rs) b.behind) ∙ sym b.same))
lists (r ∷ rs) (s ∷ ss) v w b =
    let x = same_first s r (written ss) (written rs ++ b.behind) w.0 v.0 (b.same ∙ append_assoc (request.enc r) (written rs) b.behind) in
    let y = lists rs ss v.1 w.1 (record { behind = b.behind; same = x.1 }) in
    record { behind = y.behind; same = ap₂ ◌∷◌ x.0 y.same }
