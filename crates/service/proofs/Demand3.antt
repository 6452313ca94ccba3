-- The proof of the claim about lists of requests and streams. Assumes nothing.
use mathlib.Core.Path.{◌≡◌, refl, sym, subst, ◌∙◌}
use mathlib.Core.List.{List, [], ◌∷◌, ◌++◌, append_assoc}
use Prim.Native.Nat.{ℕ}
use lib.ListN.{length}
use Rattle.wire.specs.Codec.{Valid, Bytes}
use Rattle.message.specs.Request.{Request, request}
use Rattle.message.specs.Value.{with_value}
use Rattle.message.specs.Written.{written, WellFormed}
use Rattle.message.proofs.Lists.{lists}
use Rattle.message.proofs.Value.{value-valid, value-last}
use Rattle.service.specs.Stream.{Call, Done, Run}
use Rattle.service.specs.Demand3.{ahead, SameCalls, Independent, SameBut, Demand3}
use Rattle.service.proofs.Served.{served-calls}
use Rattle.service.proofs.Like.{Same}
use Rattle.service.proofs.Ahead.{ahead_independent}

split : (a : List Request) (r : Request) (b : List Request) → WellFormed (a ++ (r ∷ b)) → WellFormed a × Valid request r
split [] r b v = (tt, v.0)
split (x ∷ a) r b v = let z = split a r b v.1 in ((v.0, z.0), z.1)

-- the input up to the request, the request, and what follows
apart : (a : List Request) (r : Request) (b : List Request) (tail : List ℕ)
    → written (a ++ (r ∷ b)) ++ tail ≡ written a ++ (request.enc r ++ (written b ++ tail))
unfolding written
apart [] r b tail = append_assoc (request.enc r) (written b) tail
apart (x ∷ a) r b tail =
    append_assoc (request.enc x) (written (a ++ (r ∷ b))) tail ∙ (rw (apart a r b tail) (sym (append_assoc (request.enc x) (written a) (request.enc r ++ (written b ++ tail)))))

-- from tables of one state
pub values-from : (before behind : List Request) (r : Request) (w tail table table' : List ℕ) (calls calls' : List Call) (dones dones' : List Done)
    → WellFormed (before ++ (r ∷ behind)) → length w ≡ length r.args.value → Bytes w → Same table table' → SameCalls calls calls'
    → Run (written (before ++ (r ∷ behind)) ++ tail) table calls dones
    → Run (written (before ++ (with_value w r ∷ behind)) ++ tail) table' calls' dones'
    → Independent r.args.value w (ahead (length before)) (written (before ++ (r ∷ behind)) ++ tail) table calls calls' dones dones'
values-from before behind r w tail table table' cs cs' ds ds' v len b g m x y =
    let z = split before r behind v in
    subst (λ (input : List ℕ). Independent r.args.value w (ahead (length before)) input table cs cs' ds ds') (sym (apart before r behind tail))
    (ahead_independent r w len z.1 (value-valid r w z.1 len b) (written behind ++ tail) before z.0 table table' cs cs' ds ds' g m
    (subst (λ (input : List ℕ). Run input table cs ds) (apart before r behind tail) x)
    (subst (λ (input : List ℕ). Run input table' cs' ds') (apart before (with_value w r) behind tail) y))

values : (before behind : List Request) (r : Request) (w tail table : List ℕ) (calls calls' : List Call) (dones dones' : List Done)
    → WellFormed (before ++ (r ∷ behind)) → length w ≡ length r.args.value → Bytes w → SameCalls calls calls'
    → Run (written (before ++ (r ∷ behind)) ++ tail) table calls dones
    → Run (written (before ++ (with_value w r ∷ behind)) ++ tail) table calls' dones'
    → Independent r.args.value w (ahead (length before)) (written (before ++ (r ∷ behind)) ++ tail) table calls calls' dones dones'
values before behind r w tail table cs cs' ds ds' v len b m x y =
    values-from before behind r w tail table table cs cs' ds ds' v len b (record { state = refl; sounds = refl }) m x y

around : (f x l u b : List ℕ) → x ≡ l ++ u → f ++ (x ++ b) ≡ (f ++ l) ++ (u ++ b)
around f x l u b e = rw (e, append_assoc l u b, append_assoc f l (u ++ b))

changed : (before behind : List Request) (r : Request) (w tail : List ℕ) → WellFormed (before ++ (r ∷ behind)) → length w ≡ length r.args.value
    → SameBut r.args.value w (written (before ++ (r ∷ behind)) ++ tail) (written (before ++ (with_value w r ∷ behind)) ++ tail)
changed before behind r w tail v len =
    let z = value-last r w (split before r behind v).1 len in
    let b = written behind ++ tail in
    record {
      front = written before ++ z.lead;
      back = b;
      this = apart before r behind tail ∙ around (written before) (request.enc r) z.lead r.args.value b z.this;
      other = apart before (with_value w r) behind tail ∙ around (written before) (request.enc (with_value w r)) z.lead w b z.other;
    }

pub demand3 : Demand3
demand3 = record { lists = lists; changed = changed; served = served-calls; values = values }
