-- An error reply is a reply to every served operation, and the refusals 1 to 11 have one. Assumes nothing.
use mathlib.Core.Path.{◌≡◌, refl}
use mathlib.Core.List.{List, [], ◌∷◌}
use mathlib.Core.Bool.{Bool, true, false, cond, ◌&&◌, ◌||◌}
use Prim.Native.Nat.{ℕ, suc, ◌+◌, ◌≤◌, ◌<◌}
use native.Mathlib.Omega.{arith}
use lib.ListN.{length}
use lib.Dec.{eqb}
use borrow.Author.Tests.{eqb-true, eqb-false}
use Rattle.wire.specs.Codec.{Valid, is_bytes, byte, raw, guard, seq, as_type}
use Rattle.wire.specs.Number.{number, v_int, v_long}
use Rattle.wire.specs.Field.{limited}
use Rattle.wire.proofs.Laws.{both, guard-valid, guard_good, type_good}
use Rattle.wire.proofs.NumberWrite.{number-good}
use Rattle.text.specs.Text as t
use Rattle.text.specs.Text.{is_text, text_after, step_of, lead_of}
use Rattle.field.specs.FieldRead.{limited_text}
use Rattle.message.specs.declared.Operation.{Operation}
use Rattle.message.specs.declared.Asked.{Asked}
use Rattle.message.specs.Edition.{Edition}
use Rattle.message.specs.Operation.{code_of}
use Rattle.message.specs.ReplyTable.{errors, error_code, body_at, is_allowed, allowed}
use Rattle.message.specs.Payload.{text_limit, payload, text_body, fields_of, form_of}
use Rattle.message.specs.Reply.{Reply, fields, message, is_awaited, statuses_of, reply, Awaits, error_reply}
use Rattle.message.specs.Refusal.{WireError, error_table, error_in, refusal}
use Rattle.message.proofs.ReplyParts.{Parts, parts, whole-reply}
use Rattle.message.proofs.ReplyLaws.{reply-is}
use Rattle.message.proofs.ReplySize.{error-text}

or_true : (x : Bool) → (x || true) ≡ true
or_true true = refl
or_true false = refl

module _ (with_old : Bool) (o : Operation) (flag : Bool) (r : Reply) (e : eqb r.op error_code ≡ true) (t : is_allowed (body_at r.status errors) ≡ true) where
  comes : is_awaited o r.op ≡ true
  comes = rw e (or_true (eqb r.op (code_of o + 1)))

  error_statuses : statuses_of with_old o r.op ≡ errors
  error_statuses = rw e

  -- what an error carries does not go by the flag
  error-body : fields_of (form_of flag (allowed (body_at r.status (statuses_of with_old o r.op)))) ≡ fields_of (form_of false (allowed (body_at r.status errors)))
  unfolding fields_of
  error-body = rw (error_statuses, error-text r.status t)

  error-parts : Parts (λ op. eqb op error_code) (λ op. errors) false r → Parts (is_awaited o) (statuses_of with_old o) flag r
  error-parts p =
      record {
        id = p.id;
        op = guard_good (is_awaited o) 4 byte comes (guard-valid _ 4 byte r.op p.op).1;
        status = rw error_statuses p.status;
        body = rw error-body p.body;
      }

  error-same : (message (is_awaited o) (statuses_of with_old o) flag).enc r ≡ error_reply.enc r
  unfolding message error_reply fields seq guard as_type
  error-same = rw error-body

pub error-reply : {a : Asked} {e : Edition} {o : Operation} → Awaits a e o → (r : Reply) → Valid error_reply r
    → Valid (reply a) r × ((reply a).enc r ≡ error_reply.enc r)
unfolding error_reply
error-reply {a} {e} {o} s r v =
    let p = parts (λ op. eqb op error_code) (λ op. errors) false r v in
    let x = (guard-valid _ 4 byte r.op p.op).0 in
    let y = (guard-valid _ 8 byte r.status p.status).0 in
    let t = e.old_statuses && a.flag in
    rw (reply-is s) (whole-reply (is_awaited o) (statuses_of t o) a.flag r (error-parts t o a.flag r x y p), error-same t o a.flag r x y)

-- an error reply of any id, status and text
error-good : (id s : ℕ) (t : List ℕ) → id < 0x8000_0000_0000_0000 → Valid (guard (λ s. is_allowed (body_at s errors)) 8 byte) s → Valid (limited_text text_limit) t
    → Valid error_reply (record { id = id; op = error_code; status = s; payload = payload 0 [] t })
unfolding error_reply fields_of text_body v_long guard byte
error-good id s t h v w =
    whole-reply (λ op. eqb op error_code) (λ op. errors) false _
    (record {
      id = number-good 2 127 8 0 id (omega arith) h;
      op = refl;
      status = v;
      body = rw (error-text s (guard-valid (λ s. is_allowed (body_at s errors)) 8 byte s v).0) (type_good _ _ _ _ refl w);
    })

-- errors numbered from n on, each with a status and a text that an error reply can carry
record Fit (w : WireError) : Type 0 where
  status : Valid (guard (λ s. is_allowed (body_at s errors)) 8 byte) w.status
  text : Valid (limited_text text_limit) w.text

unfoldable fit : WireError → Bool
fit w = (guard (λ s. is_allowed (body_at s errors)) 8 byte).ok w.status && (limited_text text_limit).ok w.text

unfoldable numbered : ℕ → List WireError → Bool
numbered n [] = true
numbered n (w ∷ ws) = eqb w.number n && (fit w && numbered (suc n) ws)

fit_true : (w : WireError) → fit w ≡ true → Fit w
unfolding fit
fit_true w e = let x = both _ _ e in record { status = x.0; text = x.1 }

error-fit : (k n : ℕ) (ws : List WireError) → numbered n ws ≡ true → n ≤ k → k < n + length ws → Fit (error_in k ws)
unfolding error_in numbered
error-fit k n [] t l u = absurd (omega arith)
error-fit k n (w ∷ ws) t l u =
    let x = both (eqb w.number n) (fit w && numbered (suc n) ws) t in
    let y = both (fit w) (numbered (suc n) ws) x.1 in
    go (eqb k w.number) refl (eqb-true w.number n x.0) (fit_true w y.0) (error-fit k (suc n) ws y.1)
  where
    go : (b : Bool) → eqb k w.number ≡ b → w.number ≡ n → Fit w → (suc n ≤ k → k < suc n + length ws → Fit (error_in k ws)) → Fit (cond b w (error_in k ws))
    go true e q f ih = f
    go false e q f ih = ih (omega (arith, eqb-false k w.number e)) (omega arith)

errors-numbered : numbered 1 error_table ≡ true
unfolding numbered fit error_table body_at guard byte limited_text limited as_type seq raw v_int number is_bytes is_text text_after step_of lead_of t.range_of t.table
errors-numbered = refl

errors-count : length error_table ≡ 11
unfolding error_table
errors-count = refl

pub refusal-good : (k id : ℕ) → 1 ≤ k → k ≤ 11 → id < 0x8000_0000_0000_0000 → Valid error_reply (refusal k id)
unfolding refusal
refusal-good k id l u h =
    let f = error-fit k 1 error_table errors-numbered l (omega (arith, errors-count)) in
    error-good id (error_in k error_table).status (error_in k error_table).text h f.status f.text
