-- The parts where the answer says that name, key and value stand are those of the request that was read. Assumes nothing.
use mathlib.Core.Path.{◌≡◌, sym, subst, ◌∙◌}
use mathlib.Core.List.{List}
use Prim.Native.Nat.{ℕ, ◌+◌}
use native.Mathlib.Nat.{zero-add}
use lib.ListN.{length}
use Rattle.wire.specs.Codec.{whole, after, mapped, Bytes, read_at}
use Rattle.wire.specs.Field.{limited}
use Rattle.wire.proofs.Laws.{after-whole, sized, same_read, mapped-back}
use Rattle.wire.proofs.At.{at_front, at_exact, typed, halves}
use Rattle.wire.proofs.FieldLaws.{limited_laws}
use Rattle.field.specs.FieldRead.{limited_text, part_of, span_to}
use Rattle.field.proofs.Parts.{part-read, text-read, no_part}
use Rattle.message.specs.Arguments.{Shape, keyed, writes, writes_if, keyed_if, bare, bulk, shape_of, Args, args_of, name_limit, key_limit, value_limit}
use Rattle.message.specs.Request.{Request, request_in, request}
use Rattle.message.proofs.RequestLaws.{text_laws}
use Rattle.request_reader.specs.RequestRead.{as_request, front, options, Options, request_at}
use Rattle.std.specs.Prelude.{Result}
use Rattle.std.specs.Prelude as std
use Rattle.field.specs.declared.refusals.Refusal.{Refusal}
use Rattle.message.specs.declared.Request as code
use Rattle.request_reader.proofs.Read.{front_laws, options_laws, in_parts}

module _ (s : List ℕ) where
  module _ (b : Bytes s) where
    name-part : (v at : ℕ) (o : Options) (j : ℕ) → read_at (options v) s at ≡ whole o j
        → part_of s (span_to o.0 (at + length ((limited_text name_limit).enc o.0))) ≡ o.0
    unfolding options
    name-part v at o j e =
        let h = halves (limited_text name_limit) _ s at o j e in
        rw (← (at_exact (limited_text name_limit) (text_laws name_limit) s at o.0 h.mid b h.first)) (text-read s at name_limit o.0 h.mid h.first)

    record Stand (at : ℕ) (a : Args) (n : ℕ) : Type 0 where
      key : part_of s (span_to a.key (at + length ((limited key_limit).enc a.key))) ≡ a.key
      value : part_of s (span_to a.value n) ≡ a.value

    key-part : (at : ℕ) (k : List ℕ) (i : ℕ) → read_at (limited key_limit) s at ≡ whole k i → part_of s (span_to k (at + length ((limited key_limit).enc k))) ≡ k
    key-part at k i e = rw (← (at_exact (limited key_limit) (limited_laws key_limit) s at k i b e)) (part-read s at key_limit k i e)

    args_stand : (sh : Shape) (at : ℕ) (a : Args) (n : ℕ) → read_at (args_of sh) s at ≡ whole a n → Stand at a n
    unfolding args_of
    args_stand keyed at a n e =
        let x = typed _ _ _ _ s at a n e in
        subst (λ (y : Args). Stand at y n) x.same (record { key = key-part at _ _ x.read; value = no_part s n })
    args_stand writes at a n e =
        let x = typed _ _ _ _ s at a n e in
        let k = halves _ _ s at _ n x.read in
        let l = halves _ _ s _ _ n k.second in
        let m = halves _ _ s _ _ n l.second in
        subst (λ (y : Args). Stand at y n) x.same (record { key = key-part at _ _ k.first; value = part-read s _ value_limit _ n m.second })
    args_stand writes_if at a n e =
        let x = typed _ _ _ _ s at a n e in
        let k = halves _ _ s at _ n x.read in
        let l = halves _ _ s _ _ n k.second in
        let m = halves _ _ s _ _ n l.second in
        let v = halves _ _ s _ _ n m.second in
        subst (λ (y : Args). Stand at y n) x.same (record { key = key-part at _ _ k.first; value = part-read s _ value_limit _ n v.second })
    args_stand keyed_if at a n e =
        let x = typed _ _ _ _ s at a n e in
        let k = halves _ _ s at _ n x.read in
        subst (λ (y : Args). Stand at y n) x.same (record { key = key-part at _ _ k.first; value = no_part s n })
    args_stand bare at a n e =
        let x = typed _ _ _ _ s at a n e in
        subst (λ (y : Args). Stand at y n) x.same (record { key = no_part s _; value = no_part s n })
    args_stand (bulk most) at a n e =
        let x = typed _ _ _ _ s at a n e in
        subst (λ (y : Args). Stand at y n) x.same (record { key = no_part s _; value = no_part s n })

    shown : (m : Request) (n : ℕ) → request.dec s ≡ whole m n → request_in s (request_at m n) ≡ m
    unfolding request_at
    shown m n e =
        let x = after-whole (front.dec s) _ m n (sym (in_parts s) ∙ e) in
        let f = x.val in
        let y = after-whole (read_at (options f.version) s x.len) _ m n x.then in
        let z = after-whole (read_at (args_of (shape_of f.op)) s y.len) _ m n y.then in
        let g : length (front.enc f) ≡ x.len = sym (at_exact front front_laws s 0 f x.len b (at_front front s ∙ x.first) ∙ zero-add _) in
        let o = at_exact (options f.version) (options_laws f.version) s x.len y.val y.len b y.first in
        let a = args_stand (shape_of f.op) y.len z.val z.len z.first in
        let w : part_of s (span_to z.val.value n) ≡ z.val.value = rw (sized z.then) at a.value in
        subst (λ (q : Request). request_in s (request_at q n) ≡ q) (same_read z.then)
        (rw (g, ← o, name-part f.version x.len y.val y.len y.first, a.key, w))

    -- what reading finds, by the reader's answer
    pub request-in : (r x : Result (std.Option (code.Request × ℕ)) Refusal) → as_request r ≡ mapped request_at (request.dec s) → r ≡ x → request.dec s ≡ after (as_request x) (λ q n. whole (request_in s q) n)
    unfolding mapped
    request-in r x e p = sym (rw (← p, e) (mapped-back (request.dec s) request_at (λ q n. request_in s q) shown))
