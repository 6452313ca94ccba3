-- The greatest length of a reply. Assumes nothing.
use mathlib.Core.Path.{◌≡◌, refl, subst}
use mathlib.Core.List.{List}
use mathlib.Core.Option.{Option, some}
use mathlib.Core.Bool.{Bool, true, false, cond, ◌&&◌}
use Prim.Native.Nat.{ℕ, ◌+◌, ◌-◌, ◌*◌, ◌≤◌, zero-le}
use native.Mathlib.Omega.{arith}
use lib.ListN.{length}
use lib.Dec.{eqb, leb, lit≤}
use borrow.Author.Tests.{leb-true, le-leb, eqb-true}
use Rattle.wire.specs.Codec.{Valid}
use Rattle.wire.proofs.Laws.{never, guard-valid}
use Rattle.wire.proofs.Basics.{pick}
use Rattle.statistics.proofs.Writing.{statistics-most}
use Rattle.message.specs.declared.Operation.{Operation}
use Rattle.message.specs.Arguments.{value_limit}
use Rattle.message.specs.Edition.{Edition}
use Rattle.message.specs.declared.Asked.{Asked}
use Rattle.message.specs.ReplyTable.{table, Body, nothing, old, old_none, value, versioned, text, statistics, entries, keys, errors, error_code, body_at, is_allowed, allowed}
use Rattle.message.specs.Payload.{text_limit, no_body, value_body, versioned_body, text_body, statistics_body, listed_body, fields_of, form_of}
use Rattle.message.specs.Reply.{Awaits, Reply, fields, message, is_awaited, statuses_of, reply, error_reply, longest_reply}
use Rattle.message.proofs.Every.{every, bodies, every_body}
use Rattle.message.proofs.ReplyLaws.{reply-is}
use Rattle.message.proofs.ListingLaws.{longest, listing-most}
use Rattle.message.proofs.Most.{Most, most-less, seq-most, guard-most, type_most, empty-most, byte-most, big_most, v_long-most, limited-most, text-most}

-- header and body
module _ (comes : ℕ → Bool) (statuses : ℕ → List (ℕ × Body)) (flag : Bool) (n : ℕ)
    (body : (op status : ℕ) → is_allowed (body_at status (statuses op)) ≡ true → Most (fields_of (form_of flag (allowed (body_at status (statuses op))))) n) where
  fields-most : Most (fields comes statuses flag) (1 + (9 + (1 + (1 + (1 + n)))))
  unfolding fields
  fields-most =
      seq-most (guard-most _ _ byte-most) λ _ _.
      seq-most v_long-most λ _ _.
      seq-most (guard-most _ _ byte-most) λ op _.
      seq-most (guard-most _ _ byte-most) λ status v.
      seq-most (guard-most _ _ byte-most) λ _ _. body op status (guard-valid _ _ _ status v).0

  pub message-most : Most (message comes statuses flag) (13 + n)
  unfolding message
  message-most = most-less (omega arith) (type_most _ _ _ fields-most)

no_body-most : Most no_body 0
unfolding no_body
no_body-most = type_most _ _ _ empty-most

value_body-most : Most (value_body value_limit) 258
unfolding value_body
value_body-most = type_most _ _ _ (limited-most value_limit 1 (lit≤ tt))

statistics_body-most : Most statistics_body 294
unfolding statistics_body
statistics_body-most = type_most _ _ _ (record { most = λ ns v. statistics-most ns v })

text_body-most : Most text_body 65
unfolding text_body
text_body-most = type_most _ _ _ (text-most text_limit 0 (lit≤ tt))

listed_body-most : (values : Bool) → Most (listed_body values) (1 + 128 * (1 + longest values))
unfolding listed_body
listed_body-most values = type_most _ _ _ (listing-most values)

-- the greatest length of a body
abbrev body_longest : Body → ℕ
body_longest nothing = 0
body_longest old = 258
body_longest old_none = 258
body_longest value = 258
body_longest versioned = 266
body_longest text = 65
body_longest statistics = 294
body_longest entries = 41_473
body_longest keys = 8_449

body-most : (flag : Bool) (b : Body) → Most (fields_of (form_of flag b)) (body_longest b)
unfolding fields_of value_body versioned_body
body-most flag nothing = no_body-most
body-most true old = value_body-most
body-most false old = most-less (lit≤ tt) no_body-most
body-most true old_none = most-less (lit≤ tt) (type_most _ _ _ (limited-most 0 0 (lit≤ tt)))
body-most false old_none = most-less (lit≤ tt) no_body-most
body-most flag value = value_body-most
body-most flag versioned = type_most _ _ _ (seq-most (big_most 8) λ _ _. limited-most value_limit 1 (lit≤ tt))
body-most flag text = text_body-most
body-most flag statistics = statistics_body-most
body-most flag entries = listed_body-most true
body-most flag keys = listed_body-most false

-- none of the statuses carries more than n bytes
abbrev short : ℕ → Body → Bool
short n b = leb (body_longest b) n

-- the greatest length of what a reply to an operation carries, behind 13 bytes
abbrev most_carried : Operation → ℕ
most_carried o = longest_reply o - 13

carried-is : (o : Operation) → 13 + most_carried o ≡ longest_reply o
carried-is o = eqb-true (13 + most_carried o) (longest_reply o) (every (λ o. eqb (13 + most_carried o) (longest_reply o)) refl o)

under_table : (with_old : Bool) (o : Operation) → bodies (short (most_carried o)) (table with_old o) ≡ true
under_table true o = every (λ o. bodies (short (most_carried o)) (table true o)) refl o
under_table false o = every (λ o. bodies (short (most_carried o)) (table false o)) refl o

under_statuses : (with_old : Bool) (o : Operation) (op s : ℕ) → body_longest (allowed (body_at s (statuses_of with_old o op))) ≤ most_carried o
under_statuses with_old o op s =
    leb-true (body_longest (allowed (body_at s (statuses_of with_old o op)))) (most_carried o)
    (every_body (short (most_carried o)) s (statuses_of with_old o op) (le-leb 0 (most_carried o) zero-le)
    (pick (λ rs. bodies (short (most_carried o)) rs ≡ true) (eqb op error_code) (λ e. every (λ o. bodies (short (most_carried o)) errors) refl o)
    (under_table with_old o)))

pub reply-most : {a : Asked} {e : Edition} {o : Operation} → Awaits a e o → (r : Reply) → Valid (reply a) r → length ((reply a).enc r) ≤ longest_reply o
reply-most {a} {e} {o} s r v =
    let t = e.old_statuses && a.flag in
    let m = message-most (is_awaited o) (statuses_of t o) a.flag (most_carried o) (λ op k z. most-less (under_statuses t o op k) (body-most a.flag (allowed (body_at k (statuses_of t o op))))) in
    subst (λ n. length ((reply a).enc r) ≤ n) (carried-is o) (rw (reply-is s) (m.most r (rw (reply-is s) at v)))

-- each error carries a text
record Told (x : Option Body) : Type 0 where
  is : is_allowed x ≡ true → allowed x ≡ text

or : (t : Bool) {x : Option Body} → Told x → Told (cond t (some text) x)
or t h = pick Told t (λ p. record { is = λ e. refl }) h

told : (s : ℕ) → Told (body_at s errors)
unfolding body_at
told s =
    or (eqb s 0x81) (or (eqb s 0x82) (or (eqb s 0x83) (or (eqb s 0x84) (or (eqb s 0x85) (or (eqb s 0x86) (record { is = λ e. never (cc) }))))))

pub error-text : (s : ℕ) → is_allowed (body_at s errors) ≡ true → allowed (body_at s errors) ≡ text
error-text s = (told s).is

pub error-most : (r : Reply) → Valid error_reply r → length (error_reply.enc r) ≤ 78
unfolding error_reply fields_of
error-most = (message-most (λ op. eqb op error_code) (λ op. errors) false 65 (λ op s e. rw (error-text s e) text_body-most)).most
