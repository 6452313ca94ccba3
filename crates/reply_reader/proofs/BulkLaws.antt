-- Which replies are bulk replies: by their operation, and by the form of their body. Assumes nothing.
use mathlib.Core.Path.{◌≡◌, refl, sym, ap, ◌∙◌}
use mathlib.Core.List.{List, [], ◌∷◌, append-nil}
use mathlib.Core.Option.{none, some}
use mathlib.Core.Bool.{Bool, true, false, cond, ◌||◌}
use Prim.Native.Nat.{ℕ, ◌+◌, ◌-◌, ◌≤◌}
use native.Mathlib.Omega.{arith}
use lib.ListN.{length, drop}
use lib.Dec.{eqb}
use borrow.Author.Tests.{eqb-true, ne_eqb}
use Rattle.wire.specs.Codec.{whole, mapped, Valid, Bytes, read_at}
use Rattle.wire.proofs.Laws.{never, after-whole, sized}
use Rattle.wire.proofs.At.{at_read, at_exact}
use Rattle.field.specs.FieldRead.{span_to}
use Rattle.message.specs.declared.Operation.{Operation}
use Rattle.message.specs.declared.Operation.TheVariants.{Put, Get, PutIfAbsent, Replace, ReplaceIfUnmodified, Remove, RemoveIfUnmodified, ContainsKey, GetWithVersion, Clear, Stats, Ping, BulkGet, BulkGetKeys}
use Rattle.message.specs.Operation.{code_of}
use Rattle.message.specs.Arguments.{value_limit}
use Rattle.message.specs.ReplyTable.{Body, table, errors, error_code, body_at, is_allowed, allowed}
use Rattle.message.specs.Payload.{form_of, old_form}
use Rattle.message.specs.Reply.{is_awaited, statuses_of}
use Rattle.message.specs.Listing.{listing}
use Rattle.message.proofs.ListingLaws.{listing_laws, listing-starts}
use Rattle.reply_reader.specs.ReplyRead.{bulk_of, listed_of}

-- what holds of every body of the rows holds of an allowed one
abbrev All : (Body → Type 0) → List (ℕ × Body) → Type 0
All P [] = Unit {0}
All P (r ∷ rs) = P r.1 × All P rs

all-at : (P : Body → Type 0) (s : ℕ) (rs : List (ℕ × Body)) → All P rs → is_allowed (body_at s rs) ≡ true → P (allowed (body_at s rs))
unfolding body_at
all-at P s [] a e = never (cc)
all-at P s (r ∷ rs) a e = go (eqb s r.0) e (all-at P s rs a.1)
  where
    go : (t : Bool) → is_allowed (cond t (some r.1) (body_at s rs)) ≡ true → (is_allowed (body_at s rs) ≡ true → P (allowed (body_at s rs)))
        → P (allowed (cond t (some r.1) (body_at s rs)))
    go true e f = a.0
    go false e f = f e

old-is : (flag : Bool) (lim : ℕ) → listed_of (old_form flag lim) ≡ none
old-is true lim = refl
old-is false lim = refl

left : (x : Bool) → (x || false) ≡ true → x ≡ true
left true h = refl
left false h = h

module _ (flag : Bool) where
  -- a body of entries is in the rows of its operation alone
  abbrev Told : ℕ → Body → Type 0
  Told op b = listed_of (form_of flag b) ≡ bulk_of op

  one : listed_of (old_form flag value_limit) ≡ none
  one = old-is flag value_limit

  nil : listed_of (old_form flag 0) ≡ none
  nil = old-is flag 0

  told : (with_old : Bool) (o : Operation) → All (Told (code_of o + 1)) (table with_old o)
  unfolding bulk_of
  told true Put = (refl, (refl, tt))
  told false Put = (one, tt)
  told with_old Get = (refl, (refl, tt))
  told true PutIfAbsent = (refl, (refl, tt))
  told false PutIfAbsent = (nil, (one, tt))
  told true Replace = (refl, (refl, tt))
  told false Replace = (one, (nil, tt))
  told true ReplaceIfUnmodified = (refl, (refl, (refl, tt)))
  told false ReplaceIfUnmodified = (one, (nil, (nil, tt)))
  told true Remove = (refl, (refl, tt))
  told false Remove = (one, (nil, tt))
  told true RemoveIfUnmodified = (refl, (refl, (refl, tt)))
  told false RemoveIfUnmodified = (one, (nil, (nil, tt)))
  told with_old ContainsKey = (refl, (refl, tt))
  told with_old GetWithVersion = (refl, (refl, tt))
  told with_old Clear = (refl, tt)
  told with_old Stats = (refl, tt)
  told with_old Ping = (refl, tt)
  told with_old BulkGet = (refl, tt)
  told with_old BulkGetKeys = (refl, tt)

  told-error : All (Told error_code) errors
  unfolding bulk_of
  told-error = (refl, (refl, (refl, (refl, (refl, (refl, tt))))))

  pub bulk-form : (with_old : Bool) (o : Operation) (op s : ℕ) → is_awaited o op ≡ true → is_allowed (body_at s (statuses_of with_old o op)) ≡ true
      → bulk_of op ≡ listed_of (form_of flag (allowed (body_at s (statuses_of with_old o op))))
  bulk-form with_old o op s w a = sym (go (eqb op error_code) refl w a)
    where
      go : (t : Bool) → eqb op error_code ≡ t → (eqb op (code_of o + 1) || t) ≡ true → is_allowed (body_at s (cond t errors (table with_old o))) ≡ true
          → listed_of (form_of flag (allowed (body_at s (cond t errors (table with_old o))))) ≡ bulk_of op
      go true e w a = all-at (Told error_code) s errors told-error a ∙ ap bulk_of (sym (eqb-true op error_code e))
      go false e w a = all-at (Told (code_of o + 1)) s (table with_old o) (told with_old o) a ∙ ap bulk_of (sym (eqb-true op (code_of o + 1) (left (eqb op (code_of o + 1)) w)))

-- the bytes of entries: there is one, and they read back
module _ (values : Bool) where
  starts : (bs : List ℕ) (es : List (List ℕ × List ℕ)) (n : ℕ) → (listing values).dec bs ≡ whole es n → length bs ≡ 0 → ⊥
  starts [] es n e h = let f = listing-starts values in never (cc)
  starts (b ∷ bs) es n e h = omega arith

  pub reads-back : (es : List (List ℕ × List ℕ)) → Valid (listing values) es → (listing values).dec ((listing values).enc es) ≡ whole es (length ((listing values).enc es))
  reads-back es v = rw append-nil at ((listing_laws values).round es [] v)

  -- entries that were read stand from a place to the one behind them
  pub span_here : (s : List ℕ) (at : ℕ) (es : List (List ℕ × List ℕ)) (j : ℕ) → Bytes s → read_at (listing values) s at ≡ whole es j
      → span_to ((listing values).enc es) j ≡ record { start = at; len = j - at }
  unfolding span_to
  span_here s at es j b e =
      let v = (at_read (listing values) (listing_laws values) s at es j b e).good in
      let x = at_exact (listing values) (listing_laws values) s at es j b e in
      let p : j - length ((listing values).enc es) ≡ at = omega arith in
      let q : length ((listing values).enc es) ≡ j - at = omega arith in
      rw (ne_eqb (length ((listing values).enc es)) 0 (starts ((listing values).enc es) es _ (reads-back es v)), p, q)

  -- they end behind their place
  pub ends-behind : (s : List ℕ) (at k j : ℕ) → whole k j ≡ mapped (λ es n. length es) (read_at (listing values) s at) → at ≤ j
  unfolding mapped read_at
  ends-behind s at k j e =
      let x = after-whole (read_at (listing values) s at) _ k j (sym e) in
      let y = after-whole ((listing values).dec (drop at s)) _ x.val x.len x.first in
      omega (arith, sized x.then, sized y.then)
