-- What the tests of given numbers say, and that a code fits. Assumes nothing.
use mathlib.Core.Path.{◌≡◌, refl, sym, ap, ◌∙◌}
use mathlib.Core.List.{List, [], ◌∷◌}
use mathlib.Core.Bool.{Bool, true, false, cond}
use mathlib.Core.Option.{Option}
use mathlib.Core.Logic.{⊎_elim}
use Prim.Native.Nat.{ℕ, ◌+◌, ◌-◌, ◌≤◌, ◌<◌, ◌^◌}
use native.Mathlib.Omega.{arith}
use lib.ListN.{length, drop, get_or, length-drop}
use lib.Dec.{leb, eqb}
use borrow.Author.Tests.{leb-true, le-leb, lt-leb}
use Rattle.wire.specs.Codec.{Read, whole, more, refused, after, mapped, read_at, Codec}
use Rattle.wire.specs.Listed.{item}
use Rattle.wire.specs.Write.{Sent, written, kept, sent, send}
use Rattle.wire.proofs.Laws.{Laws, both, after-whole, sized}
use Rattle.wire.proofs.ListedLaws.{item_laws}
use Rattle.field.specs.declared.Span.{Span}
use Rattle.message.specs.Listing.{item_of}
use Rattle.message.specs.Operation.{code_of}
use Rattle.message.specs.Reply.{bulk_operation}
use Rattle.message.proofs.ListingLaws.{item_of_laws}
use Rattle.listing.specs.EntryRead.{item_at}
use Rattle.table.specs.Memory.{state_of}
use Rattle.table.proofs.Lists.{lt-or_ge}
use Rattle.map.specs.KeyListing.{listing_body, list_keys}
use Rattle.message.specs.Arguments.{is_empty}
use Rattle.order.specs.Lists.{Lists}
use Rattle.stored.specs.File.{form1, file}
use Rattle.stored.specs.StoreLoad.{Storing}
use Rattle.exports.specs.Codes.{sent_code, tell, in_room, IfRoom}
use Rattle.exports.specs.Messages.{entry_from, is_head, HeadFits, is_reply_head, ReplyHeadFits}

pub head_fits : (ns : List ℕ) → is_head ns ≡ true → HeadFits ns
head_fits ns e =
    let a = both (leb 10 (length ns)) _ e in
    let b = both (leb (get_or ns 1 0) 255) _ a.1 in
    let d = both (leb (get_or ns 2 0) 255) _ b.1 in
    record { long = leb-true _ _ a.0; version = leb-true _ _ b.0; op = leb-true _ _ d.0; intelligence = leb-true _ _ d.1 }

pub reply_head_fits : (ns : List ℕ) → is_reply_head ns ≡ true → ReplyHeadFits ns
reply_head_fits ns e =
    let a = both (leb 4 (length ns)) _ e in
    let b = both (leb (get_or ns 1 0) 255) _ a.1 in
    record { long = leb-true _ _ a.0; op = leb-true _ _ b.0; status = leb-true _ _ b.1 }

-- bytes that are sent are in the list lent, and so their length is at most that list's; a message is sent, or it is 16
sent-fits_in : (bs old : List ℕ) → length old < 2 ^ 63 → sent_code (sent bs old).0 < 2 ^ 64
sent-fits_in bs old h = go (leb (length bs) (length old)) refl _
  where
    go : (u : Bool) → leb (length bs) (length old) ≡ u → (new : List ℕ) → sent_code (cond {A = Sent × List ℕ} u (written (length bs), new) (kept 12, old)).0 < 2 ^ 64
    go true e new = omega (arith, leb-true (length bs) (length old) e)
    go false e new = omega arith

module _ {A : Type 0} (c : Codec A) (a : A) (old : List ℕ) (h : length old < 2 ^ 63) where
  send-fits : sent_code (send c a old).0 < 2 ^ 64
  unfolding send
  send-fits = go (c.ok a)
    where
      go : (t : Bool) → sent_code (cond {A = Sent × List ℕ} t (sent (c.enc a) old) (kept 16, old)).0 < 2 ^ 64
      go true = sent-fits_in (c.enc a) old h
      go false = omega arith

  pub sent-fits : (x : Sent) (new : List ℕ) → (x, new) ≡ send c a old → sent_code x < 2 ^ 64
  sent-fits x new e = rw (ap (λ (p : Sent × List ℕ). p.0) e) send-fits

-- a stored file too: it is sent, or 13 where the table is not sound
pub storing-fits : (t old new : List ℕ) (x : Sent) → length old < 2 ^ 63 → Storing form1 t old x new → sent_code x < 2 ^ 64
storing-fits t old new x h s = ⊎_elim (λ l. l) (λ g. absurd (n g)) (lt-or_ge (sent_code x) (2 ^ 64))
  where
    n : 2 ^ 64 ≤ sent_code x → ⊥
    n g =
        omega (
          arith,
          ap (λ (p : Sent × List ℕ). sent_code p.0)
              (s.unsound (λ d. omega (arith, ap (λ (p : Sent × List ℕ). sent_code p.0) (s.sound d), sent-fits_in (file form1 (state_of t)) old h))),
        )

-- keys that are listed too: they are sent, or 13 or 9
pub listing-fits : (t name k : List ℕ) (n : ℕ) (old new : List ℕ) (x : Sent) → length old < 2 ^ 63 → Lists t name k n old (x, new) → sent_code x < 2 ^ 64
unfolding list_keys
listing-fits t name k n old new x h l = rw (ap (λ (p : Sent × List ℕ). p.0) l.same) (go l.ok (is_empty name))
  where
    go : (u v : Bool) → sent_code (cond {A = Sent × List ℕ} u (cond {A = Sent × List ℕ} v (sent (listing_body k n (state_of t)) old) (kept 9, old)) (kept 13, old)).0 < 2 ^ 64
    go true true = sent-fits_in (listing_body k n (state_of t)) old h
    go true false = omega arith
    go false v = omega arith

-- a message that was read whole is in the input, and so its length is at most the input's
pub whole-fits : {A B : Type 0} (c : Codec A) → Laws c → (s : List ℕ) → length s < 2 ^ 63 → (f : A → ℕ → B) (b : B) (n : ℕ) → whole b n ≡ mapped f (c.dec s) → 256 + n < 2 ^ 64
unfolding mapped
whole-fits c l s h f b n e =
    let x = after-whole (c.dec s) _ b n (sym e) in
    omega (arith, l.spans s x.val x.len x.first, sized x.then)

-- what was read at a place, with the count of its bytes for the place behind it
abbrev pub since : {A : Type 0} → ℕ → Read A → Read A
since at (whole a n) = whole a (n - at)
since at more = more
since at (refused k) = refused k

since-read : {A B : Type 0} (f : A → ℕ → B) (at : ℕ) (r : Read A) → since at (mapped f (after r (λ a n. whole a (at + n)))) ≡ mapped (λ a n. f a (at + n)) r
unfolding mapped
since-read f at (whole a n) = let e : at + n - at ≡ n = omega arith in ap (λ (m : ℕ). whole (f a (at + n)) m) e
since-read f at more = refl
since-read f at (refused k) = refl

-- an entry or the end that was read at a place is what the bytes from there on begin with
module _ (values : Bool) (s : List ℕ) (at : ℕ) where
  pub entry-from : (r : Read (Option (Span × Span))) → r ≡ mapped (item_at at) (read_at (item (item_of values)) s at) → since at r ≡ entry_from values s at
  unfolding entry_from read_at
  entry-from r e = ap (since at) e ∙ since-read (item_at at) at ((item (item_of values)).dec (drop at s))

  module _ (x : Option (Span × Span)) (j : ℕ) (e : whole x j ≡ mapped (item_at at) (read_at (item (item_of values)) s at)) where
    pub entry-behind : at ≤ j
    unfolding mapped read_at
    entry-behind =
        let y = after-whole (read_at (item (item_of values)) s at) _ x j (sym e) in
        let z = after-whole ((item (item_of values)).dec (drop at s)) _ y.val y.len y.first in
        omega (arith, sized y.then, sized z.then)

    pub entry-fits : length s < 2 ^ 63 → 256 + (j - at) < 2 ^ 64
    unfolding entry_from
    entry-fits h =
        whole-fits (item (item_of values)) (item_laws (item_of values) (item_of_laws values)) (drop at s) (omega (arith, length-drop at s)) _ x (j - at)
        (entry-from (whole x j) e)

-- the third number told is another name of it
pub told_third : (a b : ℕ) {p q : ℕ} (old : List ℕ) {new : List ℕ} → p ≡ q → new ≡ tell (a ∷ b ∷ p ∷ []) old → new ≡ tell (a ∷ b ∷ q ∷ []) old
told_third a b old e h = h ∙ ap (λ x. tell (a ∷ b ∷ x ∷ []) old) e

-- a list that is lent for an answer, with no room for its numbers and with room
module _ (k : ℕ) (old : List ℕ) where
  pub no_room : (x : ℕ × List ℕ) → length old < k → (12, old) ≡ in_room k old x
  unfolding in_room
  no_room x h = rw (lt-leb k (length old) h)

  pub in-room : (x : ℕ × List ℕ) {y : ℕ × List ℕ} → k ≤ length old → y ≡ x → y ≡ in_room k old x
  unfolding in_room
  in-room x h e = rw (le-leb k (length old) h) e

  pub if_none : (still done : Type 0) → length old < k → still → IfRoom k old still done
  unfolding IfRoom
  if_none still done h s = rw (lt-leb k (length old) h) s

  pub if-room : (still done : Type 0) → k ≤ length old → done → IfRoom k old still done
  unfolding IfRoom
  if-room still done h d = rw (le-leb k (length old) h) d

-- entries are asked for with their values, or by their keys, by the operation's code
pub asks-values : (values : Bool) → eqb (code_of (bulk_operation values)) 0x19 ≡ values
asks-values true = refl
asks-values false = refl
