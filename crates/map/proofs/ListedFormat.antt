-- The pieces of a list of entries are its published format, and the list of a table's entries is valid. Assumes nothing.
use mathlib.Core.Path.{◌≡◌, refl, sym, ap, ap₂, ◌∙◌}
use mathlib.Core.List.{List, [], ◌∷◌, ◌++◌, map, append_assoc, append-nil}
use mathlib.Core.Bool.{Bool, true, false}
use Prim.Native.Nat.{ℕ, zero, suc, ◌≤◌}
use native.Mathlib.Omega.{arith}
use lib.ListN.{length, length-map}
use Rattle.wire.specs.Codec.{Valid, raw, guard, seq, as_type}
use Rattle.wire.specs.Field.{limited}
use Rattle.wire.specs.Listed.{listed}
use Rattle.wire.proofs.Laws.{seq-good, type_good, bytes_are}
use Rattle.wire.proofs.FieldLaws.{limited-good}
use Rattle.wire.proofs.ListedEnc.{item-enc, nil-enc, cons_enc, Valids, listed-good}
use Rattle.message.specs.Arguments.{key_limit, value_limit}
use Rattle.message.specs.Listing.{most_listed, item_of, listing}
use Rattle.map.specs.State.{Entry}
use Rattle.map.specs.Table.{Each, Sizes}
use Rattle.map.specs.Reply.{Piece, bytes, flat, pair_of, sized, item_pieces, list_pieces}

flat_append : (ps qs : List Piece) → flat (ps ++ qs) ≡ flat ps ++ flat qs
unfolding flat
flat_append [] qs = refl
flat_append (p ∷ ps) qs = ap (λ (s : List ℕ). bytes p ++ s) (flat_append ps qs) ∙ sym (append_assoc (bytes p) (flat ps) (flat qs))

-- a value behind its length
pub sized-enc : (e : Entry) → flat (sized e) ≡ (limited value_limit).enc e.value
unfolding flat limited as_type seq guard raw
sized-enc e = rw append-nil

one-enc : (values : Bool) (e : Entry) → flat (item_pieces values e) ≡ 1 ∷ (item_of values).enc (pair_of values e)
unfolding flat item_of seq as_type
one-enc true e = ap (λ (s : List ℕ). 1 ∷ ((limited key_limit).enc e.key ++ s)) (sized-enc e)
one-enc false e = ap (λ (s : List ℕ). 1 ∷ s) (append-nil ((limited key_limit).enc e.key))

list-enc : (values : Bool) (n : ℕ) (es : List Entry) → length es ≤ n → flat (list_pieces values es) ≡ (listed n (item_of values)).enc (map (pair_of values) es)
unfolding list_pieces flat
list-enc values n [] h = sym (nil-enc (item_of values) n)
list-enc values zero (e ∷ es) h = absurd (omega arith)
list-enc values (suc n) (e ∷ es) h =
    flat_append (item_pieces values e) (list_pieces values es)
    ∙ (ap₂ ◌++◌ (one-enc values e ∙ sym (item-enc (item_of values) (pair_of values e))) (list-enc values n es (omega arith))
    ∙ sym (cons_enc (item_of values) n (pair_of values e) (map (pair_of values) es)))

pub listing-enc : (values : Bool) (es : List Entry) → length es ≤ most_listed → flat (list_pieces values es) ≡ (listing values).enc (map (pair_of values) es)
unfolding listing
listing-enc values es h = list-enc values most_listed es h

-- key and value within their limits
pub value-good : (e : Entry) → Sizes e → Valid (limited value_limit) e.value
value-good e h = limited-good value_limit e.value (omega (arith, h.value)) h.value (bytes_are e.value h.value_bytes)

key-good : (e : Entry) → Sizes e → Valid (limited key_limit) e.key
key-good e h = limited-good key_limit e.key (omega (arith, h.key)) h.key (bytes_are e.key h.key_bytes)

item-good : (values : Bool) (e : Entry) → Sizes e → Valid (item_of values) (pair_of values e)
unfolding item_of
item-good true e h = seq-good _ _ (key-good e h) (value-good e h)
item-good false e h = type_good _ _ _ _ refl (key-good e h)

items_good : (values : Bool) (es : List Entry) → Each Sizes es → Valids (item_of values) (map (pair_of values) es)
items_good values [] h = tt
items_good values (e ∷ es) h = (item-good values e h.0, items_good values es h.1)

pub listing-good : (values : Bool) (es : List Entry) → length es ≤ most_listed → Each Sizes es → Valid (listing values) (map (pair_of values) es)
unfolding listing
listing-good values es l h =
    listed-good (item_of values) most_listed (map (pair_of values) es) (omega (arith, length-map es (pair_of values))) (items_good values es h)
