-- The bytes of a reply and of the same reply with another value, of the same length, for the entry of a version. Assumes nothing.
use mathlib.Core.Path.{◌≡◌, refl, sym, ap, ap₂, ◌∙◌}
use mathlib.Core.List.{List, [], ◌∷◌, ◌++◌}
use mathlib.Core.Bool.{Bool, true, false, cond}
use Prim.Native.Nat.{ℕ, ◌+◌}
use lib.ListN.{length, length-append}
use lib.Dec.{eqb}
use Rattle.wire.specs.Number.{v_int}
use Rattle.message.specs.Request.{Request}
use Rattle.map.specs.State.{Entry}
use Rattle.map.specs.Shown.{Shown, nothing, no_value, value, versioned, counted, listed}
use Rattle.map.specs.Step.{Result}
use Rattle.map.specs.Reply.{Piece, fixed, of_entry, bytes, flat, sized, item_pieces, list_pieces, shown_pieces, pieces}
use Rattle.map.specs.Revalue.{entry_with, entries_with, shown_with, result_with, piece_with, pieces_with}

module _ (v : ℕ) (u w : List ℕ) (len : length w ≡ length u) where
  level : (b : Bool) (x : List ℕ) → length (cond b w x) ≡ length (cond b u x)
  level true x = len
  level false x = refl

  -- an entry whose value is u if its version is v has its length kept
  kept : (e : Entry) → entry_with v u e ≡ e → length (entry_with v w e).value ≡ length e.value
  kept e h = level (eqb e.version v) e.value ∙ ap (λ (x : Entry). length x.value) h

  sized_with : (e : Entry) → entry_with v u e ≡ e → sized (entry_with v w e) ≡ pieces_with v w (sized e)
  unfolding pieces_with
  sized_with e h = ap (λ (n : ℕ). fixed (v_int.enc n) ∷ of_entry (entry_with v w e) ∷ []) (kept e h)

  append_pieces : (ps qs : List Piece) → pieces_with v w (ps ++ qs) ≡ pieces_with v w ps ++ pieces_with v w qs
  unfolding pieces_with
  append_pieces [] qs = refl
  append_pieces (p ∷ ps) qs = ap₂ ◌∷◌ refl (append_pieces ps qs)

  item_with : (values : Bool) (e : Entry) → entry_with v u e ≡ e → item_pieces values (entry_with v w e) ≡ pieces_with v w (item_pieces values e)
  unfolding pieces_with
  item_with true e h = ap₂ ◌∷◌ refl (sized_with e h)
  item_with false e h = refl

  -- of a list, that entry's bytes alone, though another have the same bytes
  list_with : (values : Bool) (es : List Entry) → entries_with v u es ≡ es → list_pieces values (entries_with v w es) ≡ pieces_with v w (list_pieces values es)
  unfolding list_pieces entries_with pieces_with
  list_with values [] h = refl
  list_with values (e ∷ es) h =
      ap₂ ◌++◌ (item_with values e (cc)) (list_with values es (cc)) ∙ sym (append_pieces (item_pieces values e) (list_pieces values es))

  shown-with : (s : Shown) → shown_with v u s ≡ s → shown_pieces (shown_with v w s) ≡ pieces_with v w (shown_pieces s)
  unfolding shown_with shown_pieces pieces_with
  shown-with nothing h = refl
  shown-with no_value h = refl
  shown-with (value e) h = sized_with e (cc)
  shown-with (versioned e) h = ap₂ ◌∷◌ refl (sized_with e (cc))
  shown-with (counted ns) h = refl
  shown-with (listed values es) h = list_with values es (cc)

  -- a result whose value of the entry of version v is u, and that result with w for it
  pub pieces-with : (r : Request) (a : Result) → result_with v u a ≡ a → pieces r (result_with v w a) ≡ pieces_with v w (pieces r a)
  unfolding result_with pieces pieces_with
  pieces-with r a h = ap₂ ◌∷◌ refl (shown-with a.shown (ap (λ (x : Result). x.shown) h))

  piece_level : (p : Piece) → length (bytes (piece_with v w p)) ≡ length (bytes (piece_with v u p))
  piece_level (fixed s) = refl
  piece_level (of_entry e) = level (eqb e.version v) e.value

  flat-level : (ps : List Piece) → length (flat (pieces_with v w ps)) ≡ length (flat (pieces_with v u ps))
  unfolding flat pieces_with
  flat-level [] = refl
  flat-level (p ∷ ps) = simp length-append (ap₂ ◌+◌ (piece_level p) (flat-level ps))

  pub same_size : (ps : List Piece) → pieces_with v u ps ≡ ps → length (flat (pieces_with v w ps)) ≡ length (flat ps)
  same_size ps h = flat-level ps ∙ ap (λ (x : List Piece). length (flat x)) h

-- and u for it is no change
pub own : (v : ℕ) (u : List ℕ) (r : Request) (a : Result) → result_with v u a ≡ a → pieces_with v u (pieces r a) ≡ pieces r a
own v u r a h = sym (pieces-with v u u refl r a h) ∙ ap (pieces r) h
