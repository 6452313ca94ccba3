-- The statistics of a stats reply (document 02, C-11).
use Rattle.std.specs.Prelude.{List, [], ◌∷◌, ℕ, length, get_or, drop, eqb, ltb, Option, Result}
use Rattle.wire.specs.Codec.{Read, whole, after, Codec, empty, guard, seq, as_type, all}
use Rattle.wire.specs.Number.{v_int}
use Rattle.wire.specs.Field.{limited}
use Rattle.wire.specs.Same.{same_list}
use Rattle.text.specs.Ascii.{ascii}
use Rattle.decimal.specs.Decimal.{decimal}
use Rattle.field.specs.FieldRead.{as_read}
use Rattle.field.specs.declared.Cursor.{Cursor}
use Rattle.field.specs.declared.refusals.Refusal.{Refusal}
use Rattle.statistics.specs.declared.Statistics.{Statistics}

-- the names: "in the order of document 000's list, all nine"
unfoldable pub titles : List (List ℕ)
titles =
    ascii "timeSinceStart"
    ∷ ascii "currentNumberOfEntries"
    ∷ ascii "totalNumberOfEntries"
    ∷ ascii "stores"
    ∷ ascii "retrievals"
    ∷ ascii "hits"
    ∷ ascii "misses"
    ∷ ascii "removeHits"
    ∷ ascii "removeMisses"
    ∷ []

-- "6 for a name above 22 bytes"
abbrev pub title_limit : ℕ
title_limit = 22

-- a name: "8, never 7, for another .. name"
unfoldable pub named : List ℕ → Codec (List ℕ)
named n = guard (same_list n) 8 (limited title_limit)

-- "each name and decimal value as strings"
unfoldable pub statistic : List ℕ → Codec ℕ
statistic n = as_type all (λ p. p.1) (λ v. (n, v)) (seq (named n) λ _. decimal)

-- a value for each of some names
unfoldable pub values : List (List ℕ) → Codec (List ℕ)
values [] = as_type (λ vs. eqb (length vs) 0) (λ u. []) (λ vs. tt) empty
values (n ∷ ns) = as_type (λ vs. ltb 0 (length vs)) (λ p. p.0 ∷ p.1) (λ vs. (get_or vs 0 0, drop 1 vs)) (seq (statistic n) λ _. values ns)

-- "number of statistics as a vInt, then each"; "8 .. for another number of statistics"
unfoldable pub statistics : Codec (List ℕ)
statistics = as_type all (λ p. p.1) (λ vs. (9, vs)) (seq (guard (λ n. eqb n 9) 8 v_int) λ _. values titles)

-- the nine, in this order
abbrev pub list_of : Statistics → List ℕ
list_of x =
    x.time ∷ x.current ∷ x.total ∷ x.stores ∷ x.retrievals ∷ x.hits ∷ x.misses ∷ x.removehits ∷ x.removemisses ∷ []

abbrev pub as_statistics : Result (Option (Statistics × Cursor)) Refusal → Read (List ℕ)
as_statistics r = after (as_read r) (λ x n. whole (list_of x) n)
