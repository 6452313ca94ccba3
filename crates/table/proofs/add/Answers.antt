-- `table::add` meets its contract. Assumes nothing.
use mathlib.Core.Path.{sym, subst, ◌∙◌}
use mathlib.Core.List.{List}
use Prim.Native.Nat.{ℕ, ◌<◌}
use native.Mathlib.Omega.{arith}
use Rattle.std.proofs.Common.{rules}
use Rattle.map.specs.Step.{most_keys, last_version}
use Rattle.table.specs.Memory.{last_index, number_of, count_of}
use Rattle.table.proofs.RowLaws.{length_entries, last-is}
use Rattle.table.proofs.Answers.{row_fits, room-is, added_yes, added-unfit, added_full, added-last}
use Rattle.table.proofs.add.Goals as goal

pub returns-then-not-fits_row : goal.returns-then-not-fits_row
returns-then-not-fits_row c = added-unfit _ _ _ _ (sym c.fits_row.ensures ∙ c.if-not-fits_row.true)

pub returns-then-not-has_room : goal.returns-then-not-has_room
returns-then-not-has_room c = added_full _ _ _ _ (sym c.has_room.ensures ∙ c.if-not-has_room.true)

pub returns-then-ge : goal.returns-then-ge
returns-then-ge c = added-last _ _ _ _ (search rules)

pub returns-in_default : goal.returns-in_default
returns-in_default c = absurd (c.in_default.ensures.cases (room-is c.args.t.now (sym c.has_room.ensures ∙ c.if-not-has_room.false)).0)

pub append-requires : goal.append-requires
append-requires c =
    let t = c.args.t.now in
    let h = room-is t (sym c.has_room.ensures ∙ c.if-not-has_room.false) in
    record {
      room = subst (λ (u : List ℕ). (count_of u < most_keys) × (number_of u last_index < last_version)) (sym c.in-Some.ensures.cases.0) (omega (arith, h.1, length_entries t h.0), search (rules, last-is t h.0));
      k_len_bound = row_fits _ _ (sym c.fits_row.ensures ∙ c.if-not-fits_row.false);
    }

pub returns : goal.returns
returns c = let s = c.args in
    let room = sym c.has_room.ensures ∙ c.if-not-has_room.false in
    added_yes _ _ _ _ _ (sym c.fits_row.ensures ∙ c.if-not-fits_row.false) room (search rules)
    (rw (last-is s.t.now (room-is s.t.now room).0, c.lower_bound.ensures, c.append.ensures, c.in-Some.ensures.cases.0))
