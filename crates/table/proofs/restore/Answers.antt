-- `table::restore` meets its contract. Assumes nothing.
use mathlib.Core.Path.{sym, subst, ◌∙◌}
use mathlib.Core.List.{List}
use Prim.Native.Nat.{ℕ, ◌<◌}
use native.Mathlib.Omega.{arith}
use Rattle.map.specs.Step.{most_keys}
use Rattle.table.specs.Memory.{count_of}
use Rattle.table.proofs.RowLaws.{length_entries}
use Rattle.table.proofs.Restores.{fits, follows, restored-unfit, restored_no, restored_yes}
use Rattle.table.proofs.restore.Goals as goal

pub returns-then-not-fits : goal.returns-then-not-fits
returns-then-not-fits c = let s = c.args in
    restored-unfit s.key.now s.value.now s.version.0 s.deadline.0 s.t.now (sym c.fits.ensures ∙ c.if-not-fits.true)

pub returns-then-not-follows : goal.returns-then-not-follows
returns-then-not-follows c = let s = c.args in
    restored_no s.key.now s.value.now s.version.0 s.deadline.0 s.t.now (sym c.follows.ensures ∙ c.if-not-follows.true)

pub returns-in_default : goal.returns-in_default
returns-in_default c = let s = c.args in
    absurd (c.in_default.ensures.cases (follows s.key.now s.version.0 s.t.now (sym c.follows.ensures ∙ c.if-not-follows.false)).long)

pub restore-requires : goal.restore-requires
restore-requires c = let s = c.args in
    let f = fits s.key.now s.value.now s.deadline.0 (sym c.fits.ensures ∙ c.if-not-fits.false) in
    let g = follows s.key.now s.version.0 s.t.now (sym c.follows.ensures ∙ c.if-not-follows.false) in
    record {
      room = subst (λ (u : List ℕ). count_of u < most_keys) (sym c.in-Some.ensures.cases.0) (omega (arith, length_entries s.t.now g.long, g.room));
      k_len_bound = (f.key, f.value);
    }

pub returns : goal.returns
returns c = let s = c.args in
    restored_yes s.key.now s.value.now s.version.0 s.deadline.0 s.t.now _
    (sym c.fits.ensures ∙ c.if-not-fits.false)
    (sym c.follows.ensures ∙ c.if-not-follows.false)
    (rw (c.lower_bound.ensures, c.restore.ensures, c.in-Some.ensures.cases.0))
