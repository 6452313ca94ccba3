-- `rules::serves` meets its contract: the arms are tests of `edition_of`, of which the last gives every operation either way. Assumes nothing.
use mathlib.Core.Path.{◌≡◌, refl}
use mathlib.Core.Option.{Option}
use mathlib.Core.Bool.{true}
use lib.Dec.{eqb}
use borrow.Author.Tests.{ne_eqb}
use Rattle.wire.proofs.Basics.{pick}
use Rattle.message.specs.Edition.{Edition, edition_of, served}
use Rattle.rules.proofs.serves.Goals as goal

pub returns-in-10 : goal.returns-in-10
unfolding edition_of
returns-in-10 c = rw c.in-10.is c.is_early.ensures

pub returns-in-11 : goal.returns-in-11
unfolding edition_of
returns-in-11 c = rw c.in-11.is c.is_early-in-11.ensures

pub returns-in_default : goal.returns-in_default
unfolding edition_of
returns-in_default c =
    let a = c.args in
    let all : Option Edition → Type 0 = λ e. true ≡ (served e).serves a.op in
    rw (ne_eqb _ _ c.in_default.in_default-own.rest.0.1, ne_eqb _ _ c.in_default.in_default-own.rest.1)
    (pick all (eqb a.version 12) (λ e. refl) (pick all (eqb a.version 20) (λ e. refl) refl))
