-- `stored::lines::start` meets its contract: `head_at` says what its reading goes by. Assumes nothing.
use mathlib.Core.Path.{refl}
use borrow.Author.Tests.{eq-eqb, ne_eqb}
use Rattle.stored.proofs.LoadLaws.{head_at}
use Rattle.stored.proofs.lines.start.Goals as goal

pub returns-in_default : goal.returns-in_default
returns-in_default c = rw (head_at, ← c.in_default.ensures) (refl, refl)

pub returns-then-form-ne-FORM : goal.returns-then-form-ne-FORM
returns-then-form-ne-FORM c = rw (head_at, ← c.in-Some.ensures, ne_eqb _ _ c.if-form-ne-FORM.true) (refl, refl)

pub returns-in_default-read_version : goal.returns-in_default-read_version
returns-in_default-read_version c =
    rw (head_at, ← c.in-Some.ensures, eq-eqb _ _ c.if-form-ne-FORM.false, ← c.in_default-read_version.ensures) (refl, refl)

pub returns-then-at2-s : goal.returns-then-at2-s
returns-then-at2-s c =
    rw (head_at, ← c.in-Some.ensures, eq-eqb _ _ c.if-form-ne-FORM.false, ← c.in-Some-read_version.ensures, ne_eqb _ _ c.if-at2-s.true) (refl, refl)

pub returns : goal.returns
returns c =
    rw (head_at, ← c.in-Some.ensures, eq-eqb _ _ c.if-form-ne-FORM.false, ← c.in-Some-read_version.ensures, eq-eqb _ _ c.if-at2-s.false)
    c.start.ensures
