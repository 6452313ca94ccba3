-- `stored::lines::restore` meets its contract: `entry_at` says what its reading goes by. Assumes nothing.
use Rattle.std.proofs.Common.{rules}
use mathlib.Core.Path.{refl}
use borrow.Author.Tests.{eq-eqb, ne_eqb}
use Rattle.stored.proofs.LoadLaws.{entry_at, limited-read}
use Rattle.stored.proofs.lines.restore.Goals as goal

pub returns-in_default : goal.returns-in_default
returns-in_default c = rw (entry_at, ← c.in_default.ensures) (refl, refl)

pub returns-in_default-read_second : goal.returns-in_default-read_second
returns-in_default-read_second c = rw (entry_at, ← c.in-Some.ensures, ← c.in_default-read_second.ensures) (refl, refl)

pub returns-in_default-read_limited : goal.returns-in_default-read_limited
returns-in_default-read_limited c =
    rw (entry_at, ← c.in-Some.ensures, ← c.in-Some-read_second.ensures) search (rules, limited-read _ _ _ c.in_default-read_limited.ensures)

pub returns-in_default-read_limited-3 : goal.returns-in_default-read_limited-3
returns-in_default-read_limited-3 c =
    let n = limited-read _ _ _ (rw c.in_default-read_limited.is at c.read_limited.ensures) in
    rw (entry_at, ← c.in-Some.ensures, ← c.in-Some-read_second.ensures, n) (refl, refl)

pub returns-in_default-read_limited-2 : goal.returns-in_default-read_limited-2
returns-in_default-read_limited-2 c =
    let k = limited-read _ _ _ (rw c.in-Ok-Some.field-0-is at c.in-Ok-Some.ensures) in
    rw (entry_at, ← c.in-Some.ensures, ← c.in-Some-read_second.ensures, k) search (rules, limited-read _ _ _ c.in_default-read_limited-2.ensures)

pub returns-in_default-read_limited-2-2 : goal.returns-in_default-read_limited-2-2
returns-in_default-read_limited-2-2 c =
    let k = limited-read _ _ _ (rw c.in-Ok-Some.field-0-is at c.in-Ok-Some.ensures) in
    let n = limited-read _ _ _ (rw c.in_default-read_limited-2.is at c.read_limited-2.ensures) in
    rw (entry_at, ← c.in-Some.ensures, ← c.in-Some-read_second.ensures, k, n) (refl, refl)

pub returns-then-at4-s : goal.returns-then-at4-s
returns-then-at4-s c =
    let k = limited-read _ _ _ (rw c.in-Ok-Some.field-0-is at c.in-Ok-Some.ensures) in
    let v = limited-read _ _ _ (rw c.in-Ok-Some-read_limited.field-0-is at c.in-Ok-Some-read_limited.ensures) in
    rw (entry_at, ← c.in-Some.ensures, ← c.in-Some-read_second.ensures, k, v, ne_eqb _ _ c.if-at4-s.true) (refl, refl)

pub returns : goal.returns
returns c =
    let k = limited-read _ _ _ (rw c.in-Ok-Some.field-0-is at c.in-Ok-Some.ensures) in
    let v = limited-read _ _ _ (rw c.in-Ok-Some-read_limited.field-0-is at c.in-Ok-Some-read_limited.ensures) in
    rw (entry_at, ← c.in-Some.ensures, ← c.in-Some-read_second.ensures, k, v, eq-eqb _ _ c.if-at4-s.false, ← c.part.ensures, ← c.part-2.ensures)
    c.restore.ensures
