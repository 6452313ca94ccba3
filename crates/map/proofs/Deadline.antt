-- What deadlines a write gives. Assumes nothing.
use mathlib.Core.Path.{◌≡◌}
use mathlib.Core.Bool.{cond}
use Prim.Native.Nat.{ℕ, ◌+◌, ◌≤◌, ◌<◌, zero-le}
use native.Mathlib.Omega.{arith}
use lib.Dec.{eqb, leb}
use borrow.Author.Tests.{ne_eqb, le-leb, leb-true, lt-leb}
use Rattle.wire.proofs.Basics.{pick}
use Rattle.message.specs.Request.{Request}
use Rattle.map.specs.Deadline.{no_lifespan, thirty_days, deadline}
use Rattle.map.specs.Table.{last_second}

module _ (now : ℕ) (r : Request) where
  -- no write gives a greater one than the last second and 30 days
  pub deadline-most : now ≤ last_second → r.args.lifespan < 0x1_0000_0000 → deadline now r ≤ 4_297_559_295
  unfolding deadline
  deadline-most s l =
      pick Within (eqb r.args.lifespan 0) (λ q. zero-le)
      (pick Within (no_lifespan r) (λ q. zero-le) (pick Within (leb r.args.lifespan thirty_days) (λ q. omega (arith, leb-true r.args.lifespan thirty_days q)) (omega arith)))
    where
      Within : ℕ → Type 0
      Within n = n ≤ 4_297_559_295

  -- up to and including 30 days the deadline is as document 01 has it, from the present second: "that second plus the lifespan, or 0 (none) if the
  -- lifespan is 0 or flag 0x0002 is set"
  pub deadline_span : r.args.lifespan ≤ thirty_days → deadline now r ≡ cond (eqb r.args.lifespan 0) 0 (cond (no_lifespan r) 0 (now + r.args.lifespan))
  unfolding deadline
  deadline_span h = rw (le-leb r.args.lifespan thirty_days h)

  -- above it the deadline does not go by the second
  pub deadline_date : thirty_days < r.args.lifespan → deadline now r ≡ cond (no_lifespan r) 0 r.args.lifespan
  unfolding deadline
  deadline_date h = rw (ne_eqb r.args.lifespan 0 (λ q. omega arith), lt-leb r.args.lifespan thirty_days h)
