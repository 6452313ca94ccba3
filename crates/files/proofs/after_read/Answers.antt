-- `files::after_read` meets its contract. Assumes nothing.
use mathlib.Core.Path.{refl}
use native.Mathlib.Omega.{arith}
use Rattle.files.proofs.after_read.Goals as goal

pub returns-then-s-got : goal.returns-then-s-got
returns-then-s-got c = record { sum = λ h. absurd (omega arith); over = λ h. refl }

pub returns : goal.returns
returns c = record { sum = λ h. refl; over = λ h. absurd (omega arith) }
