-- Requests written end to end, and what it is to begin a list.
use Rattle.std.specs.Prelude.{◌≡◌, List, [], ◌∷◌, ◌++◌, ℕ}
use Rattle.wire.specs.Codec.{Valid}
use Rattle.message.specs.Request.{Request, request}

unfoldable pub written : List Request → List ℕ
written [] = []
written (r ∷ rs) = request.enc r ++ written rs

-- "Well-formed is a whole request that meets none of 1 to 8": one that has a written form, and then reads back whole. Each of the list is.
abbrev pub WellFormed : List Request → Type 0
WellFormed [] = Unit {0}
WellFormed (r ∷ rs) = Valid request r × WellFormed rs

-- xs begins ys
pub record Begins {A : Type 0} (xs ys : List A) : Type 0 where
  pub behind : List A
  pub same : ys ≡ xs ++ behind
