-- Where a byte stands first.
use Rattle.std.specs.Prelude.{List, [], ◌∷◌, Bool, true, false, ℕ, zero, suc, eqb}

-- one place further where the byte in front is another one
unfoldable pub index_after : Bool → ℕ → ℕ
index_after true n = zero
index_after false n = suc n

-- the index of the first byte v; the length where there is none
unfoldable pub index_of : ℕ → List ℕ → ℕ
index_of v [] = zero
index_of v (x ∷ xs) = index_after (eqb x v) (index_of v xs)
