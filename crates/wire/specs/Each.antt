-- Properties of the elements of a list.
use Rattle.std.specs.Prelude.{List, [], ◌∷◌}

-- each element has the property
abbrev pub Each : {A : Type 0} → (A → Type 0) → List A → Type 0
Each p [] = Unit {0}
Each p (a ∷ xs) = p a × Each p xs

-- each element has the property with each one behind it
abbrev pub Pairs : {A : Type 0} → (A → A → Type 0) → List A → Type 0
Pairs p [] = Unit {0}
Pairs p (a ∷ xs) = Each (p a) xs × Pairs p xs
