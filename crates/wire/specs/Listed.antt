-- Values one after the other, each behind a byte 1, and a byte 0 behind the last (document 02, C-13).
use Rattle.std.specs.Prelude.{◌≡◌, List, [], ◌∷◌, Bool, true, false, ℕ, zero, suc, leb, eqb}
use Rattle.std.proofs.Math.Option.{Option, none, some}
use Rattle.wire.specs.Codec.{whole, Codec, empty, byte, guard, seq, as_type, all, read_at}

-- the more byte, which says whether a value follows: "8 for another .. more byte" than 0 and 1
unfoldable pub more_byte : Codec ℕ
more_byte = guard (λ b. leb b 1) 8 byte

-- what follows it
abbrev pub Behind : Type 0 → ℕ → Type 0
Behind A zero = Unit {0}
Behind A (suc b) = A

unfoldable pub behind : {A : Type 0} → Codec A → (b : ℕ) → Codec (Behind A b)
behind c zero = empty
behind c (suc b) = c

abbrev pub to_item : {A : Type 0} (b : ℕ) → Behind A b → Option A
to_item zero u = none
to_item (suc b) a = some a

abbrev pub from_item : {A : Type 0} → Option A → (b : ℕ) × Behind A b
from_item none = (0, tt)
from_item (some a) = (1, a)

-- one value of a list, or its end
unfoldable pub item : {A : Type 0} → Codec A → Codec (Option A)
item c = as_type all (λ p. to_item p.0 p.1) from_item (seq more_byte (behind c))

-- what follows an item
abbrev pub Others : {A : Type 0} → Option A → Type 0
Others {A} none = Unit {0}
Others {A} (some a) = List A

unfoldable pub others : {A : Type 0} → Codec (List A) → (o : Option A) → Codec (Others o)
others rest none = empty
others rest (some a) = rest

abbrev pub to_list : {A : Type 0} (o : Option A) → Others o → List A
to_list none u = []
to_list (some a) xs = a ∷ xs

abbrev pub from_list : {A : Type 0} → List A → (o : Option A) × Others o
from_list [] = (none, tt)
from_list (a ∷ xs) = (some a, xs)

abbrev pub is_nil : {A : Type 0} → List A → Bool
is_nil [] = true
is_nil (a ∷ xs) = false

-- at most n values: a further one is 6, at its byte 1
unfoldable pub listed : {A : Type 0} → ℕ → Codec A → Codec (List A)
listed zero c = as_type is_nil (λ b. []) (λ xs. 0) (guard (λ b. eqb b 0) 6 more_byte)
listed (suc n) c = as_type all (λ p. to_list p.0 p.1) from_list (seq (item c) (others (listed n c)))

-- the steps of reading a list, from a place to the one behind its end: an item for each value, and none behind the last
pub data Steps {A : Type 0} (c : Codec A) (s : List ℕ) : ℕ → List A → ℕ → Type 0 where
  end : {at j : ℕ} → read_at (item c) s at ≡ whole none j → Steps c s at [] j
  on : {at j k : ℕ} {a : A} {xs : List A} → read_at (item c) s at ≡ whole (some a) j → Steps c s j xs k → Steps c s at (a ∷ xs) k
