-- The laws of the entries of a bulk reply, and the greatest length of their bytes. Assumes nothing.
use mathlib.Core.Path.{◌≡◌, refl, ap}
use mathlib.Core.List.{List, [], ◌∷◌}
use mathlib.Core.Option.{Option, none, some}
use mathlib.Core.Bool.{Bool, true, false}
use Prim.Native.Nat.{ℕ, zero, suc, ◌+◌, ◌*◌}
use native.Mathlib.Nat.{suc-mul}
use native.Mathlib.Omega.{arith}
use lib.ListN.{length}
use lib.Dec.{lit≤}
use borrow.Author.Tests.{eqb-true}
use Rattle.wire.specs.Codec.{more, Codec, byte, guard, seq, as_type}
use Rattle.wire.specs.Field.{limited}
use Rattle.wire.specs.Listed.{more_byte, behind, item, others, listed}
use Rattle.wire.proofs.Laws.{Laws, seq_laws, type_laws}
use Rattle.wire.proofs.FieldLaws.{limited_laws}
use Rattle.wire.proofs.ListedLaws.{listed_laws}
use Rattle.message.specs.Arguments.{key_limit, value_limit, is_empty}
use Rattle.message.specs.Listing.{most_listed, item_of, listing}
use Rattle.message.proofs.Most.{Most, most-less, seq-most, guard-most, type_most, empty-most, byte-most, limited-most}

empty-is : (v : List ℕ) → length v ≡ 0 → [] ≡ v
empty-is [] e = refl
empty-is (b ∷ v) e = absurd (omega arith)

key-there : (p : List ℕ × List ℕ) → is_empty p.1 ≡ true → (p.0, []) ≡ p
key-there p e = ap {B = List ℕ × List ℕ} (λ (v : List ℕ). (p.0, v)) (empty-is p.1 (eqb-true (length p.1) 0 e))

pub item_of_laws : (values : Bool) → Laws (item_of values)
unfolding item_of
item_of_laws true = seq_laws (limited key_limit) (λ _. limited value_limit) (limited_laws key_limit) (λ _. limited_laws value_limit)
item_of_laws false =
    type_laws (λ p. is_empty p.1) (λ k. (k, [])) (λ p. p.0) (limited key_limit) (limited_laws key_limit) (λ p e. key-there p e) (λ k v. (refl, refl))

pub listing_laws : (values : Bool) → Laws (listing values)
unfolding listing
listing_laws values = listed_laws most_listed (item_of values) (item_of_laws values)

-- of no bytes nothing is read
pub listing-starts : (values : Bool) → (listing values).dec [] ≡ more
unfolding listing listed item more_byte as_type seq guard byte
listing-starts values = refl

-- how long a list is at most, by how long a value is
more-most : Most more_byte 1
unfolding more_byte
more-most = guard-most _ _ byte-most

behind-most : {A : Type 0} (c : Codec A) (m b : ℕ) → Most c m → Most (behind c b) m
unfolding behind
behind-most c m zero x = most-less (omega arith) empty-most
behind-most c m (suc b) x = x

item-most : {A : Type 0} (c : Codec A) (m : ℕ) → Most c m → Most (item c) (1 + m)
unfolding item
item-most c m x = type_most _ _ _ (seq-most more-most λ b _. behind-most c m b x)

others-most : {A : Type 0} (rest : Codec (List A)) (m : ℕ) (o : Option A) → Most rest m → Most (others rest o) m
unfolding others
others-most rest m none x = most-less (omega arith) empty-most
others-most rest m (some a) x = x

listed-most : {A : Type 0} (c : Codec A) (m : ℕ) → Most c m → (n : ℕ) → Most (listed n c) (1 + n * (1 + m))
unfolding listed
listed-most c m x zero = most-less (omega arith) (type_most _ _ _ (guard-most _ _ more-most))
listed-most c m x (suc n) =
    most-less (rw suc-mul (omega arith)) (type_most _ _ _ (seq-most (item-most c m x) λ o _. others-most (listed n c) (1 + n * (1 + m)) o (listed-most c m x n)))

-- the greatest length of an entry: each length takes a byte, that of a value two
abbrev pub longest : Bool → ℕ
longest true = 1 + 64 + (2 + 256)
longest false = 1 + 64

pub item_of-most : (values : Bool) → Most (item_of values) (longest values)
unfolding item_of
item_of-most true = seq-most (limited-most key_limit 0 (lit≤ tt)) λ _ _. limited-most value_limit 1 (lit≤ tt)
item_of-most false = type_most _ _ _ (limited-most key_limit 0 (lit≤ tt))

-- 128 entries take at most 41,473 bytes, and 8,449 where there are keys alone
pub listing-most : (values : Bool) → Most (listing values) (1 + 128 * (1 + longest values))
unfolding listing
listing-most values = listed-most (item_of values) (longest values) (item_of-most values) most_listed
