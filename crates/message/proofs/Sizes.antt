-- The sizes of a well-formed request. Assumes nothing.
use mathlib.Core.Path.{◌≡◌, refl, subst}
use mathlib.Core.List.{List, []}
use mathlib.Core.Bool.{true}
use Prim.Native.Nat.{ℕ, ◌≤◌, ◌<◌, zero-le}
use native.Mathlib.Omega.{arith}
use lib.ListN.{length}
use lib.Dec.{leb}
use borrow.Author.Tests.{leb-true}
use Rattle.wire.specs.Codec.{Codec, Valid, is_bytes, byte, seq}
use Rattle.wire.specs.Number.{v_int, v_long}
use Rattle.wire.specs.Field.{entry_version, limited}
use Rattle.wire.proofs.Laws.{both, seq-valid, guard-valid, type_valid}
use Rattle.wire.proofs.NumberLaws.{valid}
use Rattle.wire.proofs.FieldLaws.{limited-valid}
use Rattle.text.specs.Text.{is_text}
use Rattle.field.specs.FieldRead.{limited_text}
use Rattle.message.specs.Arguments.{name_limit, key_limit, value_limit, Shape, keyed, writes, writes_if, keyed_if, bare, bulk, shape_of, Args, args, args_of}
use Rattle.message.specs.Request.{edition_at, Request, request}
use Rattle.message.proofs.RequestLaws.{keyed_is, keyed_if_is, bare-is, bulk-is}
use Rattle.message.proofs.RequestParts.{parts}
use Rattle.message.proofs.Editions.{flags-small}

pub record Small (a : Args) : Type 0 where
  pub key : length a.key ≤ key_limit
  pub key_bytes : is_bytes a.key ≡ true
  pub lifespan : a.lifespan < 0x1_0000_0000
  pub max_idle : a.max_idle < 0x1_0000_0000
  pub value : length a.value ≤ value_limit
  pub value_bytes : is_bytes a.value ≡ true

abbrev Fits : ℕ → List ℕ → Type 0
Fits lim s = (length s ≤ lim) × (is_bytes s ≡ true)

nil-fits : (lim : ℕ) → Fits lim []
unfolding is_bytes
nil-fits lim = (zero-le, refl)

v_int-small : (n : ℕ) → Valid v_int n → n < 0x1_0000_0000
unfolding v_int
v_int-small n v = (valid 5 15 4 0 n v).1

sized : (a : Args) → Fits key_limit a.key → a.lifespan < 0x1_0000_0000 → a.max_idle < 0x1_0000_0000 → Fits value_limit a.value → Small a
sized a k l m v = record { key = k.0; key_bytes = k.1; lifespan = l; max_idle = m; value = v.0; value_bytes = v.1 }

-- no times and no value are sent
blank : (k : List ℕ) (e b : ℕ) → Fits key_limit k → Small (args k 0 0 e b [])
blank k e b f = sized (args k 0 0 e b []) f (omega arith) (omega arith) (nil-fits value_limit)

-- both times are, and d behind them
timed : {B : Type 0} (d : Codec B) (a : Args) (b : B) → Valid (seq (limited key_limit) λ _. seq v_int λ _. seq v_int λ _. d) (a.key, (a.lifespan, (a.max_idle, b)))
    → (Valid d b → Valid (limited value_limit) a.value) → Small a
timed d a b v f =
    let x = seq-valid _ _ _ v in
    let y = seq-valid _ _ _ x.1 in
    let z = seq-valid _ _ _ y.1 in
    sized a (limited-valid key_limit a.key x.0) (v_int-small a.lifespan y.0) (v_int-small a.max_idle z.0)
    (limited-valid value_limit a.value (f z.1))

args-small : (s : Shape) (a : Args) → Valid (args_of s) a → Small a
unfolding args_of
args-small keyed a v = subst Small (keyed_is a v) (blank a.key 0 0 (limited-valid key_limit a.key (type_valid _ _ _ _ a v).1))
args-small writes a v = timed (limited value_limit) a a.value (type_valid _ _ _ _ a v).1 (λ w. w)
args-small writes_if a v =
    timed (seq entry_version λ _. limited value_limit) a (a.entry_version, a.value) (type_valid _ _ _ _ a v).1 (λ w. (seq-valid _ _ _ w).1)
args-small keyed_if a v =
    subst Small (keyed_if_is a v) (blank a.key a.entry_version 0 (limited-valid key_limit a.key (seq-valid _ _ _ (type_valid _ _ _ _ a v).1).0))
args-small bare a v = subst Small (bare-is a v) (blank [] 0 0 (nil-fits key_limit))
args-small (bulk most) a v = subst Small (bulk-is a most v) (blank [] 0 a.bulk (nil-fits key_limit))

pub record RequestSmall (r : Request) : Type 0 where
  pub id : r.id < 0x8000_0000_0000_0000
  pub name : length r.name ≤ name_limit
  pub name_bytes : is_bytes r.name ≡ true
  pub flags : r.flags ≤ 31
  pub intelligence : r.intelligence ≤ 3
  pub topology : r.topology < 0x1_0000_0000
  pub args : Small r.args

id-small : (n : ℕ) → Valid v_long n → n < 0x8000_0000_0000_0000
unfolding v_long
id-small n v = (valid 2 127 8 0 n v).1

name-fits : (lim : ℕ) (s : List ℕ) → Valid (limited_text lim) s → Fits lim s
unfolding limited_text
name-fits lim s v = limited-valid lim s (guard-valid is_text 7 (limited lim) s v).1

pub request-small : (r : Request) → Valid request r → RequestSmall r
request-small r v =
    let p = parts r v in
    let n = name-fits name_limit r.name p.name in
    let i = (guard-valid _ 8 byte r.intelligence p.intelligence).0 in
    record {
      id = id-small r.id p.id;
      name = n.0;
      name_bytes = n.1;
      flags = omega (arith, flags-small r.version, leb-true r.flags (edition_at r.version).flags (guard-valid _ 8 v_int r.flags p.flags).0);
      intelligence = leb-true r.intelligence 3 (both (leb 1 r.intelligence) (leb r.intelligence 3) i).1;
      topology = v_int-small r.topology p.topology;
      args = args-small (shape_of r.op) r.args p.args;
    }

pub small : (r : Request) → Valid request r → Small r.args
small r v = (request-small r v).args
