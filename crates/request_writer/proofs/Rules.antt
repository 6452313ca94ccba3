-- The rules of a request: which requests have a written form. Assumes nothing.
use mathlib.Core.Path.{◌≡◌, refl, sym, ◌∙◌}
use mathlib.Core.Bool.{Bool, true, false, ◌&&◌}
use Prim.Native.Nat.{ℕ, ◌≤◌, ◌<◌, ◌^◌}
use native.Mathlib.Omega.{arith}
use lib.ListN.{length}
use lib.Dec.{eqb, leb}
use borrow.Author.Tests.{leb-true, le-leb, eqb-true, eq-eqb, lt-ltb}
use Rattle.wire.specs.Codec.{Valid, Bytes, empty, byte}
use Rattle.wire.specs.Number.{v_int, v_long}
use Rattle.wire.specs.Field.{limited}
use Rattle.wire.proofs.Laws.{both, and, seq-valid, seq-good, guard-valid, guard_good, type_valid, type_good}
use Rattle.wire.proofs.NumberLaws.{valid}
use Rattle.wire.proofs.NumberWrite.{number-good}
use Rattle.wire.proofs.FieldLaws.{big_good, limited-valid, limited-good}
use Rattle.text.specs.Text.{is_text}
use Rattle.field.specs.FieldRead.{limited_text}
use Rattle.message.specs.declared.Operation.{Operation}
use Rattle.message.specs.declared.Operation.TheVariants as op
use Rattle.message.specs.Operation.{code_of}
use Rattle.message.specs.Arguments.{Shape, keyed, writes, writes_if, keyed_if, bare, bulk, shape_of, Args, args_of, is_empty, no_times, no_entry_version, no_bulk, no_value, name_limit, key_limit, value_limit}
use Rattle.message.specs.Request.{op_fits, operation, is_version, edition_at, Request, request}
use Rattle.message.proofs.RequestLaws.{code-found}
use Rattle.message.proofs.RequestParts.{parts, whole-request}
use Rattle.message.proofs.Editions.{flags-small, version-small}
use Rattle.message.proofs.Every.{every, code-small}
use Rattle.std.specs.Cmp.{both_ways}
use Rattle.request_writer.specs.Parts.{Limits, limits_of, is_within, keeps_rules}

-- numbers and lists that are sent, and those that are not
int_least : (v : ℕ) → Valid v_int v → v ≤ 0xffff_ffff
unfolding v_int
int_least v g = omega (arith, (valid 5 15 4 0 v g).1)

int_good : (v : ℕ) → v ≤ 0xffff_ffff → Valid v_int v
unfolding v_int
int_good v h = number-good 5 15 4 0 v (omega arith) (omega arith)

no_number : (n : ℕ) → eqb n 0 ≡ true → n ≤ 0
no_number n e = omega (arith, eqb-true n 0 e)

is_zero : (n : ℕ) → n ≤ 0 → eqb n 0 ≡ true
is_zero n h = eq-eqb n 0 (omega arith)

-- the arguments keep within the limits of their shape
pub record Within (l : Limits) (a : Args) : Type 0 where
  pub key : length a.key ≤ l.key
  pub lifespan : a.lifespan ≤ l.time
  pub idle : a.max_idle ≤ l.time
  pub entry : a.entry_version ≤ l.entry
  pub value : length a.value ≤ l.value
  pub bulk : a.bulk ≤ l.bulk

module _ (a : Args) where
  times : no_times a ≡ true → (a.lifespan ≤ 0) × (a.max_idle ≤ 0)
  times e = let b = both (eqb a.lifespan 0) (eqb a.max_idle 0) e in (no_number a.lifespan b.0, no_number a.max_idle b.1)

  no-times : a.lifespan ≤ 0 → a.max_idle ≤ 0 → no_times a ≡ true
  no-times l m = and (is_zero a.lifespan l) (is_zero a.max_idle m)

  pub within : (shape : Shape) → a.entry_version < 256 ^ 8 → Valid (args_of shape) a → Within (limits_of shape) a
  unfolding args_of
  within keyed h v =
      let w = type_valid _ _ _ _ a v in
      let b = both (no_times a) (no_entry_version a && (no_bulk a && no_value a)) w.0 in
      let d = both (no_entry_version a) (no_bulk a && no_value a) b.1 in
      let f = both (no_bulk a) (no_value a) d.1 in
      record {
        key = (limited-valid key_limit a.key w.1).0;
        lifespan = (times b.0).0;
        idle = (times b.0).1;
        entry = no_number a.entry_version d.0;
        value = no_number (length a.value) f.1;
        bulk = no_number a.bulk f.0;
      }
  within writes h v =
      let w = type_valid _ _ _ _ a v in
      let b = both (no_entry_version a) (no_bulk a) w.0 in
      let k = seq-valid _ _ _ w.1 in
      let l = seq-valid _ _ _ k.1 in
      let m = seq-valid _ _ _ l.1 in
      record {
        key = (limited-valid key_limit a.key k.0).0;
        lifespan = int_least a.lifespan l.0;
        idle = int_least a.max_idle m.0;
        entry = no_number a.entry_version b.0;
        value = (limited-valid value_limit a.value m.1).0;
        bulk = no_number a.bulk b.1;
      }
  within writes_if h v =
      let w = type_valid _ _ _ _ a v in
      let k = seq-valid _ _ _ w.1 in
      let l = seq-valid _ _ _ k.1 in
      let m = seq-valid _ _ _ l.1 in
      let e = seq-valid _ _ _ m.1 in
      record {
        key = (limited-valid key_limit a.key k.0).0;
        lifespan = int_least a.lifespan l.0;
        idle = int_least a.max_idle m.0;
        entry = omega arith;
        value = (limited-valid value_limit a.value e.1).0;
        bulk = no_number a.bulk w.0;
      }
  within keyed_if h v =
      let w = type_valid _ _ _ _ a v in
      let k = seq-valid _ _ _ w.1 in
      let b = both (no_times a) (no_bulk a && no_value a) w.0 in
      let d = both (no_bulk a) (no_value a) b.1 in
      record {
        key = (limited-valid key_limit a.key k.0).0;
        lifespan = (times b.0).0;
        idle = (times b.0).1;
        entry = omega arith;
        value = no_number (length a.value) d.1;
        bulk = no_number a.bulk d.0;
      }
  within bare h v =
      let w = type_valid _ _ _ _ a v in
      let b = both (is_empty a.key) (no_times a && (no_entry_version a && (no_bulk a && no_value a))) w.0 in
      let d = both (no_times a) (no_entry_version a && (no_bulk a && no_value a)) b.1 in
      let e = both (no_entry_version a) (no_bulk a && no_value a) d.1 in
      let f = both (no_bulk a) (no_value a) e.1 in
      record {
        key = no_number (length a.key) b.0;
        lifespan = (times d.0).0;
        idle = (times d.0).1;
        entry = no_number a.entry_version e.0;
        value = no_number (length a.value) f.1;
        bulk = no_number a.bulk f.0;
      }
  within (bulk most) h v =
      let w = type_valid _ _ _ _ a v in
      let b = both (is_empty a.key) (no_times a && (no_entry_version a && no_value a)) w.0 in
      let d = both (no_times a) (no_entry_version a && no_value a) b.1 in
      let e = both (no_entry_version a) (no_value a) d.1 in
      record {
        key = no_number (length a.key) b.0;
        lifespan = (times d.0).0;
        idle = (times d.0).1;
        entry = no_number a.entry_version e.0;
        value = no_number (length a.value) e.1;
        bulk = leb-true a.bulk most (guard-valid (λ n. leb n most) 8 v_int a.bulk w.1).0;
      }

  within-good : (shape : Shape) → (limits_of shape).bulk ≤ 0xffff_ffff → Bytes a.key → Bytes a.value → Within (limits_of shape) a → Valid (args_of shape) a
  unfolding args_of empty
  within-good keyed h bk bv w =
      type_good _ _ _ _
      (and (no-times w.lifespan w.idle) (and (is_zero a.entry_version w.entry) (and (is_zero a.bulk w.bulk) (is_zero (length a.value) w.value))))
      (limited-good key_limit a.key (omega arith) w.key bk)
  within-good writes h bk bv w =
      type_good _ _ _ _ (and (is_zero a.entry_version w.entry) (is_zero a.bulk w.bulk))
      (seq-good _ _ (limited-good key_limit a.key (omega arith) w.key bk)
      (seq-good _ _ (int_good a.lifespan w.lifespan)
      (seq-good _ _ (int_good a.max_idle w.idle) (limited-good value_limit a.value (omega arith) w.value bv))))
  within-good writes_if h bk bv w =
      type_good _ _ _ _ (is_zero a.bulk w.bulk)
      (seq-good _ _ (limited-good key_limit a.key (omega arith) w.key bk)
      (seq-good _ _ (int_good a.lifespan w.lifespan)
      (seq-good _ _ (int_good a.max_idle w.idle)
      (seq-good _ _ (big_good 8 a.entry_version (omega (arith, w.entry))) (limited-good value_limit a.value (omega arith) w.value bv)))))
  within-good keyed_if h bk bv w =
      type_good _ _ _ _ (and (no-times w.lifespan w.idle) (and (is_zero a.bulk w.bulk) (is_zero (length a.value) w.value)))
      (seq-good _ _ (limited-good key_limit a.key (omega arith) w.key bk) (big_good 8 a.entry_version (omega (arith, w.entry))))
  within-good bare h bk bv w =
      type_good _ _ _ _
      (and (is_zero (length a.key) w.key)
      (and (no-times w.lifespan w.idle) (and (is_zero a.entry_version w.entry) (and (is_zero a.bulk w.bulk) (is_zero (length a.value) w.value)))))
      refl
  within-good (bulk most) h bk bv w =
      type_good _ _ _ _
      (and (is_zero (length a.key) w.key) (and (no-times w.lifespan w.idle) (and (is_zero a.entry_version w.entry) (is_zero (length a.value) w.value))))
      (guard_good (λ n. leb n most) 8 v_int (le-leb a.bulk most w.bulk) (int_good a.bulk (omega (arith, w.bulk))))

-- each number that an operation sends is a vInt
pub bulk_int : (o : Operation) → (limits_of (shape_of o)).bulk ≤ 0xffff_ffff
unfolding shape_of
bulk_int o = leb-true (limits_of (shape_of o)).bulk 0xffff_ffff (every (λ o. leb (limits_of (shape_of o)).bulk 0xffff_ffff) refl o)

-- a number that is sent has a limit that is not 0
abbrev pub Sends : Shape → Type 0
Sends (bulk most) = eqb most 0 ≡ false
Sends keyed = Unit {0}
Sends writes = Unit {0}
Sends writes_if = Unit {0}
Sends keyed_if = Unit {0}
Sends bare = Unit {0}

pub sends : (o : Operation) → Sends (shape_of o)
unfolding shape_of
sends op.Put = tt
sends op.Get = tt
sends op.PutIfAbsent = tt
sends op.Replace = tt
sends op.ReplaceIfUnmodified = tt
sends op.Remove = tt
sends op.RemoveIfUnmodified = tt
sends op.ContainsKey = tt
sends op.GetWithVersion = tt
sends op.Clear = tt
sends op.Stats = tt
sends op.Ping = tt
sends op.BulkGet = refl
sends op.BulkGetKeys = refl

-- the rules of a request, one by one
pub record Rules (q : Request) : Type 0 where
  pub id : q.id ≤ 0x7fff_ffff_ffff_ffff
  pub version : is_version q.version ≡ true
  pub serves : (edition_at q.version).serves q.op ≡ true
  pub flags : q.flags ≤ (edition_at q.version).flags
  pub low : 1 ≤ q.intelligence
  pub high : q.intelligence ≤ 3
  pub topology : q.topology ≤ 0xffff_ffff
  pub name : length q.name ≤ name_limit
  pub text : is_text q.name ≡ true
  pub args : Within (limits_of (shape_of q.op)) q.args

-- the test of limits, and of the rules
within-of : (l : Limits) (a : Args) → is_within l a ≡ true → Within l a
within-of l a e =
    let f₅ = both _ _ e in
    let f₄ = both _ _ f₅.0 in
    let f₃ = both _ _ f₄.0 in
    let f₂ = both _ _ f₃.0 in
    let f₁ = both _ _ f₂.0 in
    record {
      key = leb-true _ _ f₁.0;
      lifespan = leb-true _ _ f₁.1;
      idle = leb-true _ _ f₂.1;
      entry = leb-true _ _ f₃.1;
      value = leb-true _ _ f₄.1;
      bulk = leb-true _ _ f₅.1;
    }

within-test : (l : Limits) (a : Args) → Within l a → is_within l a ≡ true
within-test l a w =
    and (and (and (and (and (le-leb _ _ w.key) (le-leb _ _ w.lifespan)) (le-leb _ _ w.idle)) (le-leb _ _ w.entry)) (le-leb _ _ w.value)) (le-leb _ _ w.bulk)

pub rules-of : (q : Request) → keeps_rules q ≡ true → Rules q
rules-of q e =
    let f₉ = both _ _ e in
    let f₈ = both _ _ f₉.0 in
    let f₇ = both _ _ f₈.0 in
    let f₆ = both _ _ f₇.0 in
    let f₅ = both _ _ f₆.0 in
    let f₄ = both _ _ f₅.0 in
    let f₃ = both _ _ f₄.0 in
    let f₂ = both _ _ f₃.0 in
    let f₁ = both _ _ f₂.0 in
    record {
      id = leb-true _ _ f₁.0;
      version = f₁.1;
      serves = f₂.1;
      flags = leb-true _ _ f₃.1;
      low = leb-true _ _ f₄.1;
      high = leb-true _ _ f₅.1;
      topology = leb-true _ _ f₆.1;
      name = leb-true _ _ f₇.1;
      text = f₈.1;
      args = within-of _ _ f₉.1;
    }

rules-test : (q : Request) → Rules q → keeps_rules q ≡ true
rules-test q r =
    and
    (and
    (and
    (and (and (and (and (and (and (le-leb _ _ r.id) r.version) r.serves) (le-leb _ _ r.flags)) (le-leb _ _ r.low)) (le-leb _ _ r.high))
    (le-leb _ _ r.topology))
    (le-leb _ _ r.name))
    r.text)
    (within-test _ _ r.args)

-- an operation can be sent where the version has it
module _ (q : Request) where
  operation-serves : Valid (operation (edition_at q.version)) q.op → (edition_at q.version).serves q.op ≡ true
  unfolding operation
  operation-serves v =
      let w = (guard-valid (op_fits (edition_at q.version)) 4 byte (code_of q.op) (type_valid _ _ _ _ q.op v).1).0 in
      rw (code-found q.op) at w

  operation-good : (edition_at q.version).serves q.op ≡ true → Valid (operation (edition_at q.version)) q.op
  unfolding operation byte
  operation-good s =
      type_good _ _ _ _ refl
      (guard_good (op_fits (edition_at q.version)) 4 byte (rw (code-found q.op, s)) (lt-ltb (code_of q.op) 256 (omega (arith, code-small q.op))))

rules : (q : Request) → q.args.entry_version < 256 ^ 8 → Valid request q → Rules q
unfolding limited_text v_long
rules q h v =
    let p = parts q v in
    let n = guard-valid is_text 7 (limited name_limit) q.name p.name in
    let j = both (leb 1 q.intelligence) (leb q.intelligence 3) (guard-valid _ 8 byte q.intelligence p.intelligence).0 in
    record {
      id = omega (arith, (valid 2 127 8 0 q.id p.id).1);
      version = (guard-valid is_version 3 byte q.version p.version).0;
      serves = operation-serves q p.op;
      text = n.0;
      name = (limited-valid name_limit q.name n.1).0;
      flags = leb-true q.flags _ (guard-valid _ 8 v_int q.flags p.flags).0;
      low = leb-true 1 q.intelligence j.0;
      high = leb-true q.intelligence 3 j.1;
      topology = int_least q.topology p.topology;
      args = within q.args (shape_of q.op) h p.args;
    }

good : (q : Request) → Bytes q.name → Bytes q.args.key → Bytes q.args.value → Rules q → Valid request q
unfolding limited_text v_long byte
good q b bk bv r =
    whole-request q (record {
      id = number-good 2 127 8 0 q.id (omega arith) (omega (arith, r.id));
      version = guard_good is_version 3 byte r.version (lt-ltb q.version 256 (version-small q.version r.version));
      op = operation-good q r.serves;
      name = guard_good is_text 7 (limited name_limit) r.text (limited-good name_limit q.name (omega arith) r.name b);
      flags = guard_good _ 8 v_int (le-leb q.flags _ r.flags) (int_good q.flags (omega (arith, r.flags, flags-small q.version)));
      intelligence =
          guard_good _ 8 byte (and (le-leb 1 q.intelligence r.low) (le-leb q.intelligence 3 r.high)) (lt-ltb q.intelligence 256 (omega (arith, r.high)));
      topology = int_good q.topology r.topology;
      args = within-good q.args (shape_of q.op) (bulk_int q.op) bk bv r.args;
    })

-- the test of the rules is that of the format, where the numbers and bytes are such
pub judged : (q : Request) → q.args.entry_version < 256 ^ 8 → Bytes q.name → Bytes q.args.key → Bytes q.args.value → {t u : Bool} → t ≡ keeps_rules q → t ≡ u
    → request.ok q ≡ u
judged q h b bk bv e f =
    sym (both_ways (keeps_rules q) (request.ok q) (λ g. good q b bk bv (rules-of q g)) (λ v. rules-test q (rules q h v))) ∙ sym e ∙ f
