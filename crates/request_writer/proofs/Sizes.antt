-- How many bytes a request takes. Assumes nothing.
use mathlib.Core.Path.{◌≡◌, refl, ap}
use mathlib.Core.Bool.{Bool, true, false, cond}
use Prim.Native.Nat.{ℕ, ◌+◌, ◌≤◌}
use native.Mathlib.Omega.{arith}
use lib.ListN.{length, length-append}
use Rattle.wire.specs.Codec.{empty, byte, guard, seq, as_type}
use Rattle.wire.specs.Number.{v_int, v_long}
use Rattle.wire.proofs.NumberWrite.{int_long}
use Rattle.wire.proofs.FieldLaws.{big_length, limited_length}
use Rattle.field.specs.FieldRead.{limited_text}
use Rattle.message.specs.Arguments.{Shape, keyed, writes, writes_if, keyed_if, bare, bulk, shape_of, Args, args_of, name_limit, key_limit, value_limit}
use Rattle.message.specs.Request.{operation, transaction, edition_at, fields, Request, request}
use Rattle.message.proofs.Editions.{flags-small}
use Rattle.request_writer.specs.Parts.{limits_of, size_of, args_size}
use Rattle.request_writer.proofs.Rules.{Within, bulk_int, Sends, sends, Rules}

int_size : (v : ℕ) → v ≤ 0xffff_ffff → length (v_int.enc v) ≡ length (v_long.enc v)
int_size v h = ap length (int_long v (omega arith))

module _ (a : Args) where
  args-size : (shape : Shape) → Sends shape → (limits_of shape).bulk ≤ 0xffff_ffff → Within (limits_of shape) a → length ((args_of shape).enc a) ≡ args_size (limits_of shape) a
  unfolding args_of as_type seq guard empty
  args-size keyed t h w = omega (arith, limited_length key_limit a.key (omega (arith, w.key)))
  args-size writes t h w =
      simp length-append
      (omega
      (arith, limited_length key_limit a.key (omega (arith, w.key)), int_size a.lifespan w.lifespan, int_size a.max_idle w.idle, limited_length value_limit a.value (omega (arith, w.value))))
  args-size writes_if t h w =
      simp length-append
      (omega
      (arith, limited_length key_limit a.key (omega (arith, w.key)), int_size a.lifespan w.lifespan, int_size a.max_idle w.idle, big_length 8 a.entry_version, limited_length value_limit a.value (omega (arith, w.value))))
  args-size keyed_if t h w = simp length-append (omega (arith, limited_length key_limit a.key (omega (arith, w.key)), big_length 8 a.entry_version))
  args-size bare t h w = refl
  args-size (bulk most) t h w = rw t (omega (arith, int_size a.bulk (omega (arith, w.bulk))))

  -- no shape sends more than the greatest key and value
  pub args-small : (shape : Shape) → Within (limits_of shape) a → (length a.key ≤ key_limit) × (length a.value ≤ value_limit)
  args-small keyed w = (omega (arith, w.key), omega (arith, w.value))
  args-small writes w = (omega (arith, w.key), omega (arith, w.value))
  args-small writes_if w = (omega (arith, w.key), omega (arith, w.value))
  args-small keyed_if w = (omega (arith, w.key), omega (arith, w.value))
  args-small bare w = (omega (arith, w.key), omega (arith, w.value))
  args-small (bulk most) w = (omega (arith, w.key), omega (arith, w.value))

-- the transaction type: a byte, or none
pub transaction_size : (t : Bool) → length ((transaction t).enc tt) ≡ cond t 1 0
unfolding transaction as_type guard byte empty
transaction_size true = refl
transaction_size false = refl

pub request-size : (q : Request) → Rules q → length (request.enc q)
    ≡ 4 + length (v_long.enc q.id) + size_of q.name + length (v_long.enc q.flags) + length (v_long.enc q.topology)
    + length ((transaction (edition_at q.version).transaction).enc tt) + args_size (limits_of (shape_of q.op)) q.args
unfolding request fields operation limited_text as_type seq guard byte
request-size q r =
    simp length-append
    (omega
    (arith, limited_length name_limit q.name (omega (arith, r.name)), int_size q.flags (omega (arith, r.flags, flags-small q.version)), int_size q.topology r.topology, args-size q.args (shape_of q.op) (sends q.op) (bulk_int q.op) r.args))
