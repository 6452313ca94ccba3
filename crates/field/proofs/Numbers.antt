-- The two kinds of number: which numbers have a written form, and its bytes. Assumes nothing.
use mathlib.Core.Path.{◌≡◌, refl}
use mathlib.Core.List.{List}
use mathlib.Core.Bool.{false}
use Prim.Native.Nat.{ℕ, ◌≤◌, ◌<◌}
use native.Mathlib.Omega.{arith}
use Rattle.wire.specs.Codec.{Valid}
use Rattle.wire.specs.Number.{v_int, v_long}
use Rattle.wire.specs.Write.{Wrote}
use Rattle.wire.proofs.NumberWrite.{number-good, number-bad, int_long}
use Rattle.field.specs.FieldRead.{codec_of, greatest_of}
use Rattle.field.specs.declared.Kind.{Kind}
use Rattle.field.specs.declared.Kind.TheVariants.{VInt, VLong}

module _ (v : ℕ) where
  pub kind_good : (k : Kind) → v ≤ greatest_of k → Valid (codec_of k) v
  kind_good VInt h = number-good 5 15 4 0 v (omega arith) (omega arith)
  kind_good VLong h = number-good 2 127 8 0 v (omega arith) (omega arith)

  pub kind_bad : (k : Kind) → greatest_of k < v → (codec_of k).ok v ≡ false
  kind_bad VInt h = number-bad 5 15 4 0 v h
  kind_bad VLong h = number-bad 2 127 8 0 v h

  pub kind_bytes : (k : Kind) → v ≤ greatest_of k → (codec_of k).enc v ≡ v_long.enc v
  unfolding v_int v_long
  kind_bytes VInt h = int_long v (omega arith)
  kind_bytes VLong h = refl

  pub wrote_kind : (k : Kind) {old new : List ℕ} {at r : ℕ} → v ≤ greatest_of k → Wrote v_long v old new at r → Wrote (codec_of k) v old new at r
  wrote_kind k h w = record { next = rw (kind_bytes k h) w.next; list = rw (kind_bytes k h) w.list; long = w.long }

  pub greatest-long : (k : Kind) → v ≤ greatest_of k → v < 0x8000_0000_0000_0000
  greatest-long VInt h = omega arith
  greatest-long VLong h = omega arith
