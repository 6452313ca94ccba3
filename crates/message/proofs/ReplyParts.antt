-- A reply is valid where each of its fields is. Assumes nothing.
use mathlib.Core.Path.{refl}
use mathlib.Core.List.{List}
use mathlib.Core.Bool.{Bool}
use Prim.Native.Nat.{ℕ}
use lib.Dec.{eqb}
use Rattle.wire.specs.Codec.{Valid, byte, guard, all}
use Rattle.wire.specs.Number.{v_long}
use Rattle.wire.proofs.Laws.{seq-valid, seq-good, type_valid, type_good}
use Rattle.message.specs.ReplyTable.{Body, body_at, is_allowed, allowed}
use Rattle.message.specs.Payload.{fields_of, form_of}
use Rattle.message.specs.Reply.{Reply, fields, to_reply, from_reply, message}

pub record Parts (comes : ℕ → Bool) (statuses : ℕ → List (ℕ × Body)) (flag : Bool) (r : Reply) : Type 0 where
  pub id : Valid v_long r.id
  pub op : Valid (guard comes 4 byte) r.op
  pub status : Valid (guard (λ s. is_allowed (body_at s (statuses r.op))) 8 byte) r.status
  pub body : Valid (fields_of (form_of flag (allowed (body_at r.status (statuses r.op))))) r.payload

magic_good : Valid (guard (λ m. eqb m 0xa1) 1 byte) 0xa1
unfolding guard byte
magic_good = refl

marker_good : Valid (guard (λ m. eqb m 0) 8 byte) 0
unfolding guard byte
marker_good = refl

module _ (comes : ℕ → Bool) (statuses : ℕ → List (ℕ × Body)) (flag : Bool) (r : Reply) where
  pub parts : Valid (message comes statuses flag) r → Parts comes statuses flag r
  unfolding message fields
  parts v =
      let a = seq-valid _ _ _ (type_valid all to_reply from_reply (fields comes statuses flag) r v).1 in
      let b = seq-valid _ _ _ a.1 in
      let c = seq-valid _ _ _ b.1 in
      let d = seq-valid _ _ _ c.1 in
      record { id = b.0; op = c.0; status = d.0; body = (seq-valid _ _ _ d.1).1 }

  pub whole-reply : Parts comes statuses flag r → Valid (message comes statuses flag) r
  unfolding message fields
  whole-reply p =
      type_good all to_reply from_reply (fields comes statuses flag) refl
      (seq-good _ _ magic_good (seq-good _ _ p.id (seq-good _ _ p.op (seq-good _ _ p.status (seq-good _ _ marker_good p.body)))))
