-- A request is well-formed where each of its fields is. Assumes nothing.
use mathlib.Core.Path.{refl}
use mathlib.Core.Bool.{Bool, true, false, ◌&&◌}
use lib.Dec.{eqb, leb}
use Rattle.wire.specs.Codec.{Valid, empty, byte, guard, as_type, all}
use Rattle.wire.specs.Number.{v_int, v_long}
use Rattle.wire.proofs.Laws.{seq-valid, seq-good, type_valid, type_good}
use Rattle.field.specs.FieldRead.{limited_text}
use Rattle.message.specs.Arguments.{name_limit, shape_of, args_of}
use Rattle.message.specs.Request.{operation, transaction, is_version, edition_at, fields, to_request, from_request, Request, request}

pub record Parts (r : Request) : Type 0 where
  pub id : Valid v_long r.id
  pub version : Valid (guard is_version 3 byte) r.version
  pub op : Valid (operation (edition_at r.version)) r.op
  pub name : Valid (limited_text name_limit) r.name
  pub flags : Valid (guard (λ f. leb f (edition_at r.version).flags) 8 v_int) r.flags
  pub intelligence : Valid (guard (λ i. leb 1 i && leb i 3) 8 byte) r.intelligence
  pub topology : Valid v_int r.topology
  pub args : Valid (args_of (shape_of r.op)) r.args

magic_good : Valid (guard (λ m. eqb m 0xa0) 1 byte) 0xa0
unfolding guard byte
magic_good = refl

transaction-good : (t : Bool) → Valid (transaction t) tt
unfolding transaction as_type guard byte empty
transaction-good true = refl
transaction-good false = refl

module _ (r : Request) where
  pub parts : Valid request r → Parts r
  unfolding request fields
  parts v =
      let a = seq-valid _ _ _ (type_valid all to_request from_request fields r v).1 in
      let b = seq-valid _ _ _ a.1 in
      let c = seq-valid _ _ _ b.1 in
      let d = seq-valid _ _ _ c.1 in
      let e = seq-valid _ _ _ d.1 in
      let f = seq-valid _ _ _ e.1 in
      let g = seq-valid _ _ _ f.1 in
      let h = seq-valid _ _ _ g.1 in
      let i = seq-valid _ _ _ h.1 in
      record { id = b.0; version = c.0; op = d.0; name = e.0; flags = f.0; intelligence = g.0; topology = h.0; args = i.1 }

  pub whole-request : Parts r → Valid request r
  unfolding request fields
  whole-request p =
      type_good all to_request from_request fields refl
      (seq-good _ _ magic_good (seq-good _ _ p.id (seq-good _ _ p.version (seq-good _ _ p.op (seq-good _ _ p.name
      (seq-good _ _ p.flags (seq-good _ _ p.intelligence (seq-good _ _ p.topology
      (seq-good _ _ (transaction-good (edition_at r.version).transaction) p.args)))))))))
