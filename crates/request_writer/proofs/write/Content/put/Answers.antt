-- `request_writer::write::Content::put` meets its contract: field after field. Assumes nothing.
use Rattle.wire.specs.Number.{v_int, v_long}
use Rattle.request_writer.specs.Parts.{request_in}
use Rattle.request_writer.proofs.Puts.{Headed, put_header}
use Rattle.request_writer.proofs.write.Content.put.Goals as goal

pub put_args-requires : goal.put_args-requires
unfolding v_int v_long
put_args-requires c =
    -- what stands where the arguments begin
    let header : Headed (request_in c.args.self) c.args.out.now c.put_transaction-j.new.out c.put_transaction-j.result =
    put_header _ c.requires c.put_byte-a.ensures c.put_number-b.ensures c.put_byte-c.ensures _ c.from.ensures c.put_byte-d.ensures c.put_text-e.ensures c.put_number-f.ensures c.put_byte-g.ensures c.put_number-i.ensures c.put_transaction-j.ensures in
    header.ready

pub shape_of-out : goal.shape_of-out
unfolding v_int v_long
shape_of-out c =
    -- what stands where the arguments begin
    let header : Headed (request_in c.args.self) c.args.out.now c.put_transaction-j.new.out c.put_transaction-j.result =
    put_header _ c.requires c.put_byte-a.ensures c.put_number-b.ensures c.put_byte-c.ensures _ c.from.ensures c.put_byte-d.ensures c.put_text-e.ensures c.put_number-f.ensures c.put_byte-g.ensures c.put_number-i.ensures c.put_transaction-j.ensures in
    (header.wrote _ _ c.put_args.ensures).long

pub returns : goal.returns
unfolding v_int v_long
returns c =
    -- what stands where the arguments begin
    let header : Headed (request_in c.args.self) c.args.out.now c.put_transaction-j.new.out c.put_transaction-j.result =
    put_header _ c.requires c.put_byte-a.ensures c.put_number-b.ensures c.put_byte-c.ensures _ c.from.ensures c.put_byte-d.ensures c.put_text-e.ensures c.put_number-f.ensures c.put_byte-g.ensures c.put_number-i.ensures c.put_transaction-j.ensures in
    header.wrote _ _ c.put_args.ensures
