-- `reply_writer::header::put_header` meets its contract: a field after the other. Assumes nothing.
use native.Mathlib.Omega.{arith}
use Rattle.wire.specs.Number.{v_long}
use Rattle.reply_writer.proofs.SendLaws.{put-header}
use Rattle.reply_writer.proofs.header.put_header.Goals as goal

pub returns : goal.returns
unfolding v_long
returns c =
    put-header _ _ _ _ c.requires.id_bound (omega arith) (omega arith) c.requires.room c.put_byte-c1.ensures c.put_number-c2.ensures c.put_byte-c3.ensures c.put_byte-c4.ensures c.put_byte.ensures
