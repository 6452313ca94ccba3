-- `request_writer::write::Content::put_args` meets its contract: the limits say which arguments are sent. Assumes nothing.
use Rattle.request_writer.proofs.Puts.{put_args}
use Rattle.request_writer.proofs.write.Content.put_args.Goals as goal

pub returns : goal.returns
returns c =
    put_args c.args.self.head.op _ _ c.limits_of-l.ensures c.requires c.put_bytes-a.ensures c.put_count-b.ensures c.put_count-c.ensures c.put_entry-d.ensures c.put_bytes-e.ensures c.put_count.ensures
