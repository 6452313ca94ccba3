-- `board::serve_from` keeps what it calls for: a table that was made is sound. Assumes nothing.
use Rattle.std.proofs.Common.{rules}
use Rattle.table.proofs.HasImage.{made-sound}
use Rattle.board.proofs.serve_from.Goals as goal

pub serve_file-requires : goal.serve_file-requires
serve_file-requires c = made-sound _ c.make.new.t (search rules) c.make.ensures.1
