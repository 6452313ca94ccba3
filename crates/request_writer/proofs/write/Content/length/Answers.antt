-- `request_writer::write::Content::length` meets its contract: the lengths of the fields make the whole. Assumes nothing.
use native.Mathlib.Omega.{arith}
use Rattle.message.specs.Arguments.{shape_of}
use Rattle.request_writer.proofs.Rules.{rules-of}
use Rattle.request_writer.proofs.Sizes.{args-small, request-size}
use Rattle.request_writer.proofs.write.Content.length.Goals as goal

pub args_len-a-requires : goal.args_len-a-requires
args_len-a-requires c =
    let small = args-small _ (shape_of c.args.self.head.op) (rules-of _ c.requires).args in
    record { key_len_bound = small.0; value_len_bound = small.1 }

pub returns : goal.returns
returns c =
    omega (arith, request-size _ (rules-of _ c.requires), c.number_len-id.ensures, c.size-n.ensures, c.number_len-flags.ensures, c.number_len-topology.ensures, c.transaction_len-t.ensures, c.args_len-a.ensures)
