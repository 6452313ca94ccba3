-- `reply_reader::read::read_body` meets its contract. Assumes nothing.
use Rattle.std.proofs.Common.{rules}
use Rattle.reply_reader.proofs.ReadLaws.{at_body}
use Rattle.reply_reader.proofs.read.read_body.Goals as goal

pub returns-in-Nothing : goal.returns-in-Nothing
returns-in-Nothing c = search (rules, at_body c.args.s.now c.args.c.at c.args.head)

pub returns-in-Value : goal.returns-in-Value
returns-in-Value c = search (rules, at_body c.args.s.now c.args.c.at c.args.head)

pub returns-in-Versioned : goal.returns-in-Versioned
returns-in-Versioned c = search (rules, at_body c.args.s.now c.args.c.at c.args.head)

pub returns-in-Text : goal.returns-in-Text
returns-in-Text c = search (rules, at_body c.args.s.now c.args.c.at c.args.head)

pub returns-in-Statistics : goal.returns-in-Statistics
returns-in-Statistics c = search (rules, at_body c.args.s.now c.args.c.at c.args.head)

pub returns-in-Listed : goal.returns-in-Listed
returns-in-Listed c = search (rules, at_body c.args.s.now c.args.c.at c.args.head)
