-- What is promised of every memory with these links, of one with these addresses too. Rests on Rows.
use Rattle.std.proofs.Common.{rules}
use Rattle.table.specs.Words.{addresses≔}
use Rattle.table.specs.Places.{row, place_of}
use Rattle.words.specs.LentWords.{compared_of}
use Rattle.list.specs.Rows.{RowLeaves}
use Rattle.list.proofs.actor.Actor.row_11.Goals as goal

pub returns-in_err-read : goal.returns-in_err-read
unfolding RowLeaves row place_of
returns-in_err-read c m = search (rules, c.read_link.ensures (addresses≔ c.args.addresses.now m))

pub returns-in-Less : goal.returns-in-Less
unfolding RowLeaves row place_of compared_of
returns-in-Less c m = search (rules, c.read_link.ensures (addresses≔ c.args.addresses.now m))

pub returns-in-Equal : goal.returns-in-Equal
unfolding RowLeaves row place_of compared_of
returns-in-Equal c m = search (rules, c.read_link.ensures (addresses≔ c.args.addresses.now m))

pub returns-in-Greater : goal.returns-in-Greater
unfolding RowLeaves row place_of compared_of
returns-in-Greater c m = search (rules, c.read_link.ensures (addresses≔ c.args.addresses.now m))
