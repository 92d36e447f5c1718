-- What is promised of every memory with these links, of one with these deleters too. Rests on Accesses.
use Rattle.std.proofs.Common.{rules}
use Rattle.table.specs.Words.{deleters≔, deleter_at}
use Rattle.list.specs.Accesses.{deleter_read}
use Rattle.list.proofs.actor.Actor.read_deleter.Goals as goal

pub returns-in_err-n : goal.returns-in_err-n
unfolding deleter_read
returns-in_err-n c m = search (rules, c.usable.ensures (deleters≔ c.args.deleters.now m))

pub returns : goal.returns
unfolding deleter_read deleter_at
returns c m = search (rules, c.usable.ensures (deleters≔ c.args.deleters.now m))
