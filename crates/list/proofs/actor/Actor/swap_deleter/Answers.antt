-- What is promised of every memory with these links, of one with these deleters too. Rests on Accesses.
use Rattle.std.proofs.Common.{rules}
use Rattle.table.specs.Words.{deleters≔}
use Rattle.list.specs.Accesses.{deleter_swap}
use Rattle.list.proofs.actor.Actor.swap_deleter.Goals as goal

pub returns-in_err-n : goal.returns-in_err-n
unfolding deleter_swap
returns-in_err-n c m = search (rules, c.usable.ensures (deleters≔ c.args.deleters.now m))

pub returns : goal.returns
unfolding deleter_swap
returns c m = search (rules, c.usable.ensures (deleters≔ c.args.deleters.now m))
