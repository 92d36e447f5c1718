-- What is promised of every memory with these links and sizes, of the lent one. Rests on LentMemory and Accesses.
use Rattle.std.proofs.Common.{rules}
use Rattle.list.specs.Accesses.{link_read}
use Rattle.list.proofs.actor.Actor.read_link.Goals as goal

pub returns : goal.returns
unfolding link_read
returns c m = search (rules, c.link_met.ensures m, c.usable.ensures m)
