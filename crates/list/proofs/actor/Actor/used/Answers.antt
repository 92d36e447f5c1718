-- What is promised of every memory with these links and sizes, of the lent one. Rests on LentMemory.
use Rattle.std.proofs.Common.{rules}
use Rattle.list.proofs.actor.Actor.used.Goals as goal

pub returns : goal.returns
returns c m = search (rules, c.in_use.ensures m)
