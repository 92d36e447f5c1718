-- What is swapped are links to usable nodes. Rests on Accessed.
use Rattle.std.proofs.Common.{rules}
use Rattle.list.proofs.Accessed.{link_swapped}
use Rattle.list.proofs.actor.Actor.swap_link.Goals as goal

pub returns : goal.returns
returns c m = search (rules, link_swapped, c.in_ok-n.ensures m, c.in_ok-from.ensures m, c.in_ok-to.ensures m)
