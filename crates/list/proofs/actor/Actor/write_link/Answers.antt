-- What is written is the link to a usable node. Rests on Accessed.
use Rattle.std.proofs.Common.{rules}
use Rattle.list.proofs.Accessed.{link_made}
use Rattle.list.proofs.actor.Actor.write_link.Goals as goal

pub returns : goal.returns
returns c m = search (rules, link_made, c.in_ok-n.ensures m, c.in_ok-target.ensures m)
