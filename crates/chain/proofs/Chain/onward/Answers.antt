-- What the words that were read tell of what lies ahead.
use Rattle.std.proofs.Common.{rules}
use Rattle.table.specs.Words.{addresses≔, link_at, address_at}
use Rattle.table.specs.Chain.{ahead}
use Rattle.chain.proofs.Chain.onward.Goals as goal

pub returns-then-not-in_use : goal.returns-then-not-in_use
unfolding ahead link_at address_at
returns-then-not-in_use c = λ m. search (rules, c.in_use.ensures (addresses≔ c.args.self.now.addresses.now m))

pub returns-then-rank_of : goal.returns-then-rank_of
unfolding ahead link_at address_at
returns-then-rank_of c = λ m. search (rules, c.in_use.ensures (addresses≔ c.args.self.now.addresses.now m))

pub returns : goal.returns
unfolding ahead link_at address_at
returns c = λ m. search (rules, c.in_use.ensures (addresses≔ c.args.self.now.addresses.now m))
