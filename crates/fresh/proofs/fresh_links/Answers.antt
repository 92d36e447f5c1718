-- Two heads laid over zeros. Rests on Freshness.
use Rattle.std.proofs.Common.{rules}
use Rattle.fresh.proofs.Freshness.{links_laid, filled}
use Rattle.fresh.proofs.fresh_links.Goals as goal

pub returns : goal.returns
returns c =
    λ processes. links_laid _ _ _ _ processes _ c.link_word-tail.ensures c.requires.0
    (filled _ _ _ _ c.requires.1 (c.fill.ensures.after (search rules))) (filled _ _ 2 _ (search rules) (c.fill-2.ensures.after (search rules)))
