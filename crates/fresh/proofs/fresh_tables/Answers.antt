-- The words laid over tables that fit are those of a fresh list. Rests on Freshness.
use Rattle.std.proofs.Common.{rules}
use Rattle.fresh.proofs.Freshness.{words_laid, filled_over, addresses_long, deleters_long}
use Rattle.fresh.proofs.fresh_tables.Goals as goal

pub returns-then-tables_fit-clause-left : goal.returns-then-tables_fit-clause-left
returns-then-tables_fit-clause-left c =
    words_laid _ _ _ _ _ _ c.tables_fit.ensures _ _ _ c.if-tables_fit.true
    (filled_over _ _ _ _ (addresses_long _ _ _ _ _ _ c.tables_fit.ensures c.if-tables_fit.true) (c.fill.ensures.after (search rules)))
    c.fresh_links.ensures
    (filled_over _ _ _ _ (deleters_long _ _ _ _ _ _ c.tables_fit.ensures c.if-tables_fit.true) (c.fill-then-tables_fit.ensures.after (search rules)))
