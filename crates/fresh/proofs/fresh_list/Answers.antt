-- Tables that were refused, tables made fresh: what is left to do of the row makes it what the whole promises. Rests on Freshness.
use Rattle.std.proofs.Common.{rules, arith, ◌≡◌, sym}
use Rattle.fresh.proofs.Freshness.{list_refused, list_laid, filled_over}
use Rattle.fresh.proofs.fresh_list.Goals as goal

pub returns-in_err-sizes-clause-left : goal.returns-in_err-sizes-clause-left
returns-in_err-sizes-clause-left c =
    let same : c.from_residual.result ≡ c.fresh_tables.result = search rules in
    rw same (list_refused _ _ _ _ (omega arith) c.fresh_tables.ensures.left _ c.in_err-sizes.was)

pub returns-clause-left : goal.returns-clause-left
returns-clause-left c =
    let laid = filled_over _ _ _ _ (omega arith) (c.fill.ensures.after (search rules)) in
    rw (laid, c.fresh.ensures, sym c.in_ok-sizes.was) (list_laid _ _ _ _ (omega arith) c.fresh_tables.ensures.left _ c.in_ok-sizes.was)
