-- Demand 3, proved: every run from a quiet state has an order, and every node struck in it has one release, or one on its way; and so from a
-- fresh list. Rests on Supplied, Ordered, Struck and Start.
use mathlib.Core.Bool.{false}
use Rattle.table.specs.Events.{fresh}
use Rattle.table.specs.Demand3.{history, Demand3, Demand3Fresh}
use Rattle.table.proofs.Invariant.Played.{Played}
use Rattle.table.proofs.Order.Ordered.{ordered}
use Rattle.table.proofs.Order.Supplied.{supplied}
use Rattle.table.proofs.History.Start.{fresh_quiet, fresh_holds_nothing}
use Rattle.table.proofs.History.Struck.{struck_once}

pub demand_3 : Demand3
unfolding Demand3
demand_3 σ₀ e quiet fit start begin T = (ordered (history σ₀ e start T) (supplied ρ start begin T), struck_once ρ T)
  where
    ρ : Played
    ρ = record { start = σ₀; events = e; quiet = quiet; fit = fit }

pub demand_3_fresh : Demand3Fresh
unfolding Demand3Fresh Demand3
demand_3_fresh nodes processes sizes e fit T =
    demand_3 (fresh nodes processes) e (fresh_quiet nodes processes sizes) fit (λ a. false) (fresh_holds_nothing nodes processes sizes) T
