-- What the struck sentence shuts out: a second release answered true of a node, and, where no operation is current, a struck node without one. So
-- where every process is idle at the end, each node marked in the run has exactly one release answered true. Rests on Struck and Answers.
use mathlib.Core.Path.{◌≡◌, sym, subst}
use Prim.Native.Nat.{ℕ, ◌<◌}
use native.Mathlib.Omega.{arith}
use Rattle.record.specs.Record.{idle_status}
use Rattle.record.specs.declared.Node.{Node}
use Rattle.record.specs.declared.Process.{Process}
use Rattle.record.specs.declared.Event.{Event}
use Rattle.record.specs.declared.Outcome.TheVariants.{Accepted}
use Rattle.table.specs.Events.{State, Leaves, event, record_in}
use Rattle.table.specs.Demand3.{Quiet, AddressesFit, at, out, Current, ReleasedBy, Marks, ReleasedAround, Fate, released, deleter_current}
use Rattle.table.specs.Demand3.{marker_current, StruckOnce}
use Rattle.table.proofs.Laws.Events.{accepted_not_refused}
use Rattle.table.proofs.Invariant.EventCases.{Happens, refuses, inserts, steps, alone, happens}
use Rattle.table.proofs.Invariant.Played.{Played, state_at, memory_at, process_at, run_sizes_stay, IsOperation}
use Rattle.table.proofs.Invariant.OpenOperations.{status_of}
use Rattle.table.proofs.History.Answers.{current_busy}
use Rattle.table.proofs.History.Struck.{struck_once}

-- ---- from the sentence alone

-- exactly one release of n is answered true, and event t lies between its request and its answer
pub record ReleasedExactlyOnce (σ₀ : State) (e : ℕ → Event) (T : ℕ) (n : Node) (t : ℕ) : Type 0 where
  pub request : ℕ
  pub release : ReleasedAround σ₀ e T t n request
  pub only : (r : ℕ) → ReleasedBy σ₀ e T n r → r ≡ request

module _ (σ₀ : State) (e : ℕ → Event) (T : ℕ) (n : Node) (sentence : StruckOnce σ₀ e T n) where
  -- at most one release of a node is answered true
  pub released_once : (r r' : ℕ) → ReleasedBy σ₀ e T n r → ReleasedBy σ₀ e T n r' → r ≡ r'
  released_once r r' x x' =
      let y = sentence.around r x in
      let y' = sentence.around r' x' in
      let same : y.0 ≡ y'.0 = sentence.marked_once y.0 y'.0 y.1 y'.1 y.2 y'.2 in
      sentence.once y'.0 r r' (subst (λ t. ReleasedAround σ₀ e T t n r) same y.3) y'.3

  -- where no operation is current
  pub struck_is_released : ((p : Process) (r : ℕ) → Current σ₀ e T p r → ⊥) → (t : ℕ) → t < T → Marks σ₀ e t n → ReleasedExactlyOnce σ₀ e T n t
  struck_is_released none t l m = by (sentence.struck t l m).fate
    where
      by : Fate σ₀ e T t n (sentence.struck t l m).marker → ReleasedExactlyOnce σ₀ e T n t
      by (released r x) = record { request = r; release = x; only = λ r' y. released_once r' r y x.release }
      by (deleter_current p word r early c) = absurd (none p r c.current)
      by (marker_current word c) = absurd (none (e t).process (sentence.struck t l m).marker c.current)

-- ---- idle processes

module _ (ρ : Played) where
  -- a process whose request was accepted is there
  asker_there : (r : ℕ) → IsOperation ρ r → process_at ρ r < (memory_at ρ r).processes
  unfolding out
  asker_there r is = by (event (state_at ρ r) (ρ.events r)) (happens (state_at ρ r) (ρ.events r)) is.accepted
    where
      by : (d : Leaves) → Happens (state_at ρ r) (ρ.events r) d → d.outcome ≡ Accepted → process_at ρ r < (memory_at ρ r).processes
      by d (refuses k) q = absurd (accepted_not_refused (sym q))
      by d (inserts a i b spare) q = b.there
      by d (steps i b ok l pl) q = b.there
      by d (alone Q b z) q = b.there

  -- an idle process has no current operation
  pub idle_has_none : (T : ℕ) → ((p : Process) → p.0 < (memory_at ρ T).processes → (record_in (state_at ρ T) p).kept.status ≡ idle_status)
      → (p : Process) (r : ℕ) → Current ρ.start ρ.events T p r → ⊥
  idle_has_none T idle p r c = let b = current_busy ρ T p r c in status_of ρ T p.0 r b (idle p (omega (
    arith,
    b.by,
    asker_there r b.is,
    (run_sizes_stay ρ r).memory.processes,
    (run_sizes_stay ρ T).memory.processes,
  )))

-- where every process is idle at the end, each node marked in the run has exactly one release answered true
pub all_idle_released : (σ₀ : State) (e : ℕ → Event) → Quiet σ₀ → AddressesFit e → (T : ℕ)
    → ((p : Process) → p.0 < (at σ₀ e T).memory.processes → (record_in (at σ₀ e T) p).kept.status ≡ idle_status)
    → (t : ℕ) (n : Node) → t < T → Marks σ₀ e t n → ReleasedExactlyOnce σ₀ e T n t
all_idle_released σ₀ e quiet fit T idle t n = struck_is_released σ₀ e T n (struck_once ρ T n) (idle_has_none ρ T idle) t
  where
    ρ : Played
    ρ = record { start = σ₀; events = e; quiet = quiet; fit = fit }
