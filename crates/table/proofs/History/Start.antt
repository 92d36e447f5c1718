-- A fresh list is a quiet state, with nothing held. A list of events, run, is the beginning of a sequence. Rests on the laws Fitting and InUse.
use mathlib.Core.Path.{◌≡◌, refl, sym, ◌∙◌, ap}
use mathlib.Core.Logic.{◌≢◌, ◌⊎◌, inl, inr}
use mathlib.Core.Bool.{true, false, false≢true}
use mathlib.Core.List.{List, [], ◌∷◌}
use Prim.Native.Nat.{ℕ, zero, suc, ◌<◌}
use native.Mathlib.Omega.{arith}
use lib.ListN.{length, get_or, replicate, length-replicate}
use Rattle.record.specs.Record.{head_node, tail_node, fresh_record}
use Rattle.record.specs.declared.Node.{Node}
use Rattle.record.specs.declared.Record.{Record}
use Rattle.record.specs.declared.Event.{Event}
use Rattle.record.specs.declared.Outcome.{Outcome}
use Rattle.table.specs.Words.{Memory, address_at, link_at, deleter_at, in_use, rank, fresh_memory}
use Rattle.table.specs.Chain.{here, next, OnChain, Held, follows}
use Rattle.table.specs.Events.{State, record_in, sizes_fit, tables_fit, fresh, event, runs, outcomes}
use Rattle.table.specs.Demand3.{Quiet, at, out, IsHeld}
use Rattle.table.proofs.Laws.Fitting.{limits_of, Room, room_fresh, fit_of}
use Rattle.table.proofs.Laws.InUse.{head_in_use, tail_in_use}

-- ---- a fresh list

all_the_same : {A : Type 0} (a : A) (n x : ℕ) → get_or (replicate n a) x a ≡ a
all_the_same a zero x = refl
all_the_same a (suc n) zero = refl
all_the_same a (suc n) (suc x) = all_the_same a n x

module _ (nodes processes : ℕ) (fit : sizes_fit nodes processes ≡ true) where
  abbrev m₀ : Memory
  m₀ = fresh_memory nodes processes

  two_nodes : {n : Node} → OnChain m₀ n → (n ≡ head_node) ⊎ (n ≡ tail_node)
  unfolding fresh_memory link_at
  two_nodes (here q) = inl (sym q)
  two_nodes (next r ne q) = elim (two_nodes r) [ inl w ↦ inr (sym q ∙ ap (follows m₀) w) | inr w ↦ absurd (ne w) ]

  fresh_room : Room m₀
  fresh_room = room_fresh nodes processes (limits_of nodes processes fit).two

  fresh_tables_lem : tables_fit m₀ ≡ true
  unfolding fresh_memory
  fresh_tables_lem = fit_of m₀ fit fresh_room

  pub fresh_quiet : Quiet (fresh nodes processes)
  unfolding fresh record_in link_at address_at deleter_at rank fresh_memory
  fresh_quiet = record {
    tables = fresh_tables_lem;
    row = omega (arith, length-replicate {A = Record} processes fresh_record);
    idle = λ p l. ap (λ r. r.kept.status) (all_the_same fresh_record processes p.0);
    rises = λ n o ne. rises n ne (two_nodes o);
    used = λ n o. used n (two_nodes o);
    small = λ n o. omega (arith, all_the_same {A = ℕ} 0 nodes n.0);
    head = refl;
    tail = refl;
    unsigned = λ n o plain. all_the_same {A = ℕ} 0 nodes n.0;
  }
    where
      rises : (n : Node) → n ≢ tail_node → (n ≡ head_node) ⊎ (n ≡ tail_node) → rank m₀.addresses n < rank m₀.addresses (follows m₀ n)
      rises n ne (inl q) = rw q (omega arith)
      rises n ne (inr q) = absurd (ne q)

      used : (n : Node) → (n ≡ head_node) ⊎ (n ≡ tail_node) → in_use m₀ n ≡ true
      used n (inl q) = rw q (head_in_use fresh_room)
      used n (inr q) = rw q (tail_in_use fresh_room)

  pub fresh_holds_nothing : IsHeld (fresh nodes processes).memory (λ a. false)
  unfolding fresh
  fresh_holds_nothing a = ((λ q. absurd (false≢true q)), (λ h. absurd (none h (two_nodes h.1.on))))
    where
      none : (h : Held m₀ a) → (h.0 ≡ head_node) ⊎ (h.0 ≡ tail_node) → ⊥
      none h (inl q) = h.1.not_head q
      none h (inr q) = h.1.not_tail q

-- ---- a schedule as a list

-- the state after a list of events is the state at its end in the sequence that begins with them, whatever follows
at_next : (σ : State) (e : ℕ → Event) (t : ℕ) → at σ e (suc t) ≡ at (event σ (e 0)).after (λ s. e (suc s)) t
unfolding at
at_next σ e zero = refl
at_next σ e (suc t) = ap (λ s. (event s (e (suc t))).after) (at_next σ e t)

pub runs_at : (es : List Event) (σ : State) (d : Event) → at σ (λ t. get_or es t d) (length es) ≡ runs σ es
unfolding runs at
runs_at [] σ d = refl
runs_at (x ∷ es) σ d = at_next σ (λ t. get_or (x ∷ es) t d) (length es) ∙ runs_at es (event σ x).after d

pub outcomes_at : (es : List Event) (σ : State) (d : Event) (o : Outcome) (t : ℕ) → t < length es
    → get_or (outcomes σ es) t o ≡ out σ (λ t. get_or es t d) t
unfolding outcomes out at
outcomes_at [] σ d o t l = absurd (omega arith)
outcomes_at (x ∷ es) σ d o zero l = refl
outcomes_at (x ∷ es) σ d o (suc t) l = outcomes_at es (event σ x).after d o t (omega arith)
    ∙ ap (λ s. (event s (get_or es t d)).outcome) (sym (at_next σ (λ t. get_or (x ∷ es) t d) t))
