-- The struck sentence of demand 3: a node is marked at most once; a release of it answered true has the mark between its request and its answer, and
-- there is at most one; where there is none, the deleter's or else the marker's is current. Rests on Strikes and Reads.
use mathlib.Core.Path.{◌≡◌, refl, sym, ◌∙◌, ap}
use mathlib.Core.Logic.{inl, inr}
use mathlib.Core.Bool.{true, false, false≢true, Bool-discrete}
use mathlib.Core.Option.{Option, none, some}
use Prim.Native.Nat.{ℕ, zero, suc, ◌+◌, ◌%◌, ◌<◌}
use native.Mathlib.Omega.{arith}
use borrow.Author.Tests.{eq-eqb}
use Rattle.record.specs.Record.{node, process, address, true_answer}
use Rattle.record.specs.declared.Node.{Node}
use Rattle.record.specs.declared.Event.{Event}
use Rattle.table.specs.Words.{Memory, link_at, is_marked}
use Rattle.table.specs.Events.{State}
use Rattle.table.specs.Chain.{Struck}
use Rattle.table.specs.History.{Kind, delete, Answer, Operation}
use Rattle.table.specs.Demand3.{at, operation, Current, CurrentRelease, ReleasedBy, Marks, ReleasedAround, Fate, released}
use Rattle.table.specs.Demand3.{deleter_current, marker_current, StruckOnce}
use Rattle.basics.proofs.Tests.{not_true_false}
use Rattle.table.proofs.Laws.Numbered.{link_in, deleter_in, own_in, struck_marked, unmarked_plain, plain_unmarked}
use Rattle.table.proofs.Invariant.Moments.{begins_between}
use Rattle.table.proofs.Invariant.Known.{SawHeld}
use Rattle.table.proofs.Invariant.Played.{Played, memory_at, record_then, process_at, address_asked, asked_at, IsOperation, answer_to}
use Rattle.table.proofs.Invariant.RunInvariant.{Busy}
use Rattle.table.proofs.Invariant.OpenOperations.{open_till}
use Rattle.table.proofs.Invariant.HeldByPlace.{StruckBy, changes}
use Rattle.table.proofs.Invariant.Deleters.{Deleting, delete_saw, SignedBy}
use Rattle.table.proofs.Invariant.Winners.{marker_open, signer, signer_open_or_true, Won, won_at, strikes_now, won_once}
use Rattle.table.proofs.Invariant.Strikes.{struck_by, plain_till, struck_at_once, strike_of}
use Rattle.table.proofs.History.Reads.{kind_asked, operation_for, kind_deletes, asks_delete, operation_asked, operation_is}

module _ (ρ : Played) where
  abbrev M : ℕ → Memory
  M = memory_at ρ

  -- ---- from what is known to the words of the statement

  -- the operation that event r requested, by p, with the answer v
  abbrev asked : (p r : ℕ) → Kind → Option Answer → Operation
  asked p r k v = record { process = process p; kind = k; address = address (address_asked (ρ.events r).action); answer = v }

  operation_of : (T s p r : ℕ) (v : Option Answer) → Busy ρ s p r → answer_to ρ T r ≡ v
      → operation ρ.start ρ.events T r ≡ some (asked p r (kind_asked (ρ.events r).action) v)
  operation_of T s p r v b h = operation_asked ρ T r b.is ∙ (λ i. some (asked (b.by i) r (kind_asked (ρ.events r).action) (h i)))

  abbrev current : (T p r : ℕ) → Busy ρ T p r → Current ρ.start ρ.events T (process p) r
  current T p r b =
      record {
        before = b.before;
        kind = kind_asked (ρ.events r).action;
        address = address (address_asked (ρ.events r).action);
        asked = operation_of T T p r none b b.opened;
      }

  current_release : (T n p r : ℕ) → Deleting ρ T p r → own_in (record_then ρ T p) ≡ n → CurrentRelease ρ.start ρ.events T (node n) (process p) r
  current_release T n p r d node_is =
      record { current = current T p r d.busy; deletes = asks_delete (ρ.events r).action d.kind; node = λ i. record { 0 = node_is i } }

  abbrev answered_true : (T s n p r : ℕ) (a : Answer) → Deleting ρ s p r → answer_to ρ T r ≡ some a → a.value ≡ true_answer
      → own_in (record_then ρ a.time p) ≡ n → ReleasedBy ρ.start ρ.events T (node n) r
  answered_true T s n p r a d h v node_is = record {
    process = process p;
    address = address (address_asked (ρ.events r).action);
    time = a.time;
    asked = operation_of T s p r (some (record { time = a.time; value = true_answer })) d.busy (h ∙ (λ i. some (record { time = a.time; value = v i })))
        ∙ (λ i. some (asked p r (asks_delete (ρ.events r).action d.kind i) (some (record { time = a.time; value = true_answer }))));
    node = λ i. record { 0 = node_is i };
  }

  -- ---- marks

  -- an event that marks n strikes it
  strike : (t : ℕ) (n : Node) → Marks ρ.start ρ.events t n → (r : ℕ) × StruckBy ρ t r n.0
  strike t n marks = struck_by ρ (changes ρ t)
      (strikes_now ρ t n.0 (unmarked_plain (M t) n.0 marks.0) (struck_marked (M (suc t)) n.0 marks.1) (changes ρ t))

  struck_marks : {t r : ℕ} (n : Node) → StruckBy ρ t r n.0 → Marks ρ.start ρ.events t n
  struck_marks {t} n s = (plain_unmarked (M t) n.0 s.takes.held.plain, eq-eqb (link_in (M (suc t)) n.0 % 2) 1 s.takes.marked)

  -- ---- releases answered true

  won : (T : ℕ) (n : Node) (r : ℕ) (x : ReleasedBy ρ.start ρ.events T n r) → Won ρ T r n.0 (record { time = x.time; value = true_answer })
  won T n r x = record {
    is = z.0;
    kind = kind_deletes (ρ.events r).action (sym (ap (λ o. o.kind) z.1));
    answer = sym (ap (λ o. o.answer) z.1);
    value = refl;
    node = ap (λ p. own_in (record_then ρ x.time p)) (sym (ap (λ o. o.process.0) z.1)) ∙ ap (λ n. n.0) x.node;
  }
    where
      o : Operation
      o = record { process = x.process; kind = delete; address = x.address; answer = some (record { time = x.time; value = true_answer }) }

      z : IsOperation ρ r × (o ≡ operation_for (ρ.events r) (answer_to ρ T r))
      z = operation_is ρ T r o x.asked

  -- its node was marked between its request and its answer
  mark_within : (T : ℕ) (n : Node) (r : ℕ) → ReleasedBy ρ.start ρ.events T n r
      → (t : ℕ) × (t < T) × Marks ρ.start ρ.events t n × ReleasedAround ρ.start ρ.events T t n r
  mark_within T n r x = let z = strike_of ρ (won T n r x) in (
    z.at_event,
    omega (arith, z.before, (won_at ρ (won T n r x)).1),
    struck_marks n z.strike,
    record { release = x; before = z.after; after = z.before },
  )

  -- ---- the fate of a struck node

  -- the strike of n at event t, by the delete r
  module _ (T : ℕ) (n : Node) {t r : ℕ} (before : t < T) (s : StruckBy ρ t r n.0) where
    -- a deleter: its release is open, or answered true
    signer_fate : (p : ℕ) → deleter_in (M T) n.0 ≡ p + 1 → Fate ρ.start ρ.events T t n r
    signer_fate p q = elim (signer_open_or_true ρ T before s p x) [
      | inl y ↦ deleter_current (process p) q x.op early (current_release T n.0 p x.op y.0 y.1)
      | inr y ↦ released x.op (record {
        release = answered_true T x.at_event n.0 p x.op y.0 x.deleting y.1 y.2 y.3;
        before = early;
        after = omega (arith, x.from, open_till ρ (suc x.at_event) T p x.op y.0 x.deleting_after.busy y.1);
      })
    ]
      where
        x : SignedBy ρ t T n.0 p
        x = signer ρ T before s p q

        saw : SawHeld M x.op x.at_event (asked_at ρ x.op) n.0
        saw = delete_saw ρ x.deleting n.0 x.node_then (λ z. absurd (omega (arith, s.takes.held.inner)))

        -- it saw n plain, so before the strike
        early : x.op < t
        early = omega (arith, saw.since.after, plain_till ρ s saw.w saw.plain)

    fate : (v : ℕ) → deleter_in (M T) n.0 ≡ v → Fate ρ.start ρ.events T t n r
    fate zero q = let y = marker_open ρ T before s q in marker_current q (current_release T n.0 (process_at ρ t) r y.0 y.1)
    fate (suc p) q = signer_fate p (omega arith)

  pub struck_once : (T : ℕ) (n : Node) → StruckOnce ρ.start ρ.events T n
  struck_once T n = record {
    marked_once = λ t t' l l' m m'. struck_at_once ρ (strike t n m).1 (strike t' n m').1;
    around = mark_within T n;
    once = λ t r r' x y. won_once ρ T n.0 r r' _ _ (won T n r x.release) (won T n r' y.release);
    struck = λ t before m. let s = strike t n m in record {
      marker = s.0;
      marking = current_release t n.0 (process_at ρ t) s.0 (record { busy = s.1.busy; kind = s.1.kind }) s.1.node;
      fate = fate T n before s.1 (deleter_in (M T) n.0) refl;
    };
  }

-- ---- a node struck since the start was marked by an event

pub struck_since : (σ₀ : State) (e : ℕ → Event) (T : ℕ) (n : Node) → is_marked (link_at σ₀.memory n) ≡ false → Struck (at σ₀ e T).memory n
    → (t : ℕ) × (t < T) × Marks σ₀ e t n
unfolding at
struck_since σ₀ e T n was is =
    let z = begins_between (λ t. Struck (at σ₀ e t).memory n) (λ t. Bool-discrete (is_marked (link_at (at σ₀ e t).memory n)) true) 0 T (omega arith)
    (λ s. false≢true (sym was ∙ s)) is in
    (z.0, z.2, (not_true_false (is_marked (link_at (at σ₀ e z.0).memory n)) z.3.0, z.3.1))
