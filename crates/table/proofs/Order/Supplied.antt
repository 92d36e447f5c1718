-- What a run supplies for an order of its history: who changes what is held at which event, and a witness for every other answer.
-- Rests on Winners, the history's Reads and Needs.
use Rattle.table.proofs.Common.{◌≡◌, sym, ◌∙◌, ap, subst, ◌≢◌, ◌⊎◌, inl, inr, some, ℕ, ◌<◌, arith, node, insert_kind, delete_kind, true_answer, fail_answer, Answer}
use Rattle.table.proofs.Common.{Operation, Set, History, history, IsHeld, at}
use Rattle.table.proofs.Laws.Numbered.{held_node}
use Rattle.table.proofs.Invariant.Played.{Played, kind_at, IsOperation, answer_to}
use Rattle.table.proofs.Invariant.Winners.{TakesEffect, Winner, nobody, somebody, winner_at, Wins, effect_once, true_insert_wins}
use Rattle.table.proofs.Invariant.Winners.{true_delete_wins}
use Rattle.table.proofs.History.Reads.{operation_for, asks_insert, asks_delete, operation_asked, operation_is, held_at, true_or_told}
use Rattle.table.proofs.Order.Needs.{Witness, Changer, Change, still, by, IsBy, Supplies}

module _ (ρ : Played) (start : Set) (begin : IsHeld ρ.start.memory start) (T : ℕ) where
  abbrev pub run_history : History
  run_history = history ρ.start ρ.events start T

  -- the operation that event r requests
  abbrev asked : ℕ → Operation
  asked r = operation_for (ρ.events r) (answer_to ρ T r)

  changer : (t r : ℕ) → TakesEffect ρ T t r → Changer run_history (held_at ρ) t r (asked r)
  changer t r x = record {
    asked = operation_asked ρ T r x.is;
    begun = omega (arith, x.begun);
    ended = λ v h. ((x.ended v h).0, (x.ended v h).1);
    does = elim x.does [
      | inl y ↦ inl (record { kind = asks_insert (ρ.events r).action y.kind; free = y.free; adds = λ a. y.adds a.0 })
      | inr y ↦ inr (record {
        kind = asks_delete (ρ.events r).action y.kind;
        taken = (node y.n, held_node y.takes.held);
        removes = λ a. y.takes.removes a.0;
      })
    ];
  }

  abbrev change_of : {t : ℕ} → Winner ρ T t → Change run_history (held_at ρ) t
  change_of (nobody h) = still (λ a. h a.0)
  change_of {t} (somebody r x) = by r (asked r) (changer t r x)

  is_by_effect : (t r : ℕ) (w : Winner ρ T t) → IsBy (change_of w) r → TakesEffect ρ T t r
  is_by_effect t r (nobody h) z = absurd z
  is_by_effect t r (somebody r' x) z = rw z at x

  wins_is_by : (t r : ℕ) (w : Winner ρ T t) → Wins ρ w r → IsBy (change_of w) r
  wins_is_by t r (nobody h) z = z
  wins_is_by t r (somebody r' x) z = z

  -- an operation answered true or false
  effect_or_witness : (r : ℕ) (v : Answer) → IsOperation ρ r → answer_to ρ T r ≡ some v → v.value ≢ fail_answer
      → ((t : ℕ) × (l : t < T) × IsBy (change_of (winner_at ρ T t l)) r) ⊎ Witness run_history (held_at ρ) r (asked r) v
  effect_or_witness r v is h n = go (true_or_told ρ start T r v is h n)
    where
      effect : (t : ℕ) × (l : t < T) × Wins ρ (winner_at ρ T t l) r → (t : ℕ) × (l : t < T) × IsBy (change_of (winner_at ρ T t l)) r
      effect x = (x.0, x.1, wins_is_by x.0 r (winner_at ρ T x.0 x.1) x.2)

      go : ((v.value ≡ true_answer) × ((kind_at ρ r ≡ insert_kind) ⊎ (kind_at ρ r ≡ delete_kind))) ⊎ Witness run_history (held_at ρ) r (asked r) v
          → ((t : ℕ) × (l : t < T) × IsBy (change_of (winner_at ρ T t l)) r) ⊎ Witness run_history (held_at ρ) r (asked r) v
      go (inr w) = inr w
      go (inl (e, inl k)) = inl (effect (true_insert_wins ρ T r v is k h e))
      go (inl (e, inr k)) = inl (effect (true_delete_wins ρ T r v is k h e))

  pub supplied : Supplies run_history
  unfolding at
  supplied = record {
    held = held_at ρ;
    begins = begin;
    finishes = λ a. ((λ h. h), (λ h. h));
    change = λ t l. change_of (winner_at ρ T t l);
    once = λ t t' r l l' x y. effect_once ρ T t t' r (is_by_effect t r (winner_at ρ T t l) x) (is_by_effect t' r (winner_at ρ T t' l') y);
    answered = λ r o v q h n. let z = operation_is ρ T r o q in
        subst (λ o. ((t : ℕ) × (l : t < T) × IsBy (change_of (winner_at ρ T t l)) r) ⊎ Witness run_history (held_at ρ) r o v) (sym z.1)
        (effect_or_witness r v z.0 (sym (ap (λ o. o.answer) z.1) ∙ h) n);
  }
