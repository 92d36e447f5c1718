-- Refusal 8, row by row: a step is refused with it exactly for the causes of specs/Refusal8, and an event exactly where it is such a step of a
-- running process that is there. Rests on RowTests, Ranges and Meets.
use mathlib.Core.Path.{◌≡◌, refl, sym, ◌∙◌, ap}
use mathlib.Core.Logic.{◌≢◌, ◌⊎◌, inl, inr, ◌↔◌}
use mathlib.Core.Bool.{Bool, true, false, not, ◌&&◌, ◌||◌, false≢true}
use mathlib.Core.List.{List, [], ◌∷◌}
use Prim.Native.Nat.{ℕ, zero, suc, ◌<◌}
use native.Mathlib.Omega.{arith}
use lib.Dec.{leb, eqb}
use lib.ListN.{get_or}
use borrow.Author.Tests.{ltb-true, ltb-false, leb-true, leb-false, eqb-true, eqb-false, le-leb}
use Rattle.record.specs.Record.{running_status, find_kind, no_answer, fail_answer}
use Rattle.record.specs.declared.Process.{Process}
use Rattle.record.specs.declared.Address.{Address}
use Rattle.record.specs.declared.Record.{Record}
use Rattle.record.specs.declared.Action.{Action}
use Rattle.record.specs.declared.Action.TheVariants.{Insert, Step}
use Rattle.record.specs.declared.Outcome.TheVariants.{Refused}
use Rattle.table.specs.Words.{Memory}
use Rattle.table.specs.Places.{place_of}
use Rattle.table.specs.Steps.{in_range, turn_in}
use Rattle.table.specs.Events.{Left, step, does, status_needed, act, tables_fit}
use Rattle.table.specs.Refusal8.{Broken, place_above_19, kind_above_2}
use Rattle.table.specs.Refusal8.{pending_above_3, result_above_2, none_at_18, fail_at_18, none_at_19, find_at_0_to_2, field_not_in_use}
use Rattle.table.specs.Refusal8.{target_not_in_use, own_is_none}
use Rattle.basics.proofs.Tests.{if, and_left, and_right, joined}
use Rattle.table.proofs.Laws.Ranges.{conditions, condition}
use Rattle.table.proofs.Laws.RowTests.{and_fails, access_usable, unusable_broken, used_in_use, own_is_some, target_in_use}
use Rattle.table.proofs.Laws.Meets.{Alone, deletes, finds, stops, restarts, does_alone, by_action, insert_meets, act_judged}
use Rattle.table.proofs.Laws.Events.{accepted_not_refused, turn_no_refusal}

-- ---- tests joined, one of which fails

both : (a b : Bool) → not (a && b) ≡ false → (a ≡ true) × (b ≡ true)
both true true e = (refl, refl)
both true false e = absurd (false≢true (sym e))
both false b e = absurd (false≢true (sym e))

either_of : (a b : Bool) → (a || b) ≡ true → (a ≡ true) ⊎ (b ≡ true)
either_of true b e = inl refl
either_of false b e = inr e

one_fails : (b : Bool) (cs : List Bool) → joined b cs ≡ false → (n : ℕ) × (get_or (b ∷ cs) n true ≡ false)
one_fails b [] h = (0, h)
one_fails b (c ∷ cs) h = earlier (one_fails (b && c) cs h)
  where
    earlier : (n : ℕ) × (get_or ((b && c) ∷ cs) n true ≡ false) → (n : ℕ) × (get_or (b ∷ c ∷ cs) n true ≡ false)
    earlier (zero, e) = elim (and_fails b c e) [ inl x ↦ (0, x) | inr x ↦ (1, x) ]
    earlier (suc n, e) = (suc (suc n), e)

module _ (m : Memory) (p : Process) (r : Record) where
  -- ---- the numbers of the record

  out_of_range : (n : ℕ) → get_or (leb r.lost.place 19 ∷ conditions r) n true ≡ false → Broken m r
  out_of_range zero e = place_above_19 (leb-false r.lost.place 19 e)
  out_of_range (suc zero) e = kind_above_2 (leb-false r.kept.kind 2 e)
  out_of_range (suc (suc zero)) e = pending_above_3 (leb-false r.lost.pending 3 e)
  out_of_range (suc (suc (suc zero))) e = result_above_2 (leb-false r.kept.result 2 e)
  out_of_range (suc (suc (suc (suc zero)))) e =
      let z = both (eqb r.lost.place 18) (eqb r.lost.pending no_answer || eqb r.lost.pending fail_answer) e in
      let at_18 = eqb-true r.lost.place 18 z.0 in
      elim (either_of (eqb r.lost.pending no_answer) (eqb r.lost.pending fail_answer) z.1) [
        | inl q ↦ none_at_18 at_18 (eqb-true r.lost.pending no_answer q)
        | inr q ↦ fail_at_18 at_18 (eqb-true r.lost.pending fail_answer q)
      ]
  out_of_range (suc (suc (suc (suc (suc zero))))) e =
      let z = both (eqb r.lost.place 19) (eqb r.lost.pending no_answer) e in
      none_at_19 (eqb-true r.lost.place 19 z.0) (eqb-true r.lost.pending no_answer z.1)
  out_of_range (suc (suc (suc (suc (suc (suc zero)))))) e =
      let z = both (leb r.lost.place 2) (eqb r.kept.kind find_kind) e in
      find_at_0_to_2 (leb-true r.lost.place 2 z.0) (eqb-true r.kept.kind find_kind z.1)
  out_of_range (suc (suc (suc (suc (suc (suc (suc n))))))) e = absurd (false≢true (sym e))

  numbers_broken : in_range r ≡ false → Broken m r
  unfolding in_range
  numbers_broken e = let z = one_fails (leb r.lost.place 19) (conditions r) e in out_of_range z.0 z.1

  module _ (in_range_lem : in_range r ≡ true) (access : access_usable m p r (place_of r.lost.place) ≡ true) where
    holds : (n : ℕ) → get_or (leb r.lost.place 19 ∷ conditions r) n true ≡ true
    holds = condition r in_range_lem

    not_broken : Broken m r → ⊥
    not_broken (place_above_19 l) = omega (arith, leb-true r.lost.place 19 (holds 0))
    not_broken (kind_above_2 l) = omega (arith, leb-true r.kept.kind 2 (holds 1))
    not_broken (pending_above_3 l) = omega (arith, leb-true r.lost.pending 3 (holds 2))
    not_broken (result_above_2 l) = omega (arith, leb-true r.kept.result 2 (holds 3))
    not_broken (none_at_18 at v) = false≢true (rw (at, v) at (holds 4))
    not_broken (fail_at_18 at v) = false≢true (rw (at, v) at (holds 4))
    not_broken (none_at_19 at v) = false≢true (rw (at, v) at (holds 5))
    not_broken (find_at_0_to_2 l k) = false≢true (rw (le-leb r.lost.place 2 l, k) at (holds 6))
    not_broken (field_not_in_use f u q) = false≢true (sym q ∙ used_in_use m p r access f u)
    not_broken (target_not_in_use f w q) = false≢true (sym q ∙ target_in_use m p r access f w)
    not_broken (own_is_none u q) = own_is_some m p r access u q

  -- ---- the law

  unfit_broken : (turn_in m p r).fits ≡ false → Broken m r
  unfolding turn_in
  unfit_broken e = elim (and_fails (in_range r) (access_usable m p r (place_of r.lost.place)) e) [
    | inl x ↦ numbers_broken x
    | inr x ↦ unusable_broken m p r x
  ]

  fit_not_broken : (turn_in m p r).fits ≡ true → Broken m r → ⊥
  unfolding turn_in
  fit_not_broken e = not_broken (and_left (in_range r) _ e) (and_right (in_range r) _ e)

  pub refused_8_exactly : ((step m p r).outcome ≡ Refused 8) ↔ Broken m r
  unfolding step
  refused_8_exactly = if (λ (d : Left). (d.outcome ≡ Refused 8) ↔ Broken m r) (turn_in m p r).fits
      (λ fits. ((λ e. absurd (turn_no_refusal m p r 8 e)), (λ b. absurd (fit_not_broken fits b))))
      (λ unfit. ((λ e. unfit_broken unfit), (λ b. refl)))

  -- ---- of an event: a step of a running process that is there, on tables that fit

  pub record BrokenStep (x : Action) : Type 0 where
    pub fit : tables_fit m ≡ true
    pub there : p.0 < m.processes
    pub steps : x ≡ Step
    pub runs : r.kept.status ≡ running_status
    pub broken : Broken m r

  other_number : {n k : ℕ} → n ≢ k → Refused n ≡ Refused k → ⊥
  other_number ne q = ne (cc)

  does_refused_8 : (x : Action) → ((does m p r x).outcome ≡ Refused 8) ↔ ((x ≡ Step) × Broken m r)
  unfolding does
  does_refused_8 x = by_action r x
      (λ a is. rw is (insert_meets (λ d. (d.outcome ≡ Refused 8) ↔ ((Insert a ≡ Step) × Broken m r)) m p r a
      (λ full. ((λ e. absurd (other_number (λ q. absurd (omega arith)) e)), (λ b. absurd (insert_no_step b.0))))
      (λ spare. ((λ e. absurd (accepted_not_refused e)), (λ b. absurd (insert_no_step b.0))))))
      (λ is. rw is ((λ e. (refl, refused_8_exactly.0 e)), (λ b. refused_8_exactly.1 b.1)))
      (λ s alone. rw (does_alone alone m p) ((λ e. absurd (accepted_not_refused e)), (λ b. absurd (alone_no_step alone b.0))))
    where
      insert_no_step : {a : Address} → Insert a ≡ Step → ⊥
      insert_no_step q = let z : ◌≡◌ {A = ℕ} 0 1 = cc in omega arith

      alone_no_step : {x : Action} {s : Record} → Alone r x s → x ≡ Step → ⊥
      alone_no_step deletes q = let z : ◌≡◌ {A = ℕ} 0 1 = cc in omega arith
      alone_no_step finds q = let z : ◌≡◌ {A = ℕ} 0 1 = cc in omega arith
      alone_no_step stops q = let z : ◌≡◌ {A = ℕ} 0 1 = cc in omega arith
      alone_no_step restarts q = let z : ◌≡◌ {A = ℕ} 0 1 = cc in omega arith

  pub event_refused_8_exactly : (x : Action) → ((act m p r x).outcome ≡ Refused 8) ↔ BrokenStep x
  event_refused_8_exactly x = act_judged (λ d. (d.outcome ≡ Refused 8) ↔ BrokenStep x) m p r x
      (λ unfit. ((λ e. absurd (other_number (λ q. absurd (omega arith)) e)), (λ b. absurd (false≢true (sym unfit ∙ b.fit)))))
      (λ fit beyond. (
        (λ e. absurd (other_number (λ q. absurd (omega arith)) e)),
        (λ b. absurd (omega (arith, ltb-false p.0 m.processes beyond, b.there))),
      ))
      (λ fit there other. (
        (λ e. absurd (other_number (λ q. absurd (omega arith)) e)),
        (λ b. absurd (eqb-false r.kept.status (status_needed x) other (b.runs ∙ sym (ap status_needed b.steps)))),
      ))
      (λ fit there ready. (
        (λ e. let z = (does_refused_8 x).0 e in record {
          fit = fit;
          there = ltb-true p.0 m.processes there;
          steps = z.0;
          runs = eqb-true r.kept.status (status_needed x) ready ∙ ap status_needed z.0;
          broken = z.1;
        }),
        (λ b. (does_refused_8 x).1 (b.steps, b.broken)),
      ))
