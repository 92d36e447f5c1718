-- Pending answer and result of a process that is not idle are in their ranges at every moment of a run, and at 18 and 19 an answer is pending. Rests
-- on Ranges, GoingOn and RunInvariant.
use Rattle.table.proofs.Common.{◌≡◌, refl, sym, ◌∙◌, ap, subst, ◌≢◌, Bool, true, not, ◌&&◌, ℕ, zero, suc, ◌+◌, ◌≤◌, ◌<◌, arith, ℕ_discrete}
use Rattle.table.proofs.Common.{leb, eqb, leb-true, process, idle_status, insert_kind, delete_kind, no_answer, false_answer, true_answer, fail_answer, Record, Action, Outcome}
use Rattle.table.proofs.Common.{Accepted, Memory, target_of, is_marked, below, equal, Place, p0, p1, p2, p3, p4, p5, p6, p7, p8, p9, p10, p11}
use Rattle.table.proofs.Common.{p12, p13, p14, p15, p16, p17, p18, p19, off, Next, place_of, row, search_ends, record_after, word_met, in_range}
use Rattle.table.proofs.Common.{status_needed, State, Leaves, event, at}
use Rattle.basics.proofs.Tests.{if_ne}
use Rattle.table.proofs.Laws.Meets.{Alone, deletes, finds, stops, restarts}
use Rattle.table.proofs.Laws.Numbered.{link_in, deleter_in, pred_in, curr_in, succ_in, own_in, plain_to}
use Rattle.table.proofs.Laws.Ranges.{result_in_range, pending_in_range, pending_18, pending_18_given, AnswersFit, AnswersFitIn, answers_fit}
use Rattle.table.proofs.Invariant.KnownWrites.{goes_at}
use Rattle.table.proofs.Invariant.GoingOn.{either}
use Rattle.table.proofs.Invariant.EventCases.{record_at, Able, Happens, refuses, inserts, steps, alone, happens}
use Rattle.table.proofs.Invariant.Played.{Played, state_at, memory_at, record_then, process_at}
use Rattle.table.proofs.Invariant.RunInvariant.{next_is, Becomes, record_is, records_else}

-- ---- the numbers of a record after a row

module _ (m : Memory) (p : ℕ) (R : Record) (ok : in_range R ≡ true) where
  -- on to a place before 18
  goes_to : (place : ℕ) → leb place 17 ≡ true → AnswersFit place R.lost.pending R.kept.result
  goes_to place h = record {
    result_fits = result_in_range R ok;
    pending_fits = pending_in_range R ok;
    at_18 = λ q. absurd (omega (arith, leb-true place 17 h));
    at_19 = λ q. absurd (omega (arith, leb-true place 17 h));
  }

  -- with false or true to 18, with an answer to 19
  to_18 : (v : ℕ) → 1 ≤ v → v ≤ 2 → AnswersFit 18 v R.kept.result
  to_18 v h g = record { result_fits = result_in_range R ok; pending_fits = omega arith; at_18 = λ q. (h, g); at_19 = λ q. h }

  to_19 : (v : ℕ) → 1 ≤ v → v ≤ 3 → AnswersFit 19 v R.kept.result
  to_19 v h g = record { result_fits = result_in_range R ok; pending_fits = g; at_18 = λ q. absurd (omega arith); at_19 = λ q. h }

  false_18 : AnswersFit 18 false_answer R.kept.result
  false_18 = to_18 false_answer (omega arith) (omega arith)

  true_18 : AnswersFit 18 true_answer R.kept.result
  true_18 = to_18 true_answer (omega arith) (omega arith)

  fail_19 : AnswersFit 19 fail_answer R.kept.result
  fail_19 = to_19 fail_answer (omega arith) (omega arith)

  -- pred's word is still (curr, unmarked)
  abbrev pred_still : Bool
  pred_still = eqb (link_in m (pred_in R)) (plain_to (curr_in R))

  abbrev same_address : Bool
  same_address = equal m.addresses R.lost.curr R.kept.address

  abbrev Fits : Record → Type 0
  Fits = AnswersFitIn

  abbrev FitsNext : Next → Type 0
  FitsNext x = AnswersFitIn (record_after x)

  pub answers_fit_after : (l : Place) → place_of R.lost.place ≡ l → AnswersFitIn (goes_at l m p R)
  unfolding row word_met search_ends
  answers_fit_after p0 pl = goes_to 1 refl
  answers_fit_after p1 pl = either FitsNext (is_marked (link_in m (curr_in R))) (goes_to 2 refl)
      (either FitsNext (below m.addresses R.lost.curr R.kept.address) (goes_to 1 refl)
      (either FitsNext R.lost.recovering
      (either Fits (eqb (curr_in R) (own_in R)) true_18 (goes_to 14 refl))
      (either FitsNext (eqb R.kept.kind insert_kind)
      (either Fits same_address false_18 (goes_to 3 refl)) (either Fits same_address (goes_to 5 refl) false_18))))
  answers_fit_after p2 pl = either Fits pred_still (goes_to 1 refl) (goes_to 0 refl)
  answers_fit_after p3 pl = goes_to 4 refl
  answers_fit_after p4 pl = either Fits pred_still true_18 (goes_to 0 refl)
  answers_fit_after p5 pl = goes_to 6 refl
  answers_fit_after p6 pl = either Fits (is_marked (link_in m (curr_in R))) (goes_to 8 refl) (goes_to 7 refl)
  answers_fit_after p7 pl = either Fits (eqb (link_in m (curr_in R)) (plain_to (succ_in R))) (goes_to 6 refl) (goes_to 6 refl)
  answers_fit_after p8 pl = either Fits pred_still (goes_to 9 refl) (goes_to 9 refl)
  answers_fit_after p9 pl = goes_to 10 refl
  answers_fit_after p10 pl = either Fits (eqb (deleter_in m (curr_in R)) (p + 1)) true_18 false_18
  answers_fit_after p11 pl = either Fits (below m.addresses (target_of (link_in m (curr_in R))) R.kept.address) (goes_to 11 refl)
      (either Fits (equal m.addresses (target_of (link_in m (curr_in R))) R.kept.address) (goes_to 12 refl)
      (to_19 false_answer (omega arith) (omega arith)))
  answers_fit_after p12 pl = either Fits (is_marked (link_in m (curr_in R)))
      (to_19 false_answer (omega arith) (omega arith)) (to_19 true_answer (omega arith) (omega arith))
  answers_fit_after p13 pl = if_ne Fits R.kept.result no_answer
      (λ e. to_19 R.kept.result (omega arith) (omega (arith, result_in_range R ok)))
      (λ e. either Fits (eqb R.kept.kind insert_kind) (goes_to 0 refl)
      (either Fits (eqb R.kept.kind delete_kind && not (eqb (own_in R) 0)) (goes_to 15 refl) fail_19))
  answers_fit_after p14 pl = either Fits (is_marked (link_in m (own_in R))) true_18 fail_19
  answers_fit_after p15 pl = either Fits (is_marked (link_in m (own_in R))) (goes_to 16 refl) fail_19
  answers_fit_after p16 pl = goes_to 17 refl
  answers_fit_after p17 pl = either Fits (eqb (deleter_in m (own_in R)) (p + 1)) true_18 fail_19
  answers_fit_after p18 pl = record {
    result_fits = omega (arith, pending_in_range R ok, pending_18 R ok pl);
    pending_fits = pending_in_range R ok;
    at_18 = λ q. absurd (omega arith);
    at_19 = λ q. omega (arith, pending_18_given R ok pl);
  }
  answers_fit_after p19 pl = answers_fit R ok
  answers_fit_after off pl = answers_fit R ok

-- a request's numbers
requested_fit : (place : ℕ) → leb place 17 ≡ true → AnswersFit place no_answer no_answer
requested_fit place h = record {
  result_fits = omega arith;
  pending_fits = omega arith;
  at_18 = λ q. absurd (omega (arith, leb-true place 17 h));
  at_19 = λ q. absurd (omega (arith, leb-true place 17 h));
}

-- ---- the numbers of a process that is not idle, at every moment

module _ (ρ : Played) where
  abbrev S : ℕ → State
  S = state_at ρ

  abbrev M : ℕ → Memory
  M = memory_at ρ

  abbrev R : (t p : ℕ) → Record
  R = record_then ρ

  abbrev P : ℕ → ℕ
  P = process_at ρ

  abbrev Busy-fits : (t p : ℕ) → Type 0
  Busy-fits t p = (R t p).kept.status ≢ idle_status → AnswersFitIn (R t p)

  -- another process's event, or one that leaves p's record
  same_record : (t p : ℕ) → R (suc t) p ≡ R t p → Busy-fits t p → Busy-fits (suc t) p
  same_record t p q before busy = rw q (before (λ z. busy (ap (λ x. x.kept.status) q ∙ z)))

  module _ (t p : ℕ) (before : Busy-fits t p) where
    -- an event that leaves the record Q for its process
    becomes_fit : {m : Memory} (Q : Record) {o : Outcome} {status : ℕ} → Able (S t) (P t) status → Becomes ρ t m Q o
        → (p ≡ P t → AnswersFitIn Q) → Busy-fits (suc t) p
    becomes_fit Q b left fits = elim (ℕ_discrete p (P t)) [
      | yes z ↦ λ busy. subst AnswersFitIn (sym (record_is ρ t Q left b.in_row) ∙ ap (R (suc t)) (sym z)) (fits z)
      | no z ↦ same_record t p (records_else ρ t Q left p z) before
    ]

    -- it had a status that is not idle
    had : {status : ℕ} → Able (S t) (P t) status → status ≢ idle_status → p ≡ P t → AnswersFitIn (R t (P t))
    had b ne z = subst (λ q. AnswersFitIn (R t q)) z (before (λ h. ne (sym b.has ∙ ap (λ q. (R t q).kept.status) (sym z) ∙ h)))

    alone_fits : (x : Action) (Q : Record) → Able (S t) (P t) (status_needed x) → Becomes ρ t (M t) Q Accepted → Alone (R t (P t)) x Q
        → Busy-fits (suc t) p
    alone_fits x Q b left deletes = becomes_fit Q b left (λ z. requested_fit 0 refl)
    alone_fits x Q b left finds = becomes_fit Q b left (λ z. requested_fit 11 refl)
    alone_fits x Q b left stops = becomes_fit Q b left (λ z. let f = had b (λ q. absurd (omega arith)) z in record {
      result_fits = f.result_fits;
      pending_fits = omega arith;
      at_18 = λ q. absurd (omega arith);
      at_19 = λ q. absurd (omega arith);
    })
    alone_fits x Q b left restarts = becomes_fit Q b left (λ z. let f = had b (λ q. absurd (omega arith)) z in record {
      result_fits = f.result_fits;
      pending_fits = f.pending_fits;
      at_18 = λ q. absurd (omega arith);
      at_19 = λ q. absurd (omega arith);
    })

    fits_after : Busy-fits (suc t) p
    fits_after = by_case (event (S t) (ρ.events t)) refl (happens (S t) (ρ.events t))
      where
        by_case : (d : Leaves) → event (S t) (ρ.events t) ≡ d → Happens (S t) (ρ.events t) d → Busy-fits (suc t) p
        by_case d left (refuses k) = same_record t p (ap (λ z. record_at z p) (next_is ρ t left)) before
        by_case d left (inserts a is b spare) = becomes_fit _ b left (λ z. requested_fit 0 refl)
        by_case d left (steps is b ok l pl) = becomes_fit _ b left (λ z. answers_fit_after (M t) (P t) (R t (P t)) ok l pl)
        by_case d left (alone Q b z) = alone_fits (ρ.events t).action Q b left z

  pub busy_answers_fit : (t p : ℕ) → p < ρ.start.memory.processes → (R t p).kept.status ≢ idle_status → AnswersFitIn (R t p)
  unfolding at
  busy_answers_fit zero p l busy = absurd (busy (ρ.quiet.idle (process p) l))
  busy_answers_fit (suc t) p l busy = fits_after t p (busy_answers_fit t p l) busy
