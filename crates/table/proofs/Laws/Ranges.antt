-- A place's number, and what refusal 8 leaves of a record's numbers. Rests on Tests.
use Rattle.table.proofs.Common.{◌≡◌, refl, sym, ◌∙◌, ap, ◌≢◌, Bool, true, not, ◌&&◌, ◌||◌, false≢true, List, [], ◌∷◌, ℕ, zero, suc, ◌+◌, ◌≤◌}
use Rattle.table.proofs.Common.{◌<◌, arith, zero-add, leb, eqb, length, get_or, leb-true, eqb-true, ne_eqb, find_kind, no_answer, fail_answer, Record, Place, p0, p1}
use Rattle.table.proofs.Common.{p2, p3, p4, p5, p6, p7, p8, p9, p10, p11, p12, p13, p14, p15, p16, p17, p18, p19, off, place_of, in_range}
use lib.ListN.{get_or-eq_default}
use mathlib.Core.Bool.{and-false}
use borrow.Author.Tests.{le-leb, lt-leb}
use Rattle.basics.proofs.Tests.{and_left, and_right, each_true, test-eq}
use Rattle.table.proofs.Laws.Accesses.{places}

-- ---- a place's number

abbrev pub number : Place → ℕ
number l =
    elim l [
      | p0 ↦ 0
      | p1 ↦ 1
      | p2 ↦ 2
      | p3 ↦ 3
      | p4 ↦ 4
      | p5 ↦ 5
      | p6 ↦ 6
      | p7 ↦ 7
      | p8 ↦ 8
      | p9 ↦ 9
      | p10 ↦ 10
      | p11 ↦ 11
      | p12 ↦ 12
      | p13 ↦ 13
      | p14 ↦ 14
      | p15 ↦ 15
      | p16 ↦ 16
      | p17 ↦ 17
      | p18 ↦ 18
      | p19 ↦ 19
      | off ↦ 20
    ]

-- the places of a list have the numbers from k on
abbrev numbered_from : ℕ → List Place → Bool
numbered_from k [] = true
numbered_from k (l ∷ ls) = eqb (number l) k && numbered_from (suc k) ls

numbered : (k : ℕ) (ls : List Place) → numbered_from k ls ≡ true → (n : ℕ) → n < length ls → number (get_or ls n off) ≡ k + n
numbered k [] h n lt = absurd (omega arith)
numbered k (l ∷ ls) h zero lt = omega (arith, eqb-true (number l) k (and_left (eqb (number l) k) (numbered_from (suc k) ls) h))
numbered k (l ∷ ls) h (suc n) lt = omega (arith, numbered (suc k) ls (and_right (eqb (number l) k) (numbered_from (suc k) ls) h) n (omega arith))

-- past them there is none
pub past_the_places : (n : ℕ) → 20 ≤ n → place_of n ≡ off
unfolding place_of
past_the_places n h = get_or-eq_default places off h

place_numbered : (n : ℕ) → n ≤ 19 → number (place_of n) ≡ n
unfolding place_of
place_numbered n h = numbered 0 places refl n (omega arith) ∙ zero-add n

-- ---- the numbers of a record in range

-- the tests on them after the place's, in 01's order
abbrev pub conditions : Record → List Bool
conditions R =
    leb R.kept.kind 2 ∷ leb R.lost.pending 3 ∷ leb R.kept.result 2
    ∷ not (eqb R.lost.place 18 && (eqb R.lost.pending no_answer || eqb R.lost.pending fail_answer))
    ∷ not (eqb R.lost.place 19 && eqb R.lost.pending no_answer) ∷ not (leb R.lost.place 2 && eqb R.kept.kind find_kind) ∷ []

module _ (R : Record) (ok : in_range R ≡ true) where
  pub condition : (n : ℕ) → get_or (leb R.lost.place 19 ∷ conditions R) n true ≡ true
  unfolding in_range
  condition = each_true (leb R.lost.place 19) (conditions R) ok

  pub result_in_range : R.kept.result ≤ 2
  result_in_range = leb-true R.kept.result 2 (condition 3)

  pub pending_in_range : R.lost.pending ≤ 3
  pending_in_range = leb-true R.lost.pending 3 (condition 2)

  place_number : (l : Place) → place_of R.lost.place ≡ l → R.lost.place ≡ number l
  place_number l q = sym (place_numbered R.lost.place (leb-true R.lost.place 19 (condition 0))) ∙ ap (λ x. number x) q

  pub pending_18 : place_of R.lost.place ≡ p18 → R.lost.pending ≢ fail_answer
  pending_18 q v = false≢true (rw (place_number p18 q, v) at (condition 4))

  pub pending_18_given : place_of R.lost.place ≡ p18 → R.lost.pending ≢ no_answer
  pending_18_given q v = false≢true (rw (place_number p18 q, v) at (condition 4))

  pub pending_19 : place_of R.lost.place ≡ p19 → R.lost.pending ≢ no_answer
  pending_19 q v = false≢true (rw (place_number p19 q, v) at (condition 5))

-- ---- ranges that hold through a record's rows

-- result and pending within their ranges, and an answer pending at 18 and 19
pub record AnswersFit (place pending result : ℕ) : Type 0 where
  pub result_fits : result ≤ 2
  pub pending_fits : pending ≤ 3
  pub at_18 : place ≡ 18 → (1 ≤ pending) × (pending ≤ 2)
  pub at_19 : place ≡ 19 → 1 ≤ pending

abbrev pub AnswersFitIn : Record → Type 0
AnswersFitIn R = AnswersFit R.lost.place R.lost.pending R.kept.result

pub answers_fit : (R : Record) → in_range R ≡ true → AnswersFitIn R
unfolding place_of
answers_fit R ok = record {
  result_fits = result_in_range R ok;
  pending_fits = pending_in_range R ok;
  at_18 = λ q. let z = ap place_of q in (omega (arith, pending_18_given R ok z), omega (arith, pending_18 R ok z, pending_in_range R ok));
  at_19 = λ q. omega (arith, pending_19 R ok (ap place_of q));
}

pub in_range_lem : (R : Record) → R.lost.place ≤ 19 → R.kept.kind ≤ 2 → (R.kept.kind ≡ find_kind → 3 ≤ R.lost.place) → AnswersFitIn R → in_range R ≡ true
unfolding in_range
in_range_lem R place kind find x = rw (
  le-leb R.lost.place 19 place,
  le-leb R.kept.kind 2 kind,
  le-leb R.lost.pending 3 x.pending_fits,
  le-leb R.kept.result 2 x.result_fits,
  pending_18_fits,
  pending_19_fits,
  no_find,
) refl
  where
    pending_18_fits : not (eqb R.lost.place 18 && (eqb R.lost.pending no_answer || eqb R.lost.pending fail_answer)) ≡ true
    pending_18_fits = test-eq (λ b. not (b && (eqb R.lost.pending no_answer || eqb R.lost.pending fail_answer)) ≡ true) R.lost.place 18
        (λ q. rw (
          ne_eqb R.lost.pending no_answer (λ v. absurd (omega (arith, (x.at_18 q).0))),
          ne_eqb R.lost.pending fail_answer (λ v. absurd (omega (arith, (x.at_18 q).1))),
        ) refl)
        (λ q. refl)

    pending_19_fits : not (eqb R.lost.place 19 && eqb R.lost.pending no_answer) ≡ true
    pending_19_fits = test-eq (λ b. not (b && eqb R.lost.pending no_answer) ≡ true) R.lost.place 19
        (λ q. rw (ne_eqb R.lost.pending no_answer (λ v. absurd (omega (arith, x.at_19 q)))) refl) (λ q. refl)

    no_find : not (leb R.lost.place 2 && eqb R.kept.kind find_kind) ≡ true
    no_find = test-eq (λ b. not (leb R.lost.place 2 && b) ≡ true) R.kept.kind find_kind
        (λ q. rw (lt-leb R.lost.place 2 (find q)) refl) (λ q. rw (and-false (leb R.lost.place 2)) refl)
