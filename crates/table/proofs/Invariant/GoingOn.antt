-- A step goes on: it hands out nothing and keeps status and address, and its node but at place 5; or it is the last, at 19, and hands out the
-- answer. Rests on KnownWrites.
use Rattle.table.proofs.Common.{◌≡◌, refl, ◌≢◌, ◌⊎◌, inl, inr, Bool, true, false, cond, not, ◌&&◌, ℕ, ◌+◌, eqb, idle_status, insert_kind, delete_kind}
use Rattle.table.proofs.Common.{no_answer, record_of, Lost, Record, Outcome, Accepted, Answered, Memory, target_of, is_marked, below, equal, Write}
use Rattle.table.proofs.Common.{nothing, Place, p0, p1, p2, p3, p4, p5, p6, p7, p8, p9, p10, p11, p12, p13, p14, p15, p16, p17, p18, p19, off}
use Rattle.table.proofs.Common.{Next, row, search_ends, record_after, word_met}
use Rattle.table.proofs.Laws.Numbered.{link_in, deleter_in, pred_in, curr_in, succ_in, own_in, asked_in, plain_to}
use Rattle.table.proofs.Invariant.KnownWrites.{goes_at, writes_at, says_at}

pub record GoesOn (l : Place) (R R' : Record) (o : Outcome) : Type 0 where
  pub status : R'.kept.status ≡ R.kept.status
  pub address : asked_in R' ≡ asked_in R
  pub says : o ≡ Accepted
  pub node : l ≢ p5 → own_in R' ≡ own_in R

-- place 19 hands out the pending answer, and the process is idle
pub record HandsOut (l : Place) (R R' : Record) (o : Outcome) (w : Write) : Type 0 where
  pub place : l ≡ p19
  pub status : R'.kept.status ≡ idle_status
  pub says : o ≡ Answered R.lost.pending
  pub writes : w ≡ nothing

-- a record whose kept part is R's
same : {l : Place} {R : Record} {lost : Lost} → GoesOn l R (record_of lost R.kept) Accepted
same = record { status = refl; address = refl; says = refl; node = λ h. refl }

-- whatever the test says
pub either {ℓ} : {A : Type ℓ} (P : A → Type 0) (b : Bool) {x y : A} → P x → P y → P (cond b x y)
either P true f g = f
either P false f g = g

abbrev On' : Place → Record → Record → Type 0
On' l R R' = GoesOn l R R' Accepted

abbrev OnNext : Place → Record → Next → Type 0
OnNext l R x = On' l R (record_after x)

pub goes_on : (l : Place) (m : Memory) (p : ℕ) (R : Record)
    → HandsOut l R (goes_at l m p R) (says_at l m p R) (writes_at l m p R) ⊎ GoesOn l R (goes_at l m p R) (says_at l m p R)
unfolding row search_ends word_met
goes_on p0 m p R = inr same
goes_on p1 m p R = inr (either (OnNext p1 R) (is_marked (link_in m (curr_in R))) same
    (either (OnNext p1 R) (below m.addresses R.lost.curr R.kept.address) same
    (either (OnNext p1 R) R.lost.recovering
    (either (On' p1 R) (eqb (curr_in R) (own_in R)) same same)
    (either (OnNext p1 R) (eqb R.kept.kind insert_kind)
    (either (On' p1 R) (equal m.addresses R.lost.curr R.kept.address) same same)
    (either (On' p1 R) (equal m.addresses R.lost.curr R.kept.address) same same)))))
goes_on p2 m p R = inr (either (On' p2 R) (eqb (link_in m (pred_in R)) (plain_to (curr_in R))) same same)
goes_on p3 m p R = inr same
goes_on p4 m p R = inr (either (On' p4 R) (eqb (link_in m (pred_in R)) (plain_to (curr_in R))) same same)
goes_on p5 m p R = inr (record { status = refl; address = refl; says = refl; node = λ h. absurd (h refl) })
goes_on p6 m p R = inr (either (On' p6 R) (is_marked (link_in m (curr_in R))) same same)
goes_on p7 m p R = inr (either (On' p7 R) (eqb (link_in m (curr_in R)) (plain_to (succ_in R))) same same)
goes_on p8 m p R = inr (either (On' p8 R) (eqb (link_in m (pred_in R)) (plain_to (curr_in R))) same same)
goes_on p9 m p R = inr same
goes_on p10 m p R = inr (either (On' p10 R) (eqb (deleter_in m (curr_in R)) (p + 1)) same same)
goes_on p11 m p R = inr (either (On' p11 R) (below m.addresses (target_of (link_in m (curr_in R))) R.kept.address) same
    (either (On' p11 R) (equal m.addresses (target_of (link_in m (curr_in R))) R.kept.address) same same))
goes_on p12 m p R = inr (either (On' p12 R) (is_marked (link_in m (curr_in R))) same same)
goes_on p13 m p R = inr (either (On' p13 R) (not (eqb R.kept.result no_answer)) same
    (either (On' p13 R) (eqb R.kept.kind insert_kind) same
    (either (On' p13 R) (eqb R.kept.kind delete_kind && not (eqb (own_in R) 0)) same same)))
goes_on p14 m p R = inr (either (On' p14 R) (is_marked (link_in m (own_in R))) same same)
goes_on p15 m p R = inr (either (On' p15 R) (is_marked (link_in m (own_in R))) same same)
goes_on p16 m p R = inr same
goes_on p17 m p R = inr (either (On' p17 R) (eqb (deleter_in m (own_in R)) (p + 1)) same same)
goes_on p18 m p R = inr (record { status = refl; address = refl; says = refl; node = λ h. refl })
goes_on p19 m p R = inl (record { place = refl; status = refl; says = refl; writes = refl })
goes_on off m p R = inr same
