-- Finds: what is known after a step of one's own; this is where hindsight serves. Rests on KnownWrites and KnownStays.
use Rattle.table.proofs.Common.{◌≡◌, sym, ◌∙◌, ap, ◌≢◌, not, ◌&&◌, ℕ, suc, ◌+◌, ◌/◌, ◌%◌, ◌<◌, arith, ℕ_discrete, eqb, eqb-true, insert_kind}
use Rattle.table.proofs.Common.{delete_kind, no_answer, record_of, Lost, Record, Memory, Place, p11, p12, p13, p19, place_of, row, word_met}
use Rattle.basics.proofs.Tests.{if, if_eq, if_lt, and_left, if_ne}
use Rattle.table.proofs.Laws.Reaching.{further}
use Rattle.table.proofs.Laws.Numbered.{link_in, rank_in, follows_in, curr_in, own_in, asked_in, Marked, On, rank_tail}
use Rattle.table.proofs.Invariant.Effects.{Orderly}
use Rattle.table.proofs.Invariant.Moments.{Course, OnSince, shorter, hindsight, held, between, struck_gone, on_now, rank_now, gone_since}
use Rattle.table.proofs.Invariant.Known.{Since, GoneSince, Walked, FindAt, find_11, find_12, find_13, find_19, FindKept, FindKnown}
use Rattle.table.proofs.Invariant.Known.{find_says_true, find_says_false}
use Rattle.table.proofs.Invariant.KnownWrites.{goes_at}
use Rattle.table.proofs.Invariant.KnownStays.{since⁺, course_now, orderly_now}

module _ {M : ℕ → Memory} {t : ℕ} (H : Course M (suc t)) (r p : ℕ) (rt : r < t) (R : Record) (k : FindKept M R.kept) where
  H₀ : Course M t
  H₀ = course_now H

  i : Orderly (M t)
  i = orderly_now H

  abbrev Known : Record → Type 0
  Known = FindKnown M r (suc t)

  -- the record goes on to a place, its kept part as it was
  goes_to : {lost : Lost} → FindAt M r (suc t) (record_of lost R.kept) (place_of lost.place) → Known (record_of lost R.kept)
  goes_to x = record { kept = k; place = λ u. x }

  from_11 : (w : ℕ) → Walked M r t (curr_in R) w → rank_in (M w) (curr_in R) < asked_in R + 1 → Known (goes_at p11 (M t) p R)
  unfolding row word_met place_of
  from_11 w₀ x low = if_lt Known (rank_in (M t) d) (asked_in R + 1)
      (λ l. goes_to (find_11 w walked (omega (arith, kd))))
      (λ l. if_eq Known (rank_in (M t) d) (asked_in R + 1)
      (λ e. goes_to (find_12 w walked (sym kd ∙ e)))
      (λ e. goes_to (find_19 (find_says_false (
        w,
        sw,
        between (H.orderly w (omega (arith, z.2))) (curr_in R) (asked_in R) z.3 (omega (arith, kc))
            (omega (arith, kd, ap (rank_in (M w)) dw)),
      )))))
    where
      d : ℕ
      d = follows_in (M t) (curr_in R)

      z : OnSince M w₀ t (curr_in R)
      z = hindsight H₀ w₀ x.since.upto x.on

      w : ℕ
      w = z.0

      sw : Since r (suc t) z.0
      sw = record { after = omega (arith, x.since.after, z.1); upto = omega (arith, z.2) }

      dw : follows_in (M w) (curr_in R) ≡ d
      dw = ap (λ y. y / 2) z.4

      kc : rank_in (M w) (curr_in R) < asked_in R + 1
      kc = omega (arith, rank_now (shorter H₀ w z.2) w₀ z.1 x.on, low)

      c1 : curr_in R ≢ 1
      c1 q = absurd (omega (arith, ap (rank_in (M w)) q, rank_tail (M w), kc, k.small))

      od : On (M w) d
      od = further z.3 c1 dw

      walked : Walked M r (suc t) d w
      walked = record { since = sw; on = od }

      kd : rank_in (M t) d ≡ rank_in (M w) d
      kd = rank_now H₀ w z.2 od

  from_12 : (w : ℕ) → Walked M r t (curr_in R) w → rank_in (M w) (curr_in R) ≡ asked_in R + 1 → Known (goes_at p12 (M t) p R)
  unfolding row word_met place_of
  from_12 w x e = if_eq Known (link_in (M t) (curr_in R) % 2) 1
      (λ s. goes_to (find_19 (find_says_false (gone s (ℕ_discrete (link_in (M w) (curr_in R) % 2) 1)))))
      (λ s. goes_to (find_19 (find_says_true (
        t,
        record { after = rt; upto = omega arith },
        held (M t) (curr_in R) (asked_in R) (on_now H₀ w x.since.upto x.on (omega arith)) (omega arith)
            (rank_now H₀ w x.since.upto x.on ∙ e) k.small,
      ))))
    where
      gone : Marked (M t) (curr_in R) → Dec (link_in (M w) (curr_in R) % 2 ≡ 1) → GoneSince M r (suc t) (asked_in R)
      gone s (yes q) = (w, since⁺ x.since, struck_gone (H.orderly w (omega (arith, x.since.upto))) (curr_in R) (asked_in R) x.on q e)
      gone s (no q) = let z = gone_since H₀ w x.since.upto (asked_in R) x.on (omega arith) e s in
          (z.0, record { after = omega (arith, z.1, x.since.after); upto = omega (arith, z.2) }, z.3)

  from_13 : Known (goes_at p13 (M t) p R)
  unfolding row word_met place_of
  from_13 = if_ne Known R.kept.result no_answer (λ e. absurd (e k.blank))
      (λ e. if_eq Known R.kept.kind insert_kind (λ q. absurd (omega (arith, k.kind_is)))
      (λ q. if Known (eqb R.kept.kind delete_kind && not (eqb (own_in R) 0))
      (λ f. absurd (omega (
        arith,
        eqb-true R.kept.kind delete_kind (and_left (eqb R.kept.kind delete_kind) (not (eqb (own_in R) 0)) f),
        k.kind_is,
      )))
      (λ f. goes_to (find_19 (record { if_true = λ v. absurd (omega arith); if_false = λ v. absurd (omega arith) })))))

  from_19 : Known (goes_at p19 (M t) p R)
  unfolding row word_met
  from_19 = record { kept = k; place = λ u. absurd (omega arith) }

  pub find_goes : (l : Place) → FindAt M r t R l → FindKnown M r (suc t) (goes_at l (M t) p R)
  find_goes l (find_11 w x y) = from_11 w x y
  find_goes l (find_12 w x y) = from_12 w x y
  find_goes l find_13 = from_13
  find_goes l (find_19 x) = from_19
