-- Deletes: what is known after a step of one's own. Rests on KnownWrites, KnownStays and Ranges.
use Rattle.table.proofs.Common.{◌≡◌, refl, sym, ◌∙◌, ap, ◌≢◌, ◌⊎◌, inl, inr, true, false, cond, not, ◌&&◌, false≢true, true≢false, ℕ, suc, ◌+◌}
use Rattle.table.proofs.Common.{◌%◌, ◌≤◌, ◌<◌, arith, ℕ_discrete, eqb, eq-eqb, ne_eqb, insert_kind, delete_kind, no_answer, true_answer, fail_answer, record_of, ◌▸◌}
use Rattle.table.proofs.Common.{curr≔, succ≔, to, Node, Lost, Record, Memory, target_of, nothing, written, Place, p0, p1, p2, p5, p6, p7, p8}
use Rattle.table.proofs.Common.{p9, p10, p13, p15, p16, p17, p18, p19, Next, place_of, row, search_ends, record_after, word_met, in_range}
use Rattle.basics.proofs.Tests.{if, if_eq, if_lt, and_right, if_ne, test-eq}
use Rattle.table.proofs.Laws.Reaching.{origin}
use Rattle.table.proofs.Laws.Numbered.{link_in, deleter_in, rank_in, follows_in, pred_in, curr_in, succ_in, own_in, asked_in, plain_to, marked_to}
use Rattle.table.proofs.Laws.Numbered.{link_set, deleter_set, Marked, Plain, On, HeldIn, rank_head, deleter_at_lem}
use Rattle.table.proofs.Laws.Ranges.{pending_18}
use Rattle.table.proofs.Invariant.Effects.{Orderly}
use Rattle.table.proofs.Invariant.Moments.{Course, between, used_now, target_now, signed_now, gone_since}
use Rattle.table.proofs.Invariant.Known.{Since, BeenOn, GoneSince, SawHeld, DeleteSays, DeleteBlank, DeleteEdge, DeletePast, DeleteAt}
use Rattle.table.proofs.Invariant.Known.{delete_0, delete_1, delete_2, delete_5, delete_6, delete_7, delete_8, delete_9, delete_10, delete_13}
use Rattle.table.proofs.Invariant.Known.{delete_15, delete_16, delete_17, delete_18, delete_19, DeleteKept, DeleteKnown, delete_says_true}
use Rattle.table.proofs.Invariant.Known.{delete_says_false, delete_says_fail, delete_says_nothing}
use Rattle.table.proofs.Invariant.KnownWrites.{goes_at, writes_at, AfterSwap, edge_curr, edge_curr_on, edge_rank}
use Rattle.table.proofs.Invariant.KnownStays.{since⁺, been_on⁺, edge⁺, saw_held⁺, course_now, orderly_now, edge_now, edge_swapped, saw_marked⁺}
use Rattle.table.proofs.Invariant.KnownStays.{saw_signed⁺, saw_deleter⁺, delete_says⁺, delete_kept⁺, delete_past⁺}

module _ {M : ℕ → Memory} {t : ℕ} (H : Course M (suc t)) (r p : ℕ) (rt : r < t) (R : Record) (k : DeleteKept M r t p R.kept) where
  H₀ : Course M t
  H₀ = course_now H

  i : Orderly (M t)
  i = orderly_now H

  abbrev Known : Record → Type 0
  Known = DeleteKnown M r (suc t) p

  abbrev After : Next → Type 0
  After x = Known (record_after x)

  k⁺ : DeleteKept M r (suc t) p R.kept
  k⁺ = delete_kept⁺ H r p R k

  -- the record goes on to a place, its kept part as it was
  goes_to : {lost : Lost} → DeleteAt M r (suc t) p (record_of lost R.kept) (place_of lost.place) → Known (record_of lost R.kept)
  goes_to x = record { kept = k⁺; place = λ u. x }

  past⁺ : DeletePast M r t R → DeletePast M r (suc t) R
  past⁺ = delete_past⁺ H r p R

  now : Since r (suc t) t
  now = record { after = rt; upto = omega arith }

  -- a node that was held and is marked: its address was let go in between
  gone : (x : ℕ) → SawHeld M r t (asked_in R) x → Marked (M t) x → GoneSince M r (suc t) (asked_in R)
  gone x m d = let z = gone_since H₀ m.w m.since.upto (asked_in R) m.on m.plain m.named d in
      (z.0, record { after = omega (arith, z.1, m.since.after); upto = omega (arith, z.2) }, z.3)

  -- a node that was held and has a deleter is marked
  signed_marked : (x : ℕ) → SawHeld M r t (asked_in R) x → deleter_in (M t) x ≢ 0 → Marked (M t) x
  signed_marked x m d = signed_now H₀ m.w m.since.upto m.on d

  says_true : SawHeld M r t (asked_in R) (own_in R) → deleter_in (M t) (own_in R) ≡ p + 1 → DeleteSays M r (suc t) p (asked_in R) (own_in R) true_answer
  says_true m d = delete_says_true (saw_held⁺ M m) (saw_deleter⁺ H m (λ q. absurd (omega arith)) ∙ d)

  curr_was : (w : ℕ) → DeleteEdge M r t R w → On (M w) (curr_in R)
  curr_was w x = edge_curr H₀ k.small x

  curr_now : (w : ℕ) → DeleteEdge M r t R w → Plain (M t) (curr_in R) → On (M t) (curr_in R)
  curr_now w x = edge_curr_on H₀ k.small x

  -- ---- the search

  from_0 : DeleteBlank M R → Known (goes_at p0 (M t) p R)
  unfolding row word_met place_of
  from_0 x = goes_to (delete_1 x t (edge_now H rt (origin refl) i.head (omega (arith, rank_head (M t)))))

  -- "End of search."
  search_ends_lem : (w : ℕ) (target : Node) → DeleteBlank M R → DeleteEdge M r t R w → Plain (M t) (curr_in R) → asked_in R + 1 ≤ rank_in (M t) (curr_in R)
      → After (search_ends (M t).addresses (R ▸ succ≔ target))
  unfolding search_ends place_of
  search_ends_lem w target x z e g = if After R.lost.recovering
      (λ y. absurd (true≢false (sym y ∙ x.first)))
      (λ y. if_eq After R.kept.kind insert_kind (λ q. absurd (omega (arith, k.kind_is)))
      (λ q. if_eq Known (rank_in (M t) (curr_in R)) (asked_in R + 1)
      (λ f. goes_to (delete_5 x (record { w = t; since = now; on = curr_now w z e; plain = e; named = f }) (w, omega (arith, z.since.upto), z.on)))
      (λ f. goes_to (delete_18 (delete_says_false (inl x.node) (w, since⁺ z.since, free f))))))
    where
      bc : follows_in (M w) (pred_in R) ≡ curr_in R
      bc = omega (arith, z.word)

      free : rank_in (M t) (curr_in R) ≢ asked_in R + 1 → HeldIn (M w) (asked_in R) → ⊥
      free f = between (H.orderly w (omega (arith, z.since.upto))) (pred_in R) (asked_in R) z.on z.low
          (omega (arith, ap (rank_in (M w)) bc, edge_rank H₀ k.small z))

  from_1 : DeleteBlank M R → (w : ℕ) → DeleteEdge M r t R w → M (suc t) ≡ M t → Known (goes_at p1 (M t) p R)
  unfolding row word_met place_of
  from_1 x w z eq = if_eq After (link_in (M t) (curr_in R) % 2) 1
      (λ e. goes_to (delete_2 x w (edge⁺ M z) (omega (arith, ap (λ m. link_in m (curr_in R)) eq))))
      (λ e. if_lt After (rank_in (M t) (curr_in R)) (asked_in R + 1)
      (λ l. goes_to (delete_1 x t (edge_now H rt (curr_now w z (omega arith)) (omega arith) l)))
      (λ l. search_ends_lem w (target_of (link_in (M t) (curr_in R))) x z (omega arith) l))

  from_2 : DeleteBlank M R → (w : ℕ) → DeleteEdge M r t R w → M (suc t) ≡ written (writes_at p2 (M t) p R) (M t) → Known (goes_at p2 (M t) p R)
  unfolding row word_met place_of
  from_2 x w z = test-eq (AfterSwap M t Known (link_set (pred_in R) (plain_to (succ_in R))) (R ▸ curr≔ R.lost.succ ▸ to 1) (R ▸ to 0))
      (link_in (M t) (pred_in R)) (plain_to (curr_in R))
      (λ e q. goes_to (delete_1 x (suc t) (edge_swapped H (succ_in R) k.small z e q)))
      (λ e q. goes_to (delete_0 x))

  -- ---- past the search

  from_5 : DeleteBlank M R → SawHeld M r t (asked_in R) (curr_in R) → BeenOn M t (pred_in R) → Known (goes_at p5 (M t) p R)
  unfolding row word_met place_of
  from_5 x m o = record {
    kept = record {
      kind_is = k.kind_is;
      small = k.small;
      saw = inr (saw_held⁺ M m);
      said = rw x.blank delete_says_nothing;
      no_fail = k.no_fail;
    };
    place = λ u. delete_6 (record { node = refl; saw = saw_held⁺ M m; pred_on = been_on⁺ M o });
  }

  from_6 : DeletePast M r t R → M (suc t) ≡ M t → Known (goes_at p6 (M t) p R)
  unfolding row word_met place_of
  from_6 x eq = if_eq Known (link_in (M t) (curr_in R) % 2) 1
      (λ e. goes_to (delete_8 (past⁺ x) (omega (arith, ap (λ m. link_in m (curr_in R)) eq))))
      (λ e. goes_to (delete_7 (past⁺ x) (rw eq (target_now H₀ x.saw.w x.saw.since.upto x.saw.on))))

  from_7 : DeletePast M r t R → Known (goes_at p7 (M t) p R)
  unfolding row word_met place_of
  from_7 x = if Known (eqb (link_in (M t) (curr_in R)) (plain_to (succ_in R))) (λ e. goes_to (delete_6 (past⁺ x))) (λ e. goes_to (delete_6 (past⁺ x)))

  from_8 : DeletePast M r t R → link_in (M t) (curr_in R) ≡ marked_to (succ_in R) → Known (goes_at p8 (M t) p R)
  unfolding row word_met place_of
  from_8 x m = if Known (eqb (link_in (M t) (pred_in R)) (plain_to (curr_in R)))
      (λ e. goes_to (delete_9 (past⁺ x) sk)) (λ e. goes_to (delete_9 (past⁺ x) sk))
    where
      sk : Marked (M (suc t)) (curr_in R)
      sk = saw_marked⁺ H x.saw (omega arith)

  -- after a swap of the deleter word there is a deleter
  signed : (y : ℕ) → SawHeld M r t (asked_in R) y → M (suc t) ≡ written (cond (eqb (deleter_in (M t) y) 0) (deleter_set y (p + 1)) nothing) (M t)
      → deleter_in (M (suc t)) y ≢ 0
  unfolding written
  signed y m = test-eq (λ v. M (suc t) ≡ written (cond v (deleter_set y (p + 1)) nothing) (M t) → deleter_in (M (suc t)) y ≢ 0) (deleter_in (M t) y) 0
      (λ e q z. absurd (omega (
        arith,
        ap (λ m. deleter_in m y) q,
        deleter_at_lem i.room y (p + 1) (used_now H₀ m.w m.since.upto m.on),
      )))
      (λ e q z. e (sym (ap (λ m. deleter_in m y) q) ∙ z))

  from_9 : DeletePast M r t R → M (suc t) ≡ written (writes_at p9 (M t) p R) (M t) → Known (goes_at p9 (M t) p R)
  unfolding row word_met place_of
  from_9 x eq = goes_to (delete_10 (past⁺ x) (signed (curr_in R) x.saw eq))

  from_10 : DeletePast M r t R → deleter_in (M t) (curr_in R) ≢ 0 → Known (goes_at p10 (M t) p R)
  unfolding row word_met place_of
  from_10 x d = if_eq Known (deleter_in (M t) (curr_in R)) (p + 1)
      (λ e. goes_to (delete_18 (says_true m (ap (deleter_in (M t)) x.node ∙ e))))
      (λ e. goes_to (delete_18 (delete_says_false (inr (
        saw_signed⁺ H m dn,
        (λ q. e (sym (ap (deleter_in (M t)) x.node) ∙ sym (saw_deleter⁺ H m dn) ∙ q)),
      )) (gone (own_in R) m (signed_marked (own_in R) m dn)))))
    where
      m : SawHeld M r t (asked_in R) (own_in R)
      m = rw x.node x.saw

      dn : deleter_in (M t) (own_in R) ≢ 0
      dn q = d (sym (ap (deleter_in (M t)) x.node) ∙ q)

  -- ---- recovery

  from_13 : Known (goes_at p13 (M t) p R)
  unfolding row word_met place_of
  from_13 = if_ne Known R.kept.result no_answer
      (λ e. goes_to (delete_19 k⁺.said))
      (λ e. if_eq Known R.kept.kind insert_kind (λ q. absurd (omega (arith, k.kind_is)))
      (λ q. if Known (eqb R.kept.kind delete_kind && not (eqb (own_in R) 0))
      (λ f. goes_to (delete_15 (saw_held⁺ M (saw f k.saw))))
      (λ f. goes_to (delete_19 (delete_says_fail (inl (none f (ℕ_discrete (own_in R) 0))))))))
    where
      saw : (eqb R.kept.kind delete_kind && not (eqb (own_in R) 0)) ≡ true → (own_in R ≡ 0) ⊎ SawHeld M r t (asked_in R) (own_in R)
          → SawHeld M r t (asked_in R) (own_in R)
      saw f (inr m) = m
      saw f (inl z) = absurd (false≢true (rw (eq-eqb (own_in R) 0 z) at (and_right (eqb R.kept.kind delete_kind) (not (eqb (own_in R) 0)) f)))

      none : (eqb R.kept.kind delete_kind && not (eqb (own_in R) 0)) ≡ false → Dec (own_in R ≡ 0) → own_in R ≡ 0
      none f (yes z) = z
      none f (no z) = absurd (false≢true (sym (rw (eq-eqb R.kept.kind delete_kind k.kind_is, ne_eqb (own_in R) 0 z) at f)))

  from_15 : SawHeld M r t (asked_in R) (own_in R) → M (suc t) ≡ M t → Known (goes_at p15 (M t) p R)
  unfolding row word_met place_of
  from_15 x eq = if_eq Known (link_in (M t) (own_in R) % 2) 1
      (λ e. goes_to (delete_16 (saw_held⁺ M x) (saw_marked⁺ H x e)))
      (λ e. goes_to (delete_19
      (delete_says_fail (inr (λ q. e (signed_marked (own_in R) x (λ z. absurd (omega (arith, ap (λ m. deleter_in m (own_in R)) eq)))))))))

  from_16 : SawHeld M r t (asked_in R) (own_in R) → M (suc t) ≡ written (writes_at p16 (M t) p R) (M t) → Known (goes_at p16 (M t) p R)
  unfolding row word_met place_of
  from_16 x eq = goes_to (delete_17 (saw_held⁺ M x) (signed (own_in R) x eq))

  from_17 : SawHeld M r t (asked_in R) (own_in R) → deleter_in (M t) (own_in R) ≢ 0 → Known (goes_at p17 (M t) p R)
  unfolding row word_met place_of
  from_17 x d = if_eq Known (deleter_in (M t) (own_in R)) (p + 1)
      (λ e. goes_to (delete_18 (says_true x e)))
      (λ e. goes_to (delete_19 (delete_says_fail (inr (λ q. e (sym (saw_deleter⁺ H x d) ∙ q))))))

  from_18 : DeleteSays M r t p (asked_in R) (own_in R) R.lost.pending → R.lost.pending ≢ fail_answer → Known (goes_at p18 (M t) p R)
  unfolding row word_met place_of
  from_18 x nf = record {
    kept = record { kind_is = k.kind_is; small = k.small; saw = k⁺.saw; said = said; no_fail = nf };
    place = λ u. delete_19 said;
  }
    where
      said : DeleteSays M r (suc t) p (asked_in R) (own_in R) R.lost.pending
      said = delete_says⁺ H r p R R.lost.pending (λ q. absurd (nf q)) k x

  from_19 : Known (goes_at p19 (M t) p R)
  unfolding row word_met
  from_19 = record { kept = k⁺; place = λ u. absurd (omega arith) }

  pub delete_goes : (l : Place) → place_of R.lost.place ≡ l → in_range R ≡ true → DeleteAt M r t p R l
      → M (suc t) ≡ written (writes_at l (M t) p R) (M t)
      → DeleteKnown M r (suc t) p (goes_at l (M t) p R)
  unfolding row word_met written
  delete_goes l pl ok (delete_0 x) eq = from_0 x
  delete_goes l pl ok (delete_1 x w z) eq = from_1 x w z eq
  delete_goes l pl ok (delete_2 x w z m) eq = from_2 x w z eq
  delete_goes l pl ok (delete_5 x m o) eq = from_5 x m o
  delete_goes l pl ok (delete_6 x) eq = from_6 x eq
  delete_goes l pl ok (delete_7 x u) eq = from_7 x
  delete_goes l pl ok (delete_8 x m) eq = from_8 x m
  delete_goes l pl ok (delete_9 x m) eq = from_9 x eq
  delete_goes l pl ok (delete_10 x d) eq = from_10 x d
  delete_goes l pl ok delete_13 eq = from_13
  delete_goes l pl ok (delete_15 x) eq = from_15 x eq
  delete_goes l pl ok (delete_16 x m) eq = from_16 x eq
  delete_goes l pl ok (delete_17 x d) eq = from_17 x d
  delete_goes l pl ok (delete_18 x) eq = from_18 x (pending_18 R ok pl)
  delete_goes l pl ok (delete_19 x) eq = from_19
