-- Inserts: what is known after a step of one's own. Rests on KnownWrites, KnownStays and Ranges.
use Rattle.table.proofs.Common.{◌≡◌, refl, sym, ◌∙◌, ap, ◌≢◌, inl, inr, true, false, true≢false, ℕ, suc, ◌+◌, ◌%◌, ◌≤◌, ◌<◌, arith, insert_kind}
use Rattle.table.proofs.Common.{no_answer, true_answer, fail_answer, record_of, ◌▸◌, ◌with◌, curr≔, succ≔, to, Node, Lost, Record, Memory, target_of, written}
use Rattle.table.proofs.Common.{Place, p0, p1, p2, p3, p4, p13, p14, p18, p19, Next, place_of, row, search_ends, record_after, word_met, in_range}
use Rattle.basics.proofs.Tests.{if, if_eq, if_lt, if_ne, test-eq}
use Rattle.table.proofs.Laws.Reaching.{origin, cast, gap, once}
use Rattle.table.proofs.Laws.Numbered.{link_in, deleter_in, rank_in, follows_in, pred_in, curr_in, succ_in, own_in, asked_in, plain_to, marked_to}
use Rattle.table.proofs.Laws.Numbered.{link_set, Marked, Plain, On, rank_head, link_at_lem, deleter_linked}
use Rattle.table.proofs.Laws.Ranges.{pending_18}
use Rattle.table.proofs.Invariant.Effects.{Orderly, Insertable, Does, owns, cuts, add_on, does_new}
use Rattle.table.proofs.Invariant.Moments.{Later, marked_later, Course, shorter, later, held, used_now}
use Rattle.table.proofs.Invariant.Known.{Since, BeenOn, New, InsertSays, InsertSearch, StruckOrNew, InsertAt, insert_0, insert_1, insert_2}
use Rattle.table.proofs.Invariant.Known.{insert_3, insert_4, insert_13, insert_14, insert_18, insert_19, InsertKept, InsertKnown}
use Rattle.table.proofs.Invariant.Known.{insert_says_true, insert_says_false, insert_says_fail, insert_says_nothing}
use Rattle.table.proofs.Invariant.KnownWrites.{goes_at, writes_at, AfterSwap, edge_curr, edge_on, edge_curr_on, edge_rank, insertable}
use Rattle.table.proofs.Invariant.KnownStays.{been_on⁺, never⁺, insert_says⁺, course_now, orderly_now, edge_now, edge_swapped, new⁺, new_stays⁺}
use Rattle.table.proofs.Invariant.KnownStays.{insert_keeps⁺, own⁺, insert_kept⁺, insert_search⁺, struck_or_new⁺}

module _ {M : ℕ → Memory} {t : ℕ} (H : Course M (suc t)) (r p : ℕ) (rt : r < t) (R : Record) (k : InsertKept M r t R.kept) where
  H₀ : Course M t
  H₀ = course_now H

  i : Orderly (M t)
  i = orderly_now H

  abbrev Known : Record → Type 0
  Known = InsertKnown M r (suc t)

  abbrev After : Next → Type 0
  After x = Known (record_after x)

  now : Since r (suc t) t
  now = record { after = rt; upto = omega arith }

  curr_was : (w : ℕ) → InsertSearch M r t R w → On (M w) (curr_in R)
  curr_was w x = edge_curr H₀ k.small x.edge

  -- curr is plain: it is on the chain now
  curr_now : (w : ℕ) → InsertSearch M r t R w → Plain (M t) (curr_in R) → On (M t) (curr_in R)
  curr_now w x = edge_curr_on H₀ k.small x.edge

  -- a recovering insert did not find its node: it is struck, or was never put in
  not_found : (w : ℕ) → InsertSearch M r t R w → asked_in R + 1 ≤ rank_in (M t) (curr_in R) → curr_in R ≢ own_in R → StruckOrNew M t (own_in R)
  not_found w x g cn = elim x.own [ inl z ↦ inl (struck z, (z.0, omega (arith, z.1, up), z.2)) | inr z ↦ inr z ]
    where
      up : w ≤ t
      up = x.edge.since.upto

      iw : Orderly (M w)
      iw = H.orderly w (omega arith)

      Lw : Later (M w) (M t)
      Lw = later H₀ w up

      not_on : On (M w) (own_in R) → ⊥
      not_on o = elim (gap (follows_in (M w)) (rank_in (M w)) iw.rise x.edge.on o) [
        | inl z ↦ omega (arith, x.edge.low, kn)
        | inr z ↦ cn (once (follows_in (M w)) (rank_in (M w)) iw.rise (curr_was w x) o (omega (arith, ap (rank_in (M w)) bc, kn, kc)))
      ]
        where
          kn : rank_in (M w) (own_in R) ≡ asked_in R + 1
          kn = omega (arith, Lw.ranks (own_in R) (iw.used (own_in R) o), k.named)

          bc : follows_in (M w) (pred_in R) ≡ curr_in R
          bc = omega (arith, x.edge.word)

          kc : rank_in (M t) (curr_in R) ≡ rank_in (M w) (curr_in R)
          kc = edge_rank H₀ k.small x.edge

      struck : BeenOn M w (own_in R) → Marked (M t) (own_in R)
      struck z = elim ((later Hw z.0 z.1).stays (own_in R) z.2) [
        | inl o ↦ absurd (not_on o)
        | inr u ↦ marked_later Lw (own_in R) (used_now Hw z.0 z.1 z.2) u
      ]
        where
          Hw : Course M w
          Hw = shorter H₀ w up

  -- ---- the rows that write nothing

  module _ (eq : M (suc t) ≡ M t) where
    still_new : New M t (own_in R) → New M (suc t) (own_in R)
    still_new = new_stays⁺ H eq

    k⁺ : InsertKept M r (suc t) R.kept
    k⁺ = insert_kept⁺ H r R still_new k

    -- the record goes on to a place, its kept part as it was
    goes_to : {lost : Lost} → InsertAt M r (suc t) (record_of lost R.kept) (place_of lost.place) → Known (record_of lost R.kept)
    goes_to x = record { kept = k⁺; place = λ u. x }

    search⁺ : {w : ℕ} → InsertSearch M r t R w → InsertSearch M r (suc t) R w
    search⁺ x = insert_search⁺ H r R still_new x

    from_0 : (R.lost.recovering ≡ false → New M t (own_in R)) → R.kept.result ≡ no_answer → Known (goes_at p0 (M t) p R)
    unfolding row word_met place_of
    from_0 f e = goes_to (insert_1 t (record {
      edge = edge_now H rt (origin refl) i.head (omega (arith, rank_head (M t)));
      own = own⁺ H r R still_new (omega arith) k.own;
      first = λ z. still_new (f z);
      blank = e;
    }))

    -- "End of search."
    search_ends_lem : (w : ℕ) (target : Node) → InsertSearch M r t R w → Plain (M t) (curr_in R) → asked_in R + 1 ≤ rank_in (M t) (curr_in R)
        → After (search_ends (M t).addresses (R ▸ succ≔ target))
    unfolding search_ends place_of
    search_ends_lem w target x e g = if After R.lost.recovering
        (λ z. if_eq Known (curr_in R) (own_in R)
        (λ q. goes_to (insert_18 (insert_says_true (w, omega (arith, x.edge.since.upto), cast (curr_was w x) q))))
        (λ q. goes_to (insert_14 (struck_or_new⁺ H r R still_new k.node.used (not_found w x g q)))))
        (λ z. if_eq After R.kept.kind insert_kind
        (λ y. if_eq Known (rank_in (M t) (curr_in R)) (asked_in R + 1)
        (λ q. goes_to (insert_18
        (insert_says_false (still_new (x.first z)) (t, now, held (M t) (curr_in R) (asked_in R) (curr_now w x e) e q k.small))))
        (λ q. goes_to (insert_3 w (search⁺ x) (still_new (x.first z)) (omega (arith, edge_rank H₀ k.small x.edge)))))
        (λ y. absurd (y k.kind_is)))

    from_1 : (w : ℕ) → InsertSearch M r t R w → Known (goes_at p1 (M t) p R)
    unfolding row word_met place_of
    from_1 w x = if_eq After (link_in (M t) (curr_in R) % 2) 1
        (λ e. goes_to (insert_2 w (search⁺ x) (omega (arith, ap (λ m. link_in m (curr_in R)) eq))))
        (λ e. if_lt After (rank_in (M t) (curr_in R)) (asked_in R + 1)
        (λ l. goes_to (insert_1 t (record {
          edge = edge_now H rt (curr_now w x (omega arith)) (omega arith) l;
          own = own⁺ H r R still_new x.edge.since.upto x.own;
          first = λ z. still_new (x.first z);
          blank = x.blank;
        })))
        (λ l. search_ends_lem w (target_of (link_in (M t) (curr_in R))) x (omega arith) l))

    from_13 : R.lost.recovering ≡ true → Known (goes_at p13 (M t) p R)
    unfolding row word_met place_of
    from_13 z = if_ne Known R.kept.result no_answer
        (λ e. goes_to (insert_19 k⁺.said))
        (λ e. if_eq Known R.kept.kind insert_kind
        (λ y. goes_to (insert_0 (λ q. absurd (true≢false (sym z ∙ q))) e)) (λ y. absurd (y k.kind_is)))

    from_14 : StruckOrNew M t (own_in R) → Known (goes_at p14 (M t) p R)
    unfolding row word_met place_of
    from_14 x = if_eq Known (link_in (M t) (own_in R) % 2) 1
        (λ e. goes_to (insert_18 (insert_says_true (elim x [ inl z ↦ been_on⁺ M z.1 | inr z ↦ absurd (omega (arith, z.plain)) ]))))
        (λ e. goes_to (insert_19 (insert_says_fail (elim x [ inl z ↦ absurd (e z.0) | inr z ↦ still_new z ]))))

    from_18 : InsertSays M r t (asked_in R) (own_in R) R.lost.pending → R.lost.pending ≢ fail_answer → Known (goes_at p18 (M t) p R)
    unfolding row word_met place_of
    from_18 x nf = let said = insert_says⁺ M still_new x in record { kept = insert_keeps⁺ H k k⁺.own said nf; place = λ u. insert_19 said }

    from_19 : Known (goes_at p19 (M t) p R)
    unfolding row word_met
    from_19 = record { kept = k⁺; place = λ u. absurd (omega arith) }

    -- a swap was lost: back to place 0
    again : (w : ℕ) → InsertSearch M r t R w → Known (R ▸ to 0)
    unfolding place_of
    again w x = goes_to (insert_0 (λ z. still_new (x.first z)) x.blank)

  -- ---- the rows that write

  swapped_2 : (w : ℕ) → InsertSearch M r t R w → link_in (M t) (curr_in R) ≡ marked_to (succ_in R) → link_in (M t) (pred_in R) ≡ plain_to (curr_in R)
      → M (suc t) ≡ written (link_set (pred_in R) (plain_to (succ_in R))) (M t) → Known (R ▸ curr≔ R.lost.succ ▸ to 1)
  unfolding place_of
  swapped_2 w x m e eq = record {
    kept = insert_kept⁺ H r R new_after k;
    place = λ u. insert_1 (suc t) (record {
      edge = edge_swapped H (succ_in R) k.small x.edge e eq;
      own = own⁺ H r R new_after (omega (arith, x.edge.since.upto)) x.own;
      first = λ z. new_after (x.first z);
      blank = x.blank;
    });
  }
    where
      d : Does (M t) p (own_in R) 0 (link_set (pred_in R) (plain_to (succ_in R)))
      d = cuts (pred_in R) (curr_in R) (succ_in R) (edge_on H₀ k.small x.edge e) e m

      new_after : New M t (own_in R) → New M (suc t) (own_in R)
      new_after = new⁺ H d eq (own_in R) (λ z. absurd z) (λ z. absurd z)

  from_2 : (w : ℕ) → InsertSearch M r t R w → link_in (M t) (curr_in R) ≡ marked_to (succ_in R) → M (suc t) ≡ written (writes_at p2 (M t) p R) (M t)
      → Known (goes_at p2 (M t) p R)
  unfolding row word_met written
  from_2 w x m = test-eq (AfterSwap M t Known (link_set (pred_in R) (plain_to (succ_in R))) (R ▸ curr≔ R.lost.succ ▸ to 1) (R ▸ to 0))
      (link_in (M t) (pred_in R)) (plain_to (curr_in R)) (λ e q. swapped_2 w x m e q) (λ e q. again q w x)

  from_3 : (w : ℕ) → InsertSearch M r t R w → New M t (own_in R) → asked_in R + 1 < rank_in (M w) (curr_in R)
      → M (suc t) ≡ written (writes_at p3 (M t) p R) (M t)
      → Known (goes_at p3 (M t) p R)
  unfolding row word_met place_of
  from_3 w x new g eq = record {
    kept = insert_kept⁺ H r R new_after k;
    place = λ u. insert_4 w (insert_search⁺ H r R new_after x) (new_after new) g ln;
  }
    where
      off' : On (M t) (own_in R) → ⊥
      off' o = new.never (t, omega arith, o)

      d : Does (M t) p (own_in R) 0 (link_set (own_in R) (plain_to (curr_in R)))
      d = owns (plain_to (curr_in R)) k.node.inner k.node.used off' new.plain (omega arith)

      ln : link_in (M (suc t)) (own_in R) ≡ plain_to (curr_in R)
      ln = ap (λ m. link_in m (own_in R)) eq ∙ link_at_lem i.room (own_in R) (plain_to (curr_in R)) k.node.used

      new_after : New M t (own_in R) → New M (suc t) (own_in R)
      new_after z = record {
        never = never⁺ M z.never (λ o. elim (does_new i d (rw eq at o)) [ inl o ↦ off' o | inr z ↦ z.1 ]);
        plain = omega (arith, ln);
        leads = let q : follows_in (M (suc t)) (own_in R) ≡ curr_in R = omega (arith, ln) in
            rw q (used_now H w (omega (arith, x.edge.since.upto)) (curr_was w x));
        unsigned = ap (λ m. deleter_in m (own_in R)) eq ∙ deleter_linked (M t) (own_in R) (plain_to (curr_in R)) (own_in R) ∙ z.unsigned;
      }

  swapped_4 : R.kept.result ≡ no_answer → Insertable (M t) (own_in R) (pred_in R) (curr_in R)
      → M (suc t) ≡ written (link_set (pred_in R) (plain_to (own_in R))) (M t) → Known (R ▸ 18 with true_answer)
  unfolding place_of
  swapped_4 e x eq = record {
    kept = insert_keeps⁺ H k (inl been) (rw e insert_says_nothing) k.no_fail;
    place = λ u. insert_18 (insert_says_true been);
  }
    where
      been : BeenOn M (suc t) (own_in R)
      been = (suc t, omega arith, rw eq (add_on i (pred_in R) (own_in R) (curr_in R) x))

  from_4 : (w : ℕ) → InsertSearch M r t R w → New M t (own_in R) → asked_in R + 1 < rank_in (M w) (curr_in R)
      → link_in (M t) (own_in R) ≡ plain_to (curr_in R)
      → M (suc t) ≡ written (writes_at p4 (M t) p R) (M t)
      → Known (goes_at p4 (M t) p R)
  unfolding row word_met written
  from_4 w x new g m = test-eq (AfterSwap M t Known (link_set (pred_in R) (plain_to (own_in R))) (R ▸ 18 with true_answer) (R ▸ to 0))
      (link_in (M t) (pred_in R)) (plain_to (curr_in R)) (λ e q. swapped_4 x.blank (insertable H₀ R k x new g m e) q) (λ e q. again q w x)

  pub insert_goes : (l : Place) → place_of R.lost.place ≡ l → in_range R ≡ true → InsertAt M r t R l
      → M (suc t) ≡ written (writes_at l (M t) p R) (M t)
      → InsertKnown M r (suc t) (goes_at l (M t) p R)
  unfolding row word_met written
  insert_goes l pl ok (insert_0 f e) eq = from_0 eq f e
  insert_goes l pl ok (insert_1 w x) eq = from_1 eq w x
  insert_goes l pl ok (insert_2 w x m) eq = from_2 w x m eq
  insert_goes l pl ok (insert_3 w x new g) eq = from_3 w x new g eq
  insert_goes l pl ok (insert_4 w x new g m) eq = from_4 w x new g m eq
  insert_goes l pl ok (insert_13 z) eq = from_13 eq z
  insert_goes l pl ok (insert_14 x) eq = from_14 eq x
  insert_goes l pl ok (insert_18 x) eq = from_18 eq x (pending_18 R ok pl)
  insert_goes l pl ok (insert_19 x) eq = from_19 eq
