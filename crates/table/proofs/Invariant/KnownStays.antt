-- What is known of a process stays known through an event, and a search's edge after a step. Rests on KnownWrites.
use Rattle.table.proofs.Common.{◌≡◌, sym, ◌∙◌, ap, ◌≢◌, ◌⊎◌, inl, inr, ℕ, suc, ◌+◌, ◌/◌, ◌≤◌, ◌<◌, arith, ℕ_discrete, fail_answer, Record, Memory}
use Rattle.table.proofs.Common.{above_all, Write, nothing, written, Place, place_of}
use Rattle.table.proofs.Laws.Numbered.{link_in, deleter_in, rank_in, follows_in, Used, curr_in, succ_in, own_in, asked_in, plain_to, marked_to, link_set}
use Rattle.table.proofs.Laws.Numbered.{Marked, Plain, On, link_at_lem}
use Rattle.table.proofs.Invariant.Effects.{Orderly, Does, rests, IsAdds, IsOwns, does_new, does_else, does_deleter, does_unsigned}
use Rattle.table.proofs.Invariant.Moments.{Later, marked_later, Course, shorter, later, on_now, used_now, rank_now}
use Rattle.table.proofs.Invariant.Known.{Since, BeenOn, New, HeldSince, GoneSince, Edge, SawHeld, InsertSays, InsertSearch, StruckOrNew}
use Rattle.table.proofs.Invariant.Known.{InsertAt, insert_0, insert_1, insert_2, insert_3, insert_4, insert_13, insert_14, insert_18}
use Rattle.table.proofs.Invariant.Known.{insert_19, InsertKeeps, InsertKept, DeleteSays, DeletePast, DeleteAt, delete_0, delete_1, delete_2}
use Rattle.table.proofs.Invariant.Known.{delete_5, delete_6, delete_7, delete_8, delete_9, delete_10, delete_13, delete_15, delete_16}
use Rattle.table.proofs.Invariant.Known.{delete_17, delete_18, delete_19, DeleteKept, FindSays, Walked, FindAt, find_11, find_12, find_13}
use Rattle.table.proofs.Invariant.Known.{find_19, InsertKnown, DeleteKnown, FindKnown}
use Rattle.table.proofs.Invariant.KnownWrites.{edge_curr, edge_on}

pub since⁺ : {r t w : ℕ} → Since r t w → Since r (suc t) w
since⁺ s = record { after = s.after; upto = omega (arith, s.upto) }

module _ (M : ℕ → Memory) where
  pub been_on⁺ : {t n : ℕ} → BeenOn M t n → BeenOn M (suc t) n
  been_on⁺ x = (x.0, omega (arith, x.1), x.2)

  -- a node that was never on the chain, and is not on it now
  pub never⁺ : {t n : ℕ} → (BeenOn M t n → ⊥) → (On (M (suc t)) n → ⊥) → BeenOn M (suc t) n → ⊥
  never⁺ {t} {n} before now x = elim (ℕ_discrete x.0 (suc t)) [
    | yes e ↦ now (rw e at x.2)
    | no e ↦ before (x.0, omega (arith, x.1), x.2)
  ]

  held_since⁺ : {r t a : ℕ} → HeldSince M r t a → HeldSince M r (suc t) a
  held_since⁺ x = (x.0, since⁺ x.1, x.2)

  gone_since⁺ : {r t a : ℕ} → GoneSince M r t a → GoneSince M r (suc t) a
  gone_since⁺ x = (x.0, since⁺ x.1, x.2)

  pub edge⁺ : {r t a b c w : ℕ} → Edge M r t a b c w → Edge M r (suc t) a b c w
  edge⁺ x = record { since = since⁺ x.since; on = x.on; word = x.word; low = x.low }

  pub saw_held⁺ : {r t a n : ℕ} → SawHeld M r t a n → SawHeld M r (suc t) a n
  saw_held⁺ x = record { w = x.w; since = since⁺ x.since; on = x.on; plain = x.plain; named = x.named }

  pub insert_says⁺ : {r t a n v : ℕ} → (New M t n → New M (suc t) n) → InsertSays M r t a n v → InsertSays M r (suc t) a n v
  insert_says⁺ f s = record {
    if_true = λ e. been_on⁺ (s.if_true e);
    if_false = λ e. (f (s.if_false e).0, held_since⁺ (s.if_false e).1);
    if_fail = λ e. f (s.if_fail e);
  }

  find_says⁺ : {r t a v : ℕ} → FindSays M r t a v → FindSays M r (suc t) a v
  find_says⁺ s = record { if_true = λ e. held_since⁺ (s.if_true e); if_false = λ e. gone_since⁺ (s.if_false e) }

  walked⁺ : {r t c w : ℕ} → Walked M r t c w → Walked M r (suc t) c w
  walked⁺ x = record { since = since⁺ x.since; on = x.on }

module _ {M : ℕ → Memory} {t : ℕ} (H : Course M (suc t)) where
  next_later : Later (M t) (M (suc t))
  next_later = later H t (omega arith)

  pub course_now : Course M t
  course_now = shorter H t (omega arith)

  pub orderly_now : Orderly (M t)
  orderly_now = H.orderly t (omega arith)

  -- ---- a search's edge

  -- it starts at a node that is on the chain now
  pub edge_now : {r a c : ℕ} → r < t → On (M t) c → Plain (M t) c → rank_in (M t) c < a + 1 → Edge M r (suc t) a c (follows_in (M t) c) t
  edge_now rt o e l = record { since = record { after = rt; upto = omega arith }; on = o; word = omega arith; low = l }

  -- pred's word was swapped from curr to s
  pub edge_swapped : {r a b c w : ℕ} (s : ℕ) → a + 1 < above_all → Edge M r t a b c w → link_in (M t) b ≡ plain_to c
      → M (suc t) ≡ written (link_set b (plain_to s)) (M t) → Edge M r (suc t) a b s (suc t)
  edge_swapped {b = b} {w = w} s small x e eq = record {
    since = record { after = omega (arith, x.since.after, up); upto = omega arith };
    on = on_now H w (omega (arith, up)) x.on (omega (arith, word));
    word = word;
    low = omega (arith, rank_now H w (omega (arith, up)) x.on, x.low);
  }
    where
      up : w ≤ t
      up = x.since.upto

      word : link_in (M (suc t)) b ≡ plain_to s
      word = ap (λ m. link_in m b) eq ∙ link_at_lem orderly_now.room b (plain_to s) (orderly_now.used b (edge_on course_now small x e))

  -- the marked word and the deleter of a node seen at w
  module _ (w n : ℕ) (le : w ≤ t) (o : On (M w) n) where
    seen_used : Used (M t) n
    seen_used = used_now course_now w le o

    marked⁺ : Marked (M t) n → Marked (M (suc t)) n
    marked⁺ s = marked_later next_later n seen_used s

    word⁺ : (s : ℕ) → link_in (M t) n ≡ marked_to s → link_in (M (suc t)) n ≡ marked_to s
    word⁺ s e = next_later.frozen n seen_used (omega arith) ∙ e

    deleter⁺ : deleter_in (M t) n ≢ 0 → deleter_in (M (suc t)) n ≡ deleter_in (M t) n
    deleter⁺ d = next_later.signed n seen_used d

    signed⁺ : deleter_in (M t) n ≢ 0 → deleter_in (M (suc t)) n ≢ 0
    signed⁺ d q = d (sym (deleter⁺ d) ∙ q)

  -- a step's write, and a new node
  module _ {q n k : ℕ} {f : Write} (d : Does (M t) q n k f) (eq : M (suc t) ≡ written f (M t)) where
    pub new⁺ : (x : ℕ) → (IsAdds d → x ≢ n) → (IsOwns d → x ≢ n) → New M t x → New M (suc t) x
    new⁺ x ha ho new = record {
      never = never⁺ M new.never (λ o. elim (does_new orderly_now d (rw eq at o)) [
        | inl o ↦ new.never (t, omega arith, o)
        | inr z ↦ ha z.1 z.0
      ]);
      plain = omega (arith, link_stays, new.plain);
      leads = rw (ap (λ y. y / 2) link_stays) (next_later.used (follows_in (M t) x) new.leads);
      unsigned = ap (λ m. deleter_in m x) eq ∙ does_unsigned orderly_now d x new.plain ∙ new.unsigned;
    }
      where
        link_stays : link_in (M (suc t)) x ≡ link_in (M t) x
        link_stays = ap (λ m. link_in m x) eq ∙ does_else orderly_now d x (λ o. new.never (t, omega arith, o)) ho

    -- p's deleter is not written by another process
    pub other_deleter : (p x : ℕ) → p ≢ q → deleter_in (M t) x ≢ p + 1 → deleter_in (M (suc t)) x ≢ p + 1
    other_deleter p x h dk e = elim (does_deleter orderly_now d x) [
      | inl z ↦ dk (sym z ∙ ap (λ m. deleter_in m x) (sym eq) ∙ e)
      | inr z ↦ h (omega (arith, ap (λ m. deleter_in m x) eq))
    ]

  -- the memory stays
  pub new_stays⁺ : M (suc t) ≡ M t → {x : ℕ} → New M t x → New M (suc t) x
  unfolding written
  new_stays⁺ eq {x} = let d : Does (M t) 0 0 0 nothing = rests in new⁺ d eq x (λ z. absurd z) (λ z. absurd z)

  -- ---- inserts, through an event that leaves the own node new where it was

  -- of a result that its node and its answer bear out
  pub insert_keeps⁺ : {r kind a n result v : ℕ} → InsertKeeps M r t kind a n result → BeenOn M (suc t) n ⊎ New M (suc t) n
      → InsertSays M r (suc t) a n v → v ≢ fail_answer → InsertKeeps M r (suc t) kind a n v
  insert_keeps⁺ {n = n} k own said no_fail = let g = k.node in record {
    kind_is = k.kind_is;
    node = record { inner = g.inner; given = g.given; taken = g.taken; used = next_later.used n g.used };
    named = next_later.ranks n g.used ∙ k.named;
    small = k.small;
    own = own;
    said = said;
    no_fail = no_fail;
  }

  module _ (r : ℕ) (R : Record) (still_new : New M t (own_in R) → New M (suc t) (own_in R)) where
    pub own⁺ : {w v : ℕ} → w ≤ v → BeenOn M w (own_in R) ⊎ New M t (own_in R) → BeenOn M v (own_in R) ⊎ New M (suc t) (own_in R)
    own⁺ l (inl x) = inl (x.0, omega (arith, x.1), x.2)
    own⁺ l (inr x) = inr (still_new x)

    pub insert_kept⁺ : InsertKept M r t R.kept → InsertKept M r (suc t) R.kept
    insert_kept⁺ k = insert_keeps⁺ k (own⁺ (omega arith) k.own) (insert_says⁺ M still_new k.said) k.no_fail

    pub insert_search⁺ : {w : ℕ} → InsertSearch M r t R w → InsertSearch M r (suc t) R w
    insert_search⁺ s = record { edge = edge⁺ M s.edge; own = own⁺ (omega arith) s.own; first = λ e. still_new (s.first e); blank = s.blank }

    pub struck_or_new⁺ : Used (M t) (own_in R) → StruckOrNew M t (own_in R) → StruckOrNew M (suc t) (own_in R)
    struck_or_new⁺ u (inl z) = inl (marked_later next_later (own_in R) u z.0, been_on⁺ M z.1)
    struck_or_new⁺ u (inr z) = inr (still_new z)

    insert_at⁺ : InsertKept M r t R.kept
        → (New M t (own_in R) → link_in (M (suc t)) (own_in R) ≡ link_in (M t) (own_in R))
        → (l : Place) → InsertAt M r t R l → InsertAt M r (suc t) R l
    insert_at⁺ k lk l (insert_0 f b) = insert_0 (λ e. still_new (f e)) b
    insert_at⁺ k lk l (insert_1 w s) = insert_1 w (insert_search⁺ s)
    insert_at⁺ k lk l (insert_2 w s m) = insert_2 w (insert_search⁺ s) (word⁺ w (curr_in R) s.edge.since.upto
        (edge_curr course_now k.small s.edge) (succ_in R) m)
    insert_at⁺ k lk l (insert_3 w s n g) = insert_3 w (insert_search⁺ s) (still_new n) g
    insert_at⁺ k lk l (insert_4 w s n g m) = insert_4 w (insert_search⁺ s) (still_new n) g (lk n ∙ m)
    insert_at⁺ k lk l (insert_13 c) = insert_13 c
    insert_at⁺ k lk l (insert_14 x) = insert_14 (struck_or_new⁺ k.node.used x)
    insert_at⁺ k lk l (insert_18 x) = insert_18 (insert_says⁺ M still_new x)
    insert_at⁺ k lk l (insert_19 x) = insert_19 (insert_says⁺ M still_new x)

    pub insert_known⁺ : (New M t (own_in R) → link_in (M (suc t)) (own_in R) ≡ link_in (M t) (own_in R)) → InsertKnown M r t R → InsertKnown M r (suc t) R
    insert_known⁺ lk o = record { kept = insert_kept⁺ o.kept; place = λ e. insert_at⁺ o.kept lk (place_of R.lost.place) (o.place e) }

  -- ---- of a node that was seen held

  module _ {r a c : ℕ} (x : SawHeld M r t a c) where
    pub saw_marked⁺ : Marked (M t) c → Marked (M (suc t)) c
    saw_marked⁺ = marked⁺ x.w c x.since.upto x.on

    pub saw_signed⁺ : deleter_in (M t) c ≢ 0 → deleter_in (M (suc t)) c ≢ 0
    saw_signed⁺ = signed⁺ x.w c x.since.upto x.on

    pub saw_deleter⁺ : deleter_in (M t) c ≢ 0 → deleter_in (M (suc t)) c ≡ deleter_in (M t) c
    saw_deleter⁺ = deleter⁺ x.w c x.since.upto x.on

  -- ---- deletes, through an event that does not make p the deleter of the own node

  module _ (r p : ℕ) (R : Record) where
    abbrev n : ℕ
    n = own_in R

    pub delete_says⁺ : (v : ℕ) → (v ≡ fail_answer → deleter_in (M t) (own_in R) ≢ p + 1 → deleter_in (M (suc t)) (own_in R) ≢ p + 1)
        → DeleteKept M r t p R.kept
        → DeleteSays M r t p (asked_in R) (own_in R) v → DeleteSays M r (suc t) p (asked_in R) (own_in R) v
    delete_says⁺ v dl k s = record {
      if_true = λ e. let x = s.if_true e in
          (saw_held⁺ M x.0, saw_deleter⁺ x.0 (λ q. absurd (omega (arith, x.1))) ∙ x.1);
      if_false = λ e. (no⁺ k.saw (s.if_false e).0, gone_since⁺ M (s.if_false e).1);
      if_fail = λ e. fail⁺ e (s.if_fail e);
    }
      where
        no⁺ : (n ≡ 0) ⊎ SawHeld M r t (asked_in R) n → (n ≡ 0) ⊎ ((deleter_in (M t) n ≢ 0) × (deleter_in (M t) n ≢ p + 1))
            → (n ≡ 0) ⊎ ((deleter_in (M (suc t)) n ≢ 0) × (deleter_in (M (suc t)) n ≢ p + 1))
        no⁺ m (inl z) = inl z
        no⁺ (inl m) (inr z) = inl m
        no⁺ (inr m) (inr z) = let q = saw_deleter⁺ m z.0 in inr ((λ u. z.0 (sym q ∙ u)), (λ u. z.1 (sym q ∙ u)))

        fail⁺ : v ≡ fail_answer → (n ≡ 0) ⊎ (deleter_in (M t) n ≢ p + 1) → (n ≡ 0) ⊎ (deleter_in (M (suc t)) n ≢ p + 1)
        fail⁺ e (inl z) = inl z
        fail⁺ e (inr z) = inr (dl e z)

    pub delete_kept⁺ : DeleteKept M r t p R.kept → DeleteKept M r (suc t) p R.kept
    delete_kept⁺ k = record {
      kind_is = k.kind_is;
      small = k.small;
      saw = elim k.saw [ inl z ↦ inl z | inr z ↦ inr (saw_held⁺ M z) ];
      said = delete_says⁺ R.kept.result (λ e. absurd (k.no_fail e)) k k.said;
      no_fail = k.no_fail;
    }

    pub delete_past⁺ : DeletePast M r t R → DeletePast M r (suc t) R
    delete_past⁺ x = record { node = x.node; saw = saw_held⁺ M x.saw; pred_on = been_on⁺ M x.pred_on }

    delete_at⁺ : (deleter_in (M t) (own_in R) ≢ p + 1 → deleter_in (M (suc t)) (own_in R) ≢ p + 1) → DeleteKept M r t p R.kept
        → (l : Place) → DeleteAt M r t p R l → DeleteAt M r (suc t) p R l
    delete_at⁺ dl k l (delete_0 b) = delete_0 b
    delete_at⁺ dl k l (delete_1 b w s) = delete_1 b w (edge⁺ M s)
    delete_at⁺ dl k l (delete_2 b w s m) = delete_2 b w (edge⁺ M s) (word⁺ w (curr_in R) s.since.upto
        (edge_curr course_now k.small s) (succ_in R) m)
    delete_at⁺ dl k l (delete_5 b x y) = delete_5 b (saw_held⁺ M x) (been_on⁺ M y)
    delete_at⁺ dl k l (delete_6 x) = delete_6 (delete_past⁺ x)
    delete_at⁺ dl k l (delete_7 x u) = delete_7 (delete_past⁺ x) (next_later.used (succ_in R) u)
    delete_at⁺ dl k l (delete_8 x m) = delete_8 (delete_past⁺ x) (word⁺ x.saw.w (curr_in R) x.saw.since.upto x.saw.on (succ_in R) m)
    delete_at⁺ dl k l (delete_9 x m) = delete_9 (delete_past⁺ x) (saw_marked⁺ x.saw m)
    delete_at⁺ dl k l (delete_10 x d) = delete_10 (delete_past⁺ x) (saw_signed⁺ x.saw d)
    delete_at⁺ dl k l delete_13 = delete_13
    delete_at⁺ dl k l (delete_15 x) = delete_15 (saw_held⁺ M x)
    delete_at⁺ dl k l (delete_16 x m) = delete_16 (saw_held⁺ M x) (saw_marked⁺ x m)
    delete_at⁺ dl k l (delete_17 x d) = delete_17 (saw_held⁺ M x) (saw_signed⁺ x d)
    delete_at⁺ dl k l (delete_18 x) = delete_18 (delete_says⁺ R.lost.pending (λ e. dl) k x)
    delete_at⁺ dl k l (delete_19 x) = delete_19 (delete_says⁺ R.lost.pending (λ e. dl) k x)

    pub delete_known⁺ : (deleter_in (M t) (own_in R) ≢ p + 1 → deleter_in (M (suc t)) (own_in R) ≢ p + 1) → DeleteKnown M r t p R
        → DeleteKnown M r (suc t) p R
    delete_known⁺ dl o = record { kept = delete_kept⁺ o.kept; place = λ e. delete_at⁺ dl o.kept (place_of R.lost.place) (o.place e) }

-- ---- finds, through any event

module _ (M : ℕ → Memory) (t r : ℕ) (R : Record) where
  find_at⁺ : (l : Place) → FindAt M r t R l → FindAt M r (suc t) R l
  find_at⁺ l (find_11 w x y) = find_11 w (walked⁺ M x) y
  find_at⁺ l (find_12 w x y) = find_12 w (walked⁺ M x) y
  find_at⁺ l find_13 = find_13
  find_at⁺ l (find_19 x) = find_19 (find_says⁺ M x)

  pub find_known⁺ : FindKnown M r t R → FindKnown M r (suc t) R
  find_known⁺ o = record { kept = o.kept; place = λ e. find_at⁺ (place_of R.lost.place) (o.place e) }
