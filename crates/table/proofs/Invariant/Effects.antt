-- What a step may write, and that each such write keeps the list orderly. Rests on the laws Numbered and Reaching.
use Rattle.table.proofs.Common.{◌≡◌, refl, sym, ◌∙◌, ap, ◌≢◌, ◌⊎◌, inl, inr, false, ℕ, ◌+◌, ◌/◌, ◌%◌, ◌≤◌, ◌<◌, arith, ℕ_discrete, node}
use Rattle.table.proofs.Common.{Address, Memory, address_limit, above_all, Write, nothing, none_left, written, given_out}
use Rattle.table.proofs.Laws.Fitting.{Room, room_written, room_given}
use Rattle.table.proofs.Laws.InUse.{used_written, next_inner, given_keeps_used}
use Rattle.table.proofs.Laws.Reaching.{origin, further, cast, same_chain, same_chain_back, put_keeps, put_brings, cut_keeps, cut_brings}
use Rattle.table.proofs.Laws.Numbered.{link_in, deleter_in, address_in, rank_in, follows_in, Used, plain_to, marked_to, link_set, deleter_set, Marked}
use Rattle.table.proofs.Laws.Numbered.{Plain, On, address_written, given_address_else}
use Rattle.table.proofs.Laws.Numbered.{rank_inner, rank_tail, link_at_lem, link_else, link_signed, deleter_at_lem, deleter_else, deleter_linked}
use Rattle.table.proofs.Laws.Numbered.{rank_written, next_in, used_not_next, given_address, given_link_else, given_deleter_else}
use Rattle.table.proofs.Laws.Numbered.{given_rank_else}

-- ---- what always holds of the memory, and what an event keeps of it

-- the chain from head rises, its nodes are in use and have addresses within the limit, and none of them has a deleter without a mark
pub record Orderly (m : Memory) : Type 0 where
  pub room : Room m
  pub head : Plain m 0
  pub tail : link_in m 1 ≡ plain_to 1
  pub rise : (n : ℕ) → On m n → n ≢ 1 → rank_in m n < rank_in m (follows_in m n)
  pub used : (n : ℕ) → On m n → Used m n
  pub small : (n : ℕ) → On m n → address_in m n < address_limit
  pub signed : (n : ℕ) → On m n → deleter_in m n ≢ 0 → Marked m n

-- of the nodes in use the address, a marked word and a deleter never change, and a node leaves the chain only marked
pub record Keeps (m m' : Memory) : Type 0 where
  pub used : (n : ℕ) → Used m n → Used m' n
  pub ranks : (n : ℕ) → Used m n → rank_in m' n ≡ rank_in m n
  pub frozen : (n : ℕ) → Used m n → Marked m n → link_in m' n ≡ link_in m n
  pub signed : (n : ℕ) → Used m n → deleter_in m n ≢ 0 → deleter_in m' n ≡ deleter_in m n
  pub stays : (n : ℕ) → On m n → On m' n ⊎ (Marked m n × (link_in m' n ≡ link_in m n))

-- node n, new and linked to c, may be put in between a and c
pub record Insertable (m : Memory) (n a c : ℕ) : Type 0 where
  pub inner : 2 ≤ n
  pub used : Used m n
  pub new : On m n → ⊥
  pub unsigned : deleter_in m n ≡ 0
  pub word : link_in m n ≡ plain_to c
  pub on : On m a
  pub before : link_in m a ≡ plain_to c
  pub above : rank_in m a < rank_in m n
  pub under : rank_in m n < rank_in m c
  pub small : rank_in m n < above_all

-- What a step of process p may write, with what is known when it does. An insert's own node is n, a delete's node is k.
pub data Does (m : Memory) (p n k : ℕ) : Write → Type 0 where
  rests : Does m p n k nothing  -- at any place
  owns : (w : ℕ) → 2 ≤ n → Used m n → (On m n → ⊥) → Plain m n → w % 2 ≡ 0 → Does m p n k (link_set n w)  -- at 3
  adds : (a c : ℕ) → Insertable m n a c → Does m p n k (link_set a (plain_to n))  -- at 4
  cuts : (a c s : ℕ) → On m a → link_in m a ≡ plain_to c → link_in m c ≡ marked_to s → Does m p n k (link_set a (plain_to s))  -- at 2 and 8
  strikes : (c s : ℕ) → c ≡ k → 2 ≤ c → On m c → link_in m c ≡ plain_to s → Does m p n k (link_set c (marked_to s))  -- at 7
  signs : (x : ℕ) → x ≡ k → Used m x → Marked m x → deleter_in m x ≡ 0 → Does m p n k (deleter_set x (p + 1))  -- at 9 and 16

keeps_itself : (m : Memory) → Keeps m m
keeps_itself m = record { used = λ n u. u; ranks = λ n h. refl; frozen = λ n h s. refl; signed = λ n h s. refl; stays = λ n o. inl o }

-- ---- each of the six keeps the invariant

abbrev StaysOrderly : Memory → Memory → Type 0
StaysOrderly m m' = Orderly m' × Keeps m m'

-- a write to a plain word
module _ {m : Memory} (i : Orderly m) (a w : ℕ) (u : Used m a) (plain : Plain m a) where
  abbrev m_written : Memory
  m_written = written (link_set a w) m

  word_written : link_in m_written a ≡ w
  word_written = link_at_lem i.room a w u

  follows_at : follows_in m_written a ≡ w / 2
  follows_at = ap (λ (x : ℕ). x / 2) word_written

  follows_else : (x : ℕ) → x ≢ a → follows_in m_written x ≡ follows_in m x
  follows_else x h = ap (λ (x : ℕ). x / 2) (link_else m a w x h)

  frozen_after : (n : ℕ) → Marked m n → link_in m_written n ≡ link_in m n
  frozen_after n s = link_else m a w n λ q. absurd (omega (arith, ap (λ x. link_in m x % 2) q))

  keeps_after : ((n : ℕ) → On m n → On m_written n ⊎ (Marked m n × (link_in m_written n ≡ link_in m n))) → Keeps m m_written
  keeps_after f = record {
    used = λ n u. used_written (link_set a w) m (node n) u;
    ranks = λ n h. rank_written (link_set a w) m n;
    frozen = λ n h s. frozen_after n s;
    signed = λ n h s. deleter_linked m a w n;
    stays = f;
  }

  -- the invariant after such a write, from what it does to the chain
  orderly_after : (a ≡ 0 → w % 2 ≡ 0) → (a ≢ 1) → ((n : ℕ) → On m_written n → Used m n)
      → ((n : ℕ) → On m_written n → address_in m n < address_limit)
      → ((n : ℕ) → On m_written n → deleter_in m n ≢ 0 → Marked m n)
      → ((n : ℕ) → On m_written n → n ≢ 1 → rank_in m n < rank_in m (follows_in m_written n)) → Orderly m_written
  orderly_after hd a1 us sm sn ri = record {
    room = room_written (link_set a w) i.room;
    head = elim (ℕ_discrete 0 a) [
      | yes q ↦ omega (arith, ap (link_in m_written) q, word_written, hd (sym q))
      | no q ↦ omega (arith, link_else m a w 0 q, i.head)
    ];
    tail = link_else m a w 1 (λ q. a1 (sym q)) ∙ i.tail;
    rise = λ n o h. omega (arith, ri n o h, rank_written (link_set a w) m n, rank_written (link_set a w) m (follows_in m_written n));
    used = λ n o. used_written (link_set a w) m (node n) (us n o);
    small = λ n o. omega (arith, address_written (link_set a w) m n, sm n o);
    signed = λ n o h. ap (λ x. x % 2) (frozen_after n (sg n o h)) ∙ sg n o h;
  }
    where
      sg : (n : ℕ) → On m_written n → deleter_in m_written n ≢ 0 → Marked m n
      sg n o h = sn n o (λ q. h (deleter_linked m a w n ∙ q))

  -- one that leaves the chain as it is
  chain_stays : (a ≡ 0 → w % 2 ≡ 0) → a ≢ 1 → ((x : ℕ) → On m x → follows_in m_written x ≡ follows_in m x) → StaysOrderly m m_written
  chain_stays hd a1 same = (
    orderly_after hd a1 (λ x o. i.used x (back o)) (λ x o. i.small x (back o)) (λ x o. i.signed x (back o))
        (λ x o k. rw (same x (back o)) (i.rise x (back o) k)),
    keeps_after (λ x o. inl (same_chain (follows_in m) (follows_in m_written) same o)),
  )
    where
      back : {x : ℕ} → On m_written x → On m x
      back o = same_chain_back (follows_in m) (follows_in m_written) same o

module _ {m : Memory} (i : Orderly m) where
  marked_not_tail : (c : ℕ) (s : ℕ) → link_in m c ≡ marked_to s → c ≢ 1
  marked_not_tail c s h q = absurd (omega (arith, ap (link_in m) q, i.tail))

  -- own node, off the chain
  owns_orderly : (n w : ℕ) → 2 ≤ n → Used m n → (On m n → ⊥) → Plain m n → w % 2 ≡ 0 → StaysOrderly m (written (link_set n w) m)
  owns_orderly n w h u off pl ev =
      chain_stays i n w u pl (λ q. ev) (λ q. absurd (omega arith)) (λ x o. follows_else i n w u pl x (λ q. off (cast o q)))

  -- the word of c is marked, and its target stays
  module _ (c s : ℕ) (h : 2 ≤ c) (o : On m c) (e : link_in m c ≡ plain_to s) where
    strike_follows_in : (x : ℕ) → follows_in (written (link_set c (marked_to s)) m) x ≡ follows_in m x
    strike_follows_in x = elim (ℕ_discrete x c) [
      | yes q ↦ omega (
        arith,
        ap (follows_in (written (link_set c (marked_to s)) m)) q,
        ap (follows_in m) q,
        follows_at i c (marked_to s) (i.used c o) (omega arith),
      )
      | no q ↦ follows_else i c (marked_to s) (i.used c o) (omega arith) x q
    ]

    strikes_orderly : StaysOrderly m (written (link_set c (marked_to s)) m)
    strikes_orderly = chain_stays i c (marked_to s) (i.used c o) (omega arith) (λ q. absurd (omega arith)) (λ q. absurd (omega arith))
        (λ x r. strike_follows_in x)

  -- a struck node is taken out
  module _ (a c s : ℕ) (o : On m a) (ea : link_in m a ≡ plain_to c) (ec : link_in m c ≡ marked_to s) where
    abbrev m_cut : Memory
    m_cut = written (link_set a (plain_to s)) m

    cut_used : Used m a
    cut_used = i.used a o

    cut_plain : Plain m a
    cut_plain = omega arith

    cut_not_tail : c ≢ 1
    cut_not_tail = marked_not_tail c s ec

    cut_pred_not_tail : a ≢ 1
    cut_pred_not_tail q = cut_not_tail (omega (arith, ap (link_in m) q, i.tail))

    cut_before : follows_in m a ≡ c
    cut_before = omega arith

    cut_after : follows_in m_cut a ≡ follows_in m c
    cut_after = omega (arith, follows_at i a (plain_to s) cut_used cut_plain)

    cut_else : (x : ℕ) → x ≢ a → follows_in m_cut x ≡ follows_in m x
    cut_else x q = follows_else i a (plain_to s) cut_used cut_plain x q

    cut_back : {x : ℕ} → On m_cut x → On m x
    cut_back r = cut_brings (follows_in m) (follows_in m_cut) a c cut_before cut_pred_not_tail cut_not_tail cut_after cut_else o r

    cut_rises : (x : ℕ) → On m x → x ≢ 1 → Dec (x ≡ a) → rank_in m x < rank_in m (follows_in m_cut x)
    cut_rises x r k (yes q) = omega (
      arith,
      ap (rank_in m) q,
      ap (λ y. rank_in m (follows_in m_cut y)) q,
      ap (rank_in m) cut_after,
      i.rise a o cut_pred_not_tail,
      ap (rank_in m) cut_before,
      i.rise c (further o cut_pred_not_tail cut_before) cut_not_tail,
    )
    cut_rises x r k (no q) = rw (cut_else x q) (i.rise x r k)

    cut_stays : (x : ℕ) → On m_cut x ⊎ ((x ≡ c) × On m_cut a) → On m_cut x ⊎ (Marked m x × (link_in m_cut x ≡ link_in m x))
    cut_stays x (inl r) = inl r
    cut_stays x (inr r) = let sx : Marked m x = omega (arith, ap (link_in m) r.0) in inr (sx, frozen_after i a (plain_to s) cut_used cut_plain x sx)

    cuts_orderly : StaysOrderly m m_cut
    cuts_orderly = (
      orderly_after i a (plain_to s) cut_used cut_plain (λ q. omega arith) cut_pred_not_tail (λ x r. i.used x (cut_back r))
          (λ x r. i.small x (cut_back r)) (λ x r. i.signed x (cut_back r)) (λ x r k. cut_rises x (cut_back r) k (ℕ_discrete x a)),
      keeps_after i a (plain_to s) cut_used cut_plain
          (λ x r. cut_stays x (cut_keeps (follows_in m) (follows_in m_cut) a c cut_before cut_pred_not_tail cut_not_tail cut_after cut_else r)),
    )

  -- a new node is put in
  module _ (a n c : ℕ) (x : Insertable m n a c) where
    abbrev m_added : Memory
    m_added = written (link_set a (plain_to n)) m

    add_used_pred : Used m a
    add_used_pred = i.used a x.on

    add_plain_pred : Plain m a
    add_plain_pred = omega (arith, x.before)

    add_not_tail : n ≢ 1
    add_not_tail q = absurd (omega (arith, x.inner))

    add_pred_not_tail : a ≢ 1
    add_pred_not_tail q = absurd (omega (arith, ap (rank_in m) q, rank_tail m, x.above, x.small))

    add_after : follows_in m_added a ≡ n
    add_after = omega (arith, follows_at i a (plain_to n) add_used_pred add_plain_pred)

    add_differs : n ≢ a
    add_differs q = absurd (omega (arith, ap (rank_in m) q, x.above))

    add_onward : follows_in m_added n ≡ follows_in m a
    add_onward = omega (arith, follows_else i a (plain_to n) add_used_pred add_plain_pred n add_differs, x.word, x.before)

    add_else : (y : ℕ) → y ≢ a → y ≢ n → follows_in m_added y ≡ follows_in m y
    add_else y q k = follows_else i a (plain_to n) add_used_pred add_plain_pred y q

    add_off : (y : ℕ) → On m y → y ≢ n
    add_off y r q = x.new (cast r q)

    add_new : {y : ℕ} → On m_added y → On m y ⊎ (y ≡ n)
    add_new r = put_brings (follows_in m) (follows_in m_added) a n add_not_tail add_after add_onward add_else add_off x.on add_pred_not_tail r

    add_used : (y : ℕ) → On m y ⊎ (y ≡ n) → Used m y
    add_used y (inl r) = i.used y r
    add_used y (inr q) = rw q x.used

    add_small : (y : ℕ) → On m y ⊎ (y ≡ n) → address_in m y < address_limit
    add_small y (inl r) = i.small y r
    add_small y (inr q) = rw q (omega (arith, rank_inner m n x.inner, x.small))

    add_signed : (y : ℕ) → On m y ⊎ (y ≡ n) → deleter_in m y ≢ 0 → Marked m y
    add_signed y (inl r) d = i.signed y r d
    add_signed y (inr q) d = absurd (d (ap (deleter_in m) q ∙ x.unsigned))

    add_before : follows_in m a ≡ c
    add_before = omega (arith, x.before)

    add_rises : (y : ℕ) → On m y ⊎ (y ≡ n) → y ≢ 1 → Dec (y ≡ a) → Dec (y ≡ n) → rank_in m y < rank_in m (follows_in m_added y)
    add_rises y r k (yes q) e = omega (arith, ap (rank_in m) q, ap (λ z. rank_in m (follows_in m_added z)) q, ap (rank_in m) add_after, x.above)
    add_rises y r k (no q) (yes e) = omega (
      arith,
      ap (rank_in m) e,
      ap (λ z. rank_in m (follows_in m_added z)) e,
      ap (rank_in m) add_onward,
      ap (rank_in m) add_before,
      x.under,
    )
    add_rises y (inl r) k (no q) (no e) = rw (follows_else i a (plain_to n) add_used_pred add_plain_pred y q) (i.rise y r k)
    add_rises y (inr r) k (no q) (no e) = absurd (e r)

    add_keeps : {y : ℕ} → On m y → On m_added y
    add_keeps r = put_keeps (follows_in m) (follows_in m_added) a n add_not_tail add_after add_onward add_else add_off r

    pub add_on : On m_added n
    add_on = further (add_keeps x.on) add_pred_not_tail add_after

    adds_orderly : StaysOrderly m m_added
    adds_orderly = (
      orderly_after i a (plain_to n) add_used_pred add_plain_pred (λ q. omega arith) add_pred_not_tail (λ y r. add_used y (add_new r))
          (λ y r. add_small y (add_new r)) (λ y r. add_signed y (add_new r)) (λ y r k. add_rises y (add_new r) k (ℕ_discrete y a) (ℕ_discrete y n)),
      keeps_after i a (plain_to n) add_used_pred add_plain_pred (λ y r. inl (add_keeps r)),
    )

  -- a deleter is written
  signs_orderly : (n p : ℕ) → Used m n → Marked m n → deleter_in m n ≡ 0 → StaysOrderly m (written (deleter_set n (p + 1)) m)
  signs_orderly n p u s d = (
    record {
      room = room_written f i.room;
      head = omega (arith, link_signed m n (p + 1) 0, i.head);
      tail = link_signed m n (p + 1) 1 ∙ i.tail;
      rise = λ x r h. omega (arith, i.rise x (back r) h, rank_written f m x, rank_written f m (follows_in m' x), ap (rank_in m) (same x));
      used = λ x r. used_written f m (node x) (i.used x (back r));
      small = λ x r. omega (arith, address_written f m x, i.small x (back r));
      signed = λ x r h. ap (λ y. y % 2) (link_signed m n (p + 1) x) ∙ sg x r h (ℕ_discrete x n);
    },
    record {
      used = λ x u. used_written f m (node x) u;
      ranks = λ x h. rank_written f m x;
      frozen = λ x h e. link_signed m n (p + 1) x;
      signed = λ x h e. deleter_else m n (p + 1) x (λ q. e (ap (deleter_in m) q ∙ d));
      stays = λ x r. inl (same_chain (follows_in m) (follows_in m') (λ y r. same y) r);
    },
  )
    where
      f : Write
      f = deleter_set n (p + 1)

      m' : Memory
      m' = written (deleter_set n (p + 1)) m

      same : (x : ℕ) → follows_in m' x ≡ follows_in m x
      same x = ap (λ y. y / 2) (link_signed m n (p + 1) x)

      back : {x : ℕ} → On m' x → On m x
      back r = same_chain_back (follows_in m) (follows_in m') (λ y r. same y) r

      sg : (x : ℕ) → On m' x → deleter_in m' x ≢ 0 → Dec (x ≡ n) → Marked m x
      sg x r h (yes q) = ap (λ y. link_in m y % 2) q ∙ s
      sg x r h (no q) = i.signed x (back r) (λ e. h (deleter_else m n (p + 1) x q ∙ e))

  pub does_keeps : {p n k : ℕ} {f : Write} → Does m p n k f → Orderly (written f m) × Keeps m (written f m)
  unfolding written
  does_keeps rests = (i, keeps_itself m)
  does_keeps {n = n} (owns w a b c d e) = owns_orderly n w a b c d e
  does_keeps {n = n} (adds a c v) = adds_orderly a n c v
  does_keeps (cuts a c s o e g) = cuts_orderly a c s o e g
  does_keeps (strikes c s ck h o e) = strikes_orderly c s h o e
  does_keeps {p} (signs x xk u s d) = signs_orderly x p u s d

-- what is new on the chain, and which words off the chain change
abbrev pub IsAdds : {m : Memory} {p n k : ℕ} {f : Write} → Does m p n k f → Type 0
IsAdds rests = ⊥
IsAdds (owns w a b c d e) = ⊥
IsAdds (adds a c v) = Unit {0}
IsAdds (cuts a c s o e g) = ⊥
IsAdds (strikes c s ck h o e) = ⊥
IsAdds (signs x xk u s d) = ⊥

abbrev pub IsOwns : {m : Memory} {p n k : ℕ} {f : Write} → Does m p n k f → Type 0
IsOwns rests = ⊥
IsOwns (owns w a b c d e) = Unit {0}
IsOwns (adds a c v) = ⊥
IsOwns (cuts a c s o e g) = ⊥
IsOwns (strikes c s ck h o e) = ⊥
IsOwns (signs x xk u s d) = ⊥

module _ {m : Memory} (i : Orderly m) where
  pub does_new : {p n k : ℕ} {f : Write} (d : Does m p n k f) {x : ℕ} → On (written f m) x → On m x ⊎ ((x ≡ n) × IsAdds d)
  unfolding written
  does_new rests r = inl r
  does_new {n = n} (owns w a b c d e) r = inl
      (same_chain_back (follows_in m) (follows_in (written (link_set n w) m)) (λ y s. follows_else i n w b d y (λ q. c (cast s q))) r)
  does_new {n = n} (adds a c v) {x} r = elim (add_new i a n c v r) [ inl z ↦ inl z | inr z ↦ inr (z, tt) ]
  does_new (cuts a c s o e g) r = inl (cut_back i a c s o e g r)
  does_new (strikes c s ck h o e) r = inl
      (same_chain_back (follows_in m) (follows_in (written (link_set c (marked_to s)) m)) (λ y z. strike_follows_in i c s h o e y) r)
  does_new {p} (signs x xk u s d) r = inl (same_chain_back (follows_in m) (follows_in (written (deleter_set x (p + 1)) m))
      (λ y z. ap (λ y. y / 2) (link_signed m x (p + 1) y)) r)

  pub does_else : {p n k : ℕ} {f : Write} (d : Does m p n k f) (x : ℕ) → (On m x → ⊥) → (IsOwns d → x ≢ n) → link_in (written f m) x ≡ link_in m x
  unfolding written
  does_else rests x h k = refl
  does_else {n = n} (owns w a b c d e) x h k = link_else m n w x (k tt)
  does_else {n = n} (adds a c v) x h k = link_else m a (plain_to n) x (λ q. h (cast v.on (sym q)))
  does_else (cuts a c s o e g) x h k = link_else m a (plain_to s) x (λ q. h (cast o (sym q)))
  does_else (strikes c s ck z o e) x h k = link_else m c (marked_to s) x (λ q. h (cast o (sym q)))
  does_else {p} (signs y yk u s d) x h k = link_signed m y (p + 1) x

  -- a deleter is written on the delete's own node, which is marked, and it is p's
  pub does_signs : {p n k : ℕ} {f : Write} (d : Does m p n k f) (x : ℕ) → deleter_in (written f m) x ≢ deleter_in m x
      → (x ≡ k) × (deleter_in (written f m) x ≡ p + 1) × Marked m x
  unfolding written
  does_signs rests x h = absurd (h refl)
  does_signs {n = n} (owns w a b c d e) x h = absurd (h (deleter_linked m n w x))
  does_signs {n = n} (adds a c v) x h = absurd (h (deleter_linked m a (plain_to n) x))
  does_signs (cuts a c s o e g) x h = absurd (h (deleter_linked m a (plain_to s) x))
  does_signs (strikes c s ck z o e) x h = absurd (h (deleter_linked m c (marked_to s) x))
  does_signs {p} {k = k} (signs y yk u s d) x h = elim (ℕ_discrete x y) [
    | yes q ↦ (
      q ∙ yk,
      ap (deleter_in (written (deleter_set y (p + 1)) m)) q ∙ deleter_at_lem i.room y (p + 1) u,
      ap (λ z. link_in m z % 2) q ∙ s,
    )
    | no q ↦ absurd (h (deleter_else m y (p + 1) x q))
  ]

  pub does_deleter : {p n k : ℕ} {f : Write} (d : Does m p n k f) (x : ℕ)
      → (deleter_in (written f m) x ≡ deleter_in m x) ⊎ (deleter_in (written f m) x ≡ p + 1)
  does_deleter {p} {f = f} d x = elim (ℕ_discrete (deleter_in (written f m) x) (deleter_in m x)) [ yes q ↦ inl q | no q ↦ inr (does_signs d x q).1 ]

  -- the deleter of an unmarked node stays
  pub does_unsigned : {p n k : ℕ} {f : Write} (d : Does m p n k f) (x : ℕ) → Plain m x → deleter_in (written f m) x ≡ deleter_in m x
  does_unsigned {f = f} d x h = elim (ℕ_discrete (deleter_in (written f m) x) (deleter_in m x)) [
    | yes q ↦ q
    | no q ↦ absurd (omega (arith, (does_signs d x q).2))
  ]

-- ---- a node is given out

module _ {m : Memory} (i : Orderly m) (a : Address) (spare : none_left m ≡ false) where
  pub given_rank : rank_in (given_out a m) (next_in m) ≡ a.0 + 1
  given_rank = omega (arith, rank_inner (given_out a m) (next_in m) (next_inner i.room), given_address a m i.room spare)

  old : (x : ℕ) → On m x → x ≢ next_in m
  old x r = used_not_next m x (i.used x r)

  same : (x : ℕ) → On m x → follows_in (given_out a m) x ≡ follows_in m x
  same x r = ap (λ y. y / 2) (given_link_else a m x (old x r))

  pub given_back : {x : ℕ} → On (given_out a m) x → On m x
  given_back r = same_chain_back (follows_in m) (follows_in (given_out a m)) same r

  pub given_keeps : Orderly (given_out a m) × Keeps m (given_out a m)
  given_keeps = (
    record {
      room = room_given a i.room spare;
      head = omega (arith, given_link_else a m 0 (old 0 (origin refl)), i.head);
      tail = given_link_else a m 1 (λ q. absurd (omega (arith, next_inner i.room))) ∙ i.tail;
      rise = λ x r h. omega (
        arith,
        i.rise x (given_back r) h,
        given_rank_else a m x (old x (given_back r)),
        given_rank_else a m (follows_in m x) (old (follows_in m x) (further (given_back r) h refl)),
        ap (rank_in (given_out a m)) (same x (given_back r)),
      );
      used = λ x r. given_keeps_used a m (node x) (i.used x (given_back r));
      small = λ x r. omega (arith, given_address_else a m x (old x (given_back r)), i.small x (given_back r));
      signed = λ x r h. ap (λ y. y % 2) (given_link_else a m x (old x (given_back r)))
          ∙ i.signed x (given_back r) (λ e. h (given_deleter_else a m x (old x (given_back r)) ∙ e));
    },
    record {
      used = λ x u. given_keeps_used a m (node x) u;
      ranks = λ x u. given_rank_else a m x (used_not_next m x u);
      frozen = λ x u e. given_link_else a m x (used_not_next m x u);
      signed = λ x u e. given_deleter_else a m x (used_not_next m x u);
      stays = λ x r. inl (same_chain (follows_in m) (follows_in (given_out a m)) same r);
    },
  )
