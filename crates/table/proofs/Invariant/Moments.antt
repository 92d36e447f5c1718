-- A course of memories: what is known later of what was known before, and when what holds came to be. Rests on Effects.
use Rattle.table.proofs.Common.{◌≡◌, refl, sym, ◌∙◌, ap, ◌≢◌, ◌⊎◌, inl, inr, ℕ, suc, ◌+◌, ◌/◌, ◌%◌, ◌≤◌, ◌<◌, arith, ℕ_discrete, dec_lt, le_ind}
use Rattle.table.proofs.Common.{node, Memory, above_all}
use Rattle.table.proofs.Laws.InUse.{tail_in_use}
use Rattle.table.proofs.Laws.Reaching.{further, gap, once}
use Rattle.table.proofs.Laws.Numbered.{link_in, deleter_in, rank_in, follows_in, Used, Marked, Plain, On, Holder, HeldIn, held_number, held_node}
use Rattle.table.proofs.Laws.Numbered.{rank_inner, rank_head, rank_tail, next_in, used_not_next}
use Rattle.table.proofs.Invariant.Effects.{Orderly, Keeps}

-- what is known later of what was known before
pub record Later (m m' : Memory) : Type 0 where
  pub used : (n : ℕ) → Used m n → Used m' n
  pub ranks : (n : ℕ) → Used m n → rank_in m' n ≡ rank_in m n
  pub frozen : (n : ℕ) → Used m n → Marked m n → link_in m' n ≡ link_in m n
  pub signed : (n : ℕ) → Used m n → deleter_in m n ≢ 0 → deleter_in m' n ≡ deleter_in m n
  pub stays : (n : ℕ) → On m n → On m' n ⊎ Marked m' n

later_itself : (m : Memory) → Later m m
later_itself m = record { used = λ n u. u; ranks = λ n h. refl; frozen = λ n h s. refl; signed = λ n h s. refl; stays = λ n o. inl o }

pub marked_later : {m m' : Memory} → Later m m' → (n : ℕ) → Used m n → Marked m n → Marked m' n
marked_later l n u s = ap (λ x. x % 2) (l.frozen n u s) ∙ s

later_onward : {m m' m'' : Memory} → Later m m' → Orderly m → Keeps m' m'' → Later m m''
later_onward l i k = record {
  used = λ n u. k.used n (l.used n u);
  ranks = λ n u. k.ranks n (l.used n u) ∙ l.ranks n u;
  frozen = λ n u s. k.frozen n (l.used n u) (marked_later l n u s) ∙ l.frozen n u s;
  signed = λ n h s. k.signed n (l.used n h) (λ q. s (sym (l.signed n h s) ∙ q)) ∙ l.signed n h s;
  stays = λ n o. elim (l.stays n o) [
    | inl r ↦ elim (k.stays n r) [ inl u ↦ inl u | inr s ↦ inr (ap (λ x. x % 2) s.1 ∙ s.0) ]
    | inr s ↦ inr (ap (λ x. x % 2) (k.frozen n (l.used n (i.used n o)) s) ∙ s)
  ];
}

-- a course of memories, those before events 0 .. T, each kept by the next
pub record Course (M : ℕ → Memory) (T : ℕ) : Type 0 where
  pub orderly : (t : ℕ) → t ≤ T → Orderly (M t)
  pub keeps : (t : ℕ) → t < T → Keeps (M t) (M (suc t))

-- at a moment from s to t, n was on the chain with the word that it has at t
abbrev pub OnSince : (M : ℕ → Memory) → (s t n : ℕ) → Type 0
OnSince M s t n = (w : ℕ) × (s ≤ w) × (w ≤ t) × On (M w) n × (link_in (M w) n ≡ link_in (M t) n)

module _ {M : ℕ → Memory} where
  pub shorter : {T : ℕ} → Course M T → (t : ℕ) → t ≤ T → Course M t
  shorter H t h = record { orderly = λ s l. H.orderly s (omega arith); keeps = λ s l. H.keeps s (omega arith) }

  pub course_onward : {T : ℕ} → Course M T → Orderly (M (suc T)) → Keeps (M T) (M (suc T)) → Course M (suc T)
  course_onward {T} H i k = record {
    orderly = λ t l. elim (ℕ_discrete t (suc T)) [ yes q ↦ rw q i | no q ↦ H.orderly t (omega arith) ];
    keeps = λ t l. elim (ℕ_discrete t T) [ yes q ↦ rw q k | no q ↦ H.keeps t (omega arith) ];
  }

  pub later : {t : ℕ} → Course M t → (s : ℕ) → s ≤ t → Later (M s) (M t)
  later {t} H s h = le_ind (λ t. Course M t → Later (M s) (M t)) (λ H. later_itself (M s)) onward t h H
    where
      onward : (t : ℕ) → s ≤ t → (Course M t → Later (M s) (M t)) → Course M (suc t) → Later (M s) (M (suc t))
      onward t l before H = later_onward (before (shorter H t (omega arith))) (H.orderly s (omega arith)) (H.keeps t (omega arith))

  -- Hindsight: a node that was on the chain at s was on it at some moment since with the word that it has now.
  pub hindsight : {t : ℕ} → Course M t → (s : ℕ) → s ≤ t → {n : ℕ} → On (M s) n → OnSince M s t n
  hindsight {t} H s h {n} o = le_ind (λ t. Course M t → OnSince M s t n) (λ H. (s, omega arith, omega arith, o, refl)) onward t h H
    where
      onward : (t : ℕ) → s ≤ t → (Course M t → OnSince M s t n) → Course M (suc t) → OnSince M s (suc t) n
      onward t l before H = elim (until.stays n o) [
        | inl r ↦ elim ((H.keeps t (omega arith)).stays n r) [
          | inl u ↦ (suc t, omega arith, omega arith, u, refl)
          | inr u ↦ (t, l, omega arith, r, sym u.1)
        ]
        | inr u ↦ let z = before (shorter H t (omega arith)) in (
          z.0,
          z.1,
          omega (arith, z.2),
          z.3,
          z.4 ∙ sym ((H.keeps t (omega arith)).frozen n (until.used n ((H.orderly s (omega arith)).used n o)) u),
        )
      ]
        where
          until : Later (M s) (M t)
          until = later (shorter H t (omega arith)) s l

-- ---- at one moment

module _ (m : Memory) where
  -- the node of an address is neither head nor tail
  pub inner : (n a : ℕ) → rank_in m n ≡ a + 1 → a + 1 < above_all → 2 ≤ n
  inner n a k s = elim (ℕ_discrete n 0) [
    | yes q ↦ absurd (omega (arith, ap (rank_in m) q, rank_head m))
    | no q ↦ elim (ℕ_discrete n 1) [ yes e ↦ absurd (omega (arith, ap (rank_in m) e, rank_tail m)) | no e ↦ omega arith ]
  ]

  pub held : (n a : ℕ) → On m n → Plain m n → rank_in m n ≡ a + 1 → a + 1 < above_all → HeldIn m a
  held n a o e k s = let h = inner n a k s in
      (node n, held_node (record { on = o; inner = h; plain = e; named = omega (arith, rank_inner m n h) }))

  pub rank_held : (a n : ℕ) → Holder m a n → rank_in m n ≡ a + 1
  rank_held a n h = omega (arith, rank_inner m n h.inner, h.named)

module _ {m : Memory} (i : Orderly m) where
  -- no address is held between a node and its next
  pub between : (b a : ℕ) → On m b → rank_in m b < a + 1 → a + 1 < rank_in m (follows_in m b) → HeldIn m a → ⊥
  between b a o l g h = let z = held_number h.1 in let k = rank_held m a h.0.0 z in
      elim (gap (follows_in m) (rank_in m) i.rise o z.on) [ inl q ↦ omega arith | inr q ↦ omega arith ]

  -- an unmarked node on the chain has no deleter
  pub plain_unsigned : (n : ℕ) → On m n → Plain m n → deleter_in m n ≡ 0
  plain_unsigned n o e = elim (ℕ_discrete (deleter_in m n) 0) [ yes z ↦ z | no z ↦ absurd (omega (arith, i.signed n o z)) ]

  -- the address of a struck node that is still on the chain is not held
  pub struck_gone : (n a : ℕ) → On m n → Marked m n → rank_in m n ≡ a + 1 → HeldIn m a → ⊥
  struck_gone n a o s k h =
      let z = held_number h.1 in
      let q : n ≡ h.0.0 = once (follows_in m) (rank_in m) i.rise o z.on (omega (arith, rank_held m a h.0.0 z)) in
      omega (arith, ap (link_in m) q, z.plain)

-- ---- from then to now

module _ {M : ℕ → Memory} {t : ℕ} (H : Course M t) (w : ℕ) (le : w ≤ t) {b : ℕ} (o : On (M w) b) where
  pub on_now : Plain (M t) b → On (M t) b
  on_now e = elim ((later H w le).stays b o) [ inl r ↦ r | inr s ↦ absurd (omega arith) ]

  pub used_now : Used (M t) b
  used_now = (later H w le).used b ((H.orderly w le).used b o)

  pub rank_now : rank_in (M t) b ≡ rank_in (M w) b
  rank_now = (later H w le).ranks b ((H.orderly w le).used b o)

  -- a deleter stands only on a marked node
  pub signed_now : deleter_in (M t) b ≢ 0 → Marked (M t) b
  signed_now d = elim ((later H w le).stays b o) [ inl r ↦ (H.orderly t (omega arith)).signed b r d | inr s ↦ s ]

-- the node to which one that was on the chain leads now is in use
pub target_now : {M : ℕ → Memory} {t : ℕ} (H : Course M t) (w : ℕ) → w ≤ t → {b : ℕ} → On (M w) b → Used (M t) (follows_in (M t) b)
target_now {M = M} {t} H w le {b} o = elim (ℕ_discrete b 1) [
  | yes q ↦ let i = H.orderly t (omega arith) in
      let tail : follows_in (M t) b ≡ 1 = omega (arith, ap (link_in (M t)) q, i.tail) in rw tail (tail_in_use i.room)
  | no q ↦ let z = hindsight H w le o in used_now H z.0 z.2 (further z.3 q (ap (λ x. x / 2) z.4))
]

-- n was given out at event r, and is in use at t
pub record GivenAt (M : ℕ → Memory) (r t n : ℕ) : Type 0 where
  pub inner : 2 ≤ n
  pub given : n ≡ next_in (M r)
  pub taken : Used (M (suc r)) n
  pub used : Used (M t) n

-- a node is given out once
pub given_once : {M : ℕ → Memory} {t : ℕ} → Course M t → {r r' s s' n : ℕ} → r ≤ t → r' ≤ t → GivenAt M r s n → GivenAt M r' s' n → r ≡ r'
given_once {M = M} H {r} {r'} {n = n} l l' g g' = elim (dec_lt r r') [
  | yes k ↦ absurd (used_not_next (M r') n ((later (shorter H r' l') (suc r) k).used n g.taken) g'.given)
  | no k ↦ elim (dec_lt r' r) [
    | yes k' ↦ absurd (used_not_next (M r) n ((later (shorter H r l) (suc r') k').used n g'.taken) g.given)
    | no k' ↦ omega arith
  ]
]

-- ---- when it came to be

-- what does not hold at w and holds at T comes to be at an event between them, of which Q says what it is
pub comes_to_be : (P Q : ℕ → Type 0) (w T : ℕ) → w ≤ T → (P w → ⊥) → ((t : ℕ) → w ≤ t → P (suc t) → P t ⊎ Q t) → P T
    → (t : ℕ) × (w ≤ t) × (t < T) × Q t
comes_to_be P Q w T le was event = le_ind (λ T. P T → (t : ℕ) × (w ≤ t) × (t < T) × Q t) (λ p. absurd (was p)) onward T le
  where
    onward : (s : ℕ) → w ≤ s → (P s → (t : ℕ) × (w ≤ t) × (t < s) × Q t) → P (suc s) → (t : ℕ) × (w ≤ t) × (t < suc s) × Q t
    onward s l before p = elim (event s l p) [
      | inl q ↦ let z = before q in (z.0, z.1, omega (arith, z.2), z.3)
      | inr q ↦ (s, l, omega arith, q)
    ]

-- P does not hold before event t, and holds after it
abbrev pub Begins : (ℕ → Type 0) → ℕ → Type 0
Begins P t = (P t → ⊥) × P (suc t)

pub begins_between : (P : ℕ → Type 0) → ((t : ℕ) → Dec (P t)) → (w T : ℕ) → w ≤ T → (P w → ⊥) → P T → (t : ℕ) × (w ≤ t) × (t < T) × Begins P t
begins_between P test w T le was = comes_to_be P (Begins P) w T le was (λ t l p. elim (test t) [ yes q ↦ inl q | no q ↦ inr (q, p) ])

pub marked_or_not : (m : Memory) (n : ℕ) → Dec (Marked m n)
marked_or_not m n = ℕ_discrete (link_in m n % 2) 1

-- a node that was held and is struck: there was a moment, after, when its address was not held
pub gone_since : {M : ℕ → Memory} {t : ℕ} (H : Course M t) (w : ℕ) → w ≤ t → {n : ℕ} (a : ℕ) → On (M w) n → Plain (M w) n
    → rank_in (M w) n ≡ a + 1 → Marked (M t) n → (v : ℕ) × (w < v) × (v ≤ t) × (HeldIn (M v) a → ⊥)
gone_since {M = M} {t} H w le {n} a o e k s = (suc z.0, omega (arith, z.1), z.2, gone)
  where
    z : (s : ℕ) × (w ≤ s) × (s < t) × Begins (λ s. Marked (M s) n) s
    z = begins_between (λ s. Marked (M s) n) (λ s. marked_or_not (M s) n) w t le (λ q. absurd (omega arith)) s

    was : On (M z.0) n
    was = on_now (shorter H z.0 (omega (arith, z.2))) w z.1 o (omega (arith, z.3.0))

    gone : HeldIn (M (suc z.0)) a → ⊥
    gone = elim ((H.keeps z.0 z.2).stays n was) [
      | inl r ↦ struck_gone (H.orderly (suc z.0) z.2) n a r z.3.1 (rank_now (shorter H (suc z.0) z.2) w (omega (arith, z.1)) o ∙ k)
      | inr r ↦ absurd (z.3.0 r.0)
    ]
