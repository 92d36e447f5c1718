-- What a write does to the addresses held: a node put in adds exactly its address, a node struck removes exactly its address, and nothing else
-- changes them. Rests on Effects and Moments.
use Rattle.table.proofs.Common.{◌≡◌, refl, sym, ◌∙◌, ap, ◌≢◌, ◌⊎◌, inl, inr, ◌↔◌, false, ℕ, ◌+◌, ◌%◌, ◌≤◌, arith, ℕ_discrete, node, Address}
use Rattle.table.proofs.Common.{Memory, Write, none_left, written, given_out}
use Rattle.table.proofs.Laws.Reaching.{once}
use Rattle.table.proofs.Laws.Numbered.{link_in, deleter_in, address_in, rank_in, follows_in, Used, plain_to, marked_to, link_set, deleter_set, Marked}
use Rattle.table.proofs.Laws.Numbered.{Plain, On, Holder, HeldIn, held_number, held_node, rank_inner, link_at_lem, link_else, link_signed}
use Rattle.table.proofs.Laws.Numbered.{address_written, next_in, used_not_next, given_link, given_link_else, given_address_else}
use Rattle.table.proofs.Invariant.Effects.{Orderly, Keeps, Insertable, Does, owns, adds, cuts, strikes, signs, add_on, does_keeps, IsAdds}
use Rattle.table.proofs.Invariant.Effects.{does_new, given_back, given_keeps}
use Rattle.table.proofs.Invariant.Moments.{between}

module _ (m m' : Memory) where
  pub record KeepsHeld : Type 0 where
    pub same : (x : ℕ) → HeldIn m' x ↔ HeldIn m x
    pub chain : (y : ℕ) → On m' y → On m y
    pub plain : (y : ℕ) → Plain m y → Plain m' y

  -- node n is put in, for the address a
  pub record PutsHeld (n a : ℕ) : Type 0 where
    pub on : On m' n
    pub free : HeldIn m a → ⊥
    pub adds : (x : ℕ) → HeldIn m' x ↔ ((x ≡ a) ⊎ HeldIn m x)
    pub chain : (y : ℕ) → On m' y → On m y ⊎ (y ≡ n)
    pub plain : (y : ℕ) → Plain m y → Plain m' y

  -- node k, which held the address a, is struck
  pub record TakesHeld (k a : ℕ) : Type 0 where
    pub held : Holder m a k
    pub marked : Marked m' k
    pub removes : (x : ℕ) → HeldIn m' x ↔ ((x ≢ a) × HeldIn m x)
    pub chain : (y : ℕ) → On m' y → On m y
    pub plain : (y : ℕ) → y ≢ k → Plain m y → Plain m' y

-- ---- held before and after

module _ {m m' : Memory} (i : Orderly m) (kp : Keeps m m') (ad : (x : ℕ) → On m x → address_in m' x ≡ address_in m x) where
  held_after : (x y : ℕ) → Holder m x y → Plain m' y → Holder m' x y
  held_after x y h pl = record {
    on = elim (kp.stays y h.on) [ inl o ↦ o | inr s ↦ absurd (omega (arith, s.0, h.plain)) ];
    inner = h.inner;
    plain = pl;
    named = ad y h.on ∙ h.named;
  }

  held_before : (x y : ℕ) → Holder m' x y → On m y → Holder m x y
  held_before x y h o = record {
    on = o;
    inner = h.inner;
    plain = elim (ℕ_discrete (link_in m y % 2) 1) [
      | yes z ↦ absurd (omega (arith, kp.frozen y (i.used y o) z, h.plain))
      | no z ↦ omega arith
    ];
    named = sym (ad y o) ∙ h.named;
  }

  same_held : ((y : ℕ) → On m' y → On m y) → ((y : ℕ) → On m y → Plain m y → Plain m' y) → (x : ℕ) → HeldIn m' x ↔ HeldIn m x
  same_held b f x = (
    (λ h. let z = held_number h.1 in (h.0, held_node (held_before x h.0.0 z (b h.0.0 z.on)))),
    (λ h. let z = held_number h.1 in (h.0, held_node (held_after x h.0.0 z (f h.0.0 z.on z.plain)))),
  )

-- ---- a write

pub rests_held : (m : Memory) → KeepsHeld m m
rests_held m = record { same = λ x. ((λ h. h), (λ h. h)); chain = λ y o. o; plain = λ y h. h }

module _ {m : Memory} (i : Orderly m) where
  -- an even word is written
  plain_after : (a w : ℕ) → Used m a → w % 2 ≡ 0 → (y : ℕ) → Plain m y → Plain (written (link_set a w) m) y
  plain_after a w u ev y h = elim (ℕ_discrete y a) [
    | yes q ↦ omega (arith, ap (link_in (written (link_set a w) m)) q, link_at_lem i.room a w u)
    | no q ↦ omega (arith, link_else m a w y q)
  ]

  module _ {p n k : ℕ} {f : Write} (d : Does m p n k f) where
    kept : Keeps m (written f m)
    kept = (does_keeps i d).1

    address_kept : (x : ℕ) → On m x → address_in (written f m) x ≡ address_in m x
    address_kept x o = address_written f m x

    keeps : ((y : ℕ) → On m y ⊎ ((y ≡ n) × IsAdds d) → On m y) → ((y : ℕ) → Plain m y → Plain (written f m) y) → KeepsHeld m (written f m)
    keeps b g = record {
      same = same_held i kept address_kept (λ y o. b y (does_new i d o)) (λ y o. g y);
      chain = λ y o. b y (does_new i d o);
      plain = g;
    }

  old : (n y : ℕ) → On m y ⊎ ((y ≡ n) × ⊥) → On m y
  old n y (inl o) = o
  old n y (inr z) = absurd z.1

  -- a new node is put in
  pub adds_held : (n a c : ℕ) → Insertable m n a c → PutsHeld m (written (link_set a (plain_to n)) m) n (address_in m n)
  adds_held n a c v = record {
    on = on;
    free = between i a (address_in m n) v.on (omega (arith, rn, v.above)) (omega (arith, rn, ap (rank_in m) ac, v.under));
    adds = λ x. ((λ z. let y = held_number z.1 in from x z.0.0 y (does_new i d y.on)), (λ z. into x z));
    chain = λ y z. fresh y (does_new i d z);
    plain = λ y h. plain_after a (plain_to n) (i.used a v.on) (omega arith) y h;
  }
    where
      m' : Memory
      m' = written (link_set a (plain_to n)) m

      d : Does m 0 n 0 (link_set a (plain_to n))
      d = adds a c v

      fresh : (y : ℕ) → On m y ⊎ ((y ≡ n) × Unit {0}) → On m y ⊎ (y ≡ n)
      fresh y (inl z) = inl z
      fresh y (inr z) = inr z.0

      rn : rank_in m n ≡ address_in m n + 1
      rn = rank_inner m n v.inner

      ac : follows_in m a ≡ c
      ac = omega (arith, v.before)

      on : On (written (link_set a (plain_to n)) m) n
      on = add_on i a n c v

      from : (x y : ℕ) → Holder (written (link_set a (plain_to n)) m) x y → On m y ⊎ ((y ≡ n) × Unit {0}) → (x ≡ address_in m n) ⊎ HeldIn m x
      from x y z (inl q) = inr (node y, held_node (held_before i (kept d) (address_kept d) x y z q))
      from x y z (inr q) = inl (sym z.named ∙ address_written (link_set a (plain_to n)) m y ∙ ap (address_in m) q.0)

      na : n ≢ a
      na q = absurd (omega (arith, ap (rank_in m) q, v.above))

      into : (x : ℕ) → (x ≡ address_in m n) ⊎ HeldIn m x → HeldIn (written (link_set a (plain_to n)) m) x
      into x (inl q) = (
        node n,
        held_node (record {
          on = on;
          inner = v.inner;
          plain = omega (arith, link_else m a (plain_to n) n na, v.word);
          named = address_written (link_set a (plain_to n)) m n ∙ sym q;
        }),
      )
      into x (inr z) = let y = held_number z.1 in (
        z.0,
        held_node (held_after i (kept d) (address_kept d) x z.0.0 y
            (plain_after a (plain_to n) (i.used a v.on) (omega arith) z.0.0 y.plain)),
      )

  -- a held node is struck
  pub strikes_held : (c s : ℕ) → 2 ≤ c → On m c → link_in m c ≡ plain_to s → TakesHeld m (written (link_set c (marked_to s)) m) c (address_in m c)
  strikes_held c s h o e = record {
    held = record { on = o; inner = h; plain = omega arith; named = refl };
    marked = omega (arith, lc);
    removes = λ x. (
      (λ z. let y = held_number z.1 in from x z.0.0 y (old 0 z.0.0 (does_new i d y.on))),
      (λ z. into x z.0 z.1),
    );
    chain = λ y z. old 0 y (does_new i d z);
    plain = λ y ne h. omega (arith, link_else m c (marked_to s) y ne);
  }
    where
      m' : Memory
      m' = written (link_set c (marked_to s)) m

      d : Does m 0 0 c (link_set c (marked_to s))
      d = strikes c s refl h o e

      lc : link_in m' c ≡ marked_to s
      lc = link_at_lem i.room c (marked_to s) (i.used c o)

      from : (x y : ℕ) → Holder m' x y → On m y → (x ≢ address_in m c) × HeldIn m x
      from x y z q = ((λ w. nc (same w)), (node y, held_node hy))
        where
          hy : Holder m x y
          hy = held_before i (kept d) (address_kept d) x y z q

          nc : y ≢ c
          nc w = absurd (omega (arith, ap (link_in m') w, z.plain, lc))

          same : x ≡ address_in m c → y ≡ c
          same w = once (follows_in m) (rank_in m) i.rise q o (omega (arith, rank_inner m y hy.inner, rank_inner m c h, hy.named))

      into : (x : ℕ) → x ≢ address_in m c → HeldIn m x → HeldIn m' x
      into x ne z = let y = held_number z.1 in (
        z.0,
        held_node (held_after i (kept d) (address_kept d) x z.0.0 y (omega (
          arith,
          link_else m c (marked_to s) z.0.0 (λ w. ne (sym y.named ∙ ap (address_in m) w)),
          y.plain,
        ))),
      )

  -- the other writes

  pub owns_held : (n w : ℕ) → 2 ≤ n → Used m n → (On m n → ⊥) → Plain m n → w % 2 ≡ 0 → KeepsHeld m (written (link_set n w) m)
  owns_held n w a b c g e = let d : Does m 0 n 0 (link_set n w) = owns w a b c g e in keeps d (old n) (λ y h. plain_after n w b e y h)

  pub cuts_held : (a c s : ℕ) → On m a → link_in m a ≡ plain_to c → link_in m c ≡ marked_to s → KeepsHeld m (written (link_set a (plain_to s)) m)
  cuts_held a c s o e g = let d : Does m 0 0 0 (link_set a (plain_to s)) = cuts a c s o e g in
      keeps d (old 0) (λ y h. plain_after a (plain_to s) (i.used a o) (omega arith) y h)

  pub signs_held : (p x : ℕ) → Used m x → Marked m x → deleter_in m x ≡ 0 → KeepsHeld m (written (deleter_set x (p + 1)) m)
  signs_held p x u s g = let d : Does m p 0 x (deleter_set x (p + 1)) = signs x refl u s g in keeps d (old 0)
      (λ y h. omega (arith, link_signed m x (p + 1) y))

  -- a node given out changes nothing held
  pub given_held : (a : Address) → none_left m ≡ false → KeepsHeld m (given_out a m)
  given_held a spare = record {
    same = same_held i (given_keeps i a spare).1 (λ x o. given_address_else a m x (nc x o)) (λ y o. given_back i a spare o)
        (λ y o h. omega (arith, given_link_else a m y (nc y o)));
    chain = λ y o. given_back i a spare o;
    plain = λ y h. pl y h (ℕ_discrete y (next_in m));
  }
    where
      pl : (y : ℕ) → Plain m y → Dec (y ≡ next_in m) → Plain (given_out a m) y
      pl y h (yes q) = omega (arith, ap (link_in (given_out a m)) q, given_link a m i.room spare)
      pl y h (no q) = omega (arith, given_link_else a m y q)

      nc : (x : ℕ) → On m x → x ≢ next_in m
      nc x o = used_not_next m x (i.used x o)
