-- What the access of each row tests of the nodes is what the table of specs/Refusal8 says: the fields used, the target of a link read, own at the end
-- of a recovering search. Goes by the place once, in `same_tests`. Rests on Tests.
use mathlib.Core.Path.{◌≡◌, refl, sym, ◌∙◌, ap, subst}
use mathlib.Core.Logic.{◌≢◌, ◌⊎◌, inl, inr}
use mathlib.Core.Bool.{Bool, true, false, cond, not, ◌&&◌, false≢true}
use mathlib.Core.Option.{Option, none, some}
use mathlib.Core.List.Memᴰ
use mathlib.Core.List.{List, [], ◌∷◌, Memᴰ}
use lib.Dec.{eqb}
use borrow.Author.Tests.{eqb-true, not-true, not-false}
use Rattle.record.specs.Record.{insert_kind, no_node}
use Rattle.record.specs.declared.Process.{Process}
use Rattle.record.specs.declared.Record.{Record}
use Rattle.table.specs.Words.{Memory, link_at, is_marked, in_use, below}
use Rattle.table.specs.Places.{Field, head, pred, curr, succ, own, node_of, goes, uses_own, Place, place_of, row, search_ends, p0, p1, p2, p3, p4}
use Rattle.table.specs.Places.{p5, p6, p7, p8, p9, p10, p11, p12, p13, p14, p15, p16, p17, p18, p19, off}
use Rattle.table.specs.Steps.{word_met, access_of, usable, all_usable, all_used, own_usable}
use Rattle.table.specs.Chain.{follows}
use Rattle.table.specs.Refusal8.{RowTests, row_tests, tests_of, RecoveringSearchEnds, UsesField, by_row, at_the_end, Broken}
use Rattle.table.specs.Refusal8.{field_not_in_use}
use Rattle.table.specs.Refusal8.{target_not_in_use, own_is_none}
use Rattle.basics.proofs.Tests.{by-test, and_left, and_right}

-- ---- tests joined, one of which fails

pub and_fails : (a b : Bool) → (a && b) ≡ false → (a ≡ false) ⊎ (b ≡ false)
and_fails true b e = inr e
and_fails false b e = inl refl

and_true : (b : Bool) → (b && true) ≡ b
and_true true = refl
and_true false = refl

and_twice : (a b : Bool) → (a && (b && (b && true))) ≡ (a && (b && true))
and_twice true true = refl
and_twice true false = refl
and_twice false b = refl

module _ (m : Memory) (p : Process) (r : Record) where
  -- ---- the nodes that it uses

  -- the link read leads to a node in use
  abbrev target_used : Option Field → Bool
  target_used none = true
  target_used (some f) = in_use m (follows m (node_of r f)) && true

  -- the step ends a recovering search
  abbrev ends_here : Bool → Bool
  ends_here ends =
      ends && (r.lost.recovering && (not (is_marked (link_at m r.lost.curr)) && not (below m.addresses r.lost.curr r.kept.address)))

  abbrev nodes_usable : RowTests → Bool
  nodes_usable x =
      all_usable (in_use m) r x.fields && target_used x.reads && cond (ends_here x.ends) (usable (in_use m) r own) true

  abbrev pub access_usable : Place → Bool
  access_usable l =
      let a = access_of p r (row m.addresses l r) in
      let w = word_met m r a.meets in
      all_usable (in_use m) r a.uses && all_used (in_use m) (a.leads w) && own_usable (in_use m) r (a.next w)

  -- row 1, from the mark of curr's link, whether curr is below the address, and the record's flag and kind
  ends_in_own : (marked low recovering inserts : Bool) (a b c d e : Record)
      → own_usable (in_use m) r (cond marked (goes a) (cond low (goes b) (cond recovering (uses_own c) (cond inserts (goes d) (goes e)))))
      ≡ cond (recovering && (not marked && not low)) (usable (in_use m) r own) true
  ends_in_own true low true inserts a b c d e = refl
  ends_in_own true low false inserts a b c d e = refl
  ends_in_own false true true inserts a b c d e = refl
  ends_in_own false true false inserts a b c d e = refl
  ends_in_own false false true inserts a b c d e = refl
  ends_in_own false false false true a b c d e = refl
  ends_in_own false false false false a b c d e = refl

  same_tests : (l : Place) → access_usable l ≡ nodes_usable (row_tests l)
  unfolding row word_met row_tests search_ends
  same_tests p0 = refl
  same_tests p1 =
      ap (λ b. all_usable (in_use m) r (curr ∷ []) && target_used (some curr) && b)
      (ends_in_own (is_marked (link_at m r.lost.curr)) (below m.addresses r.lost.curr r.kept.address) r.lost.recovering
      (eqb r.kept.kind insert_kind) _ _ _ _ _)
  same_tests p2 = refl
  same_tests p3 = refl
  same_tests p4 = refl
  same_tests p5 = refl
  same_tests p6 = refl
  same_tests p7 = ap (λ b. b && true && true) (and_twice (in_use m r.lost.curr) (in_use m r.lost.succ))
  same_tests p8 = refl
  same_tests p9 = refl
  same_tests p10 = refl
  same_tests p11 = refl
  same_tests p12 = refl
  same_tests p13 = refl
  same_tests p14 = refl
  same_tests p15 = refl
  same_tests p16 = refl
  same_tests p17 = refl
  same_tests p18 = refl
  same_tests p19 = refl
  same_tests off = refl

  -- the fields

  one_unusable : (fs : List Field) → all_usable (in_use m) r fs ≡ false → (f : Field) × Memᴰ f fs × (usable (in_use m) r f ≡ false)
  one_unusable [] e = absurd (false≢true (sym e))
  one_unusable (f ∷ fs) e = elim (and_fails (usable (in_use m) r f) (all_usable (in_use m) r fs) e) [
    | inl x ↦ (f, Memᴰ.head refl, x)
    | inr x ↦ let z = one_unusable fs x in (z.0, Memᴰ.tail z.1, z.2)
  ]

  each_usable : (fs : List Field) → all_usable (in_use m) r fs ≡ true → (f : Field) → Memᴰ f fs → usable (in_use m) r f ≡ true
  each_usable [] e f i = absurd (Memᴰ.not-nil i)
  each_usable (g ∷ fs) e f i = elim (Memᴰ.cases_cons i) [
    | inl q ↦ ap (usable (in_use m) r) q ∙ and_left (usable (in_use m) r g) (all_usable (in_use m) r fs) e
    | inr j ↦ each_usable fs (and_right (usable (in_use m) r g) (all_usable (in_use m) r fs) e) f j
  ]

  own_none_or_unused : usable (in_use m) r own ≡ false → (r.kept.node ≡ no_node) ⊎ (in_use m r.kept.node ≡ false)
  own_none_or_unused e = elim (and_fails (not (eqb r.kept.node.0 no_node.0)) (in_use m r.kept.node) e) [
    | inl x ↦ inl (λ i. record { 0 = eqb-true r.kept.node.0 no_node.0 (not-false (eqb r.kept.node.0 no_node.0) x) i })
    | inr x ↦ inr x
  ]

  own_broken : UsesField m r own → usable (in_use m) r own ≡ false → Broken m r
  own_broken u e = elim (own_none_or_unused e) [ inl q ↦ own_is_none u q | inr q ↦ field_not_in_use own u q ]

  field_broken : (f : Field) → UsesField m r f → usable (in_use m) r f ≡ false → Broken m r
  field_broken head u e = absurd (false≢true (sym e))
  field_broken pred u e = field_not_in_use pred u e
  field_broken curr u e = field_not_in_use curr u e
  field_broken succ u e = field_not_in_use succ u e
  field_broken own u e = own_broken u e

  -- no row names head as a field
  abbrev names_head : List Field → Bool
  names_head [] = false
  names_head (f ∷ fs) = elim f [ head ↦ true | pred ↦ names_head fs | curr ↦ names_head fs | succ ↦ names_head fs | own ↦ names_head fs ]

  names_head_lem : (fs : List Field) → Memᴰ head fs → names_head fs ≡ true
  names_head_lem [] i = absurd (Memᴰ.not-nil i)
  names_head_lem (f ∷ fs) i = elim (Memᴰ.cases_cons i) [ inl q ↦ subst (λ g. names_head (g ∷ fs) ≡ true) q refl | inr j ↦ later f (names_head_lem fs j) ]
    where
      later : (f : Field) → names_head fs ≡ true → names_head (f ∷ fs) ≡ true
      later head e = refl
      later pred e = e
      later curr e = e
      later succ e = e
      later own e = e

  head_is_no_field : (l : Place) → names_head (row_tests l).fields ≡ false
  unfolding row_tests
  head_is_no_field p0 = refl
  head_is_no_field p1 = refl
  head_is_no_field p2 = refl
  head_is_no_field p3 = refl
  head_is_no_field p4 = refl
  head_is_no_field p5 = refl
  head_is_no_field p6 = refl
  head_is_no_field p7 = refl
  head_is_no_field p8 = refl
  head_is_no_field p9 = refl
  head_is_no_field p10 = refl
  head_is_no_field p11 = refl
  head_is_no_field p12 = refl
  head_is_no_field p13 = refl
  head_is_no_field p14 = refl
  head_is_no_field p15 = refl
  head_is_no_field p16 = refl
  head_is_no_field p17 = refl
  head_is_no_field p18 = refl
  head_is_no_field p19 = refl
  head_is_no_field off = refl

  -- ---- all of it

  -- the end of a recovering search
  ending : ends_here (tests_of r).ends ≡ true → RecoveringSearchEnds m r
  ending e =
      let here = and_left (tests_of r).ends _ e in
      let rest = and_right (tests_of r).ends _ e in
      let tests = and_right r.lost.recovering _ rest in
      record {
        here = here;
        recovering = and_left r.lost.recovering _ rest;
        plain = not-true (is_marked (link_at m r.lost.curr)) (and_left (not (is_marked (link_at m r.lost.curr))) _ tests);
        reached = not-true (below m.addresses r.lost.curr r.kept.address) (and_right (not (is_marked (link_at m r.lost.curr))) _ tests);
      }

  ended : RecoveringSearchEnds m r → ends_here (tests_of r).ends ≡ true
  ended x = rw (x.here, x.recovering, x.plain, x.reached) refl

  target_broken : (f : Option Field) → (tests_of r).reads ≡ f → target_used f ≡ false → Broken m r
  target_broken none q e = absurd (false≢true (sym e))
  target_broken (some f) q e = target_not_in_use f q (sym (and_true (in_use m (follows m (node_of r f)))) ∙ e)

  nodes_broken : nodes_usable (tests_of r) ≡ false → Broken m r
  nodes_broken e = elim (and_fails (fields && target) end e) [
    | inl x ↦ elim (and_fails fields target x) [
      | inl y ↦ let z = one_unusable (tests_of r).fields y in field_broken z.0 (by_row z.1) z.2
      | inr y ↦ target_broken (tests_of r).reads refl y
    ]
    | inr x ↦ by-test (ends_here (tests_of r).ends) (λ q. own_broken (at_the_end (ending q)) (rw q at x)) (λ q. absurd (false≢true (sym (rw q at x))))
  ]
    where
      fields : Bool
      fields = all_usable (in_use m) r (tests_of r).fields

      target : Bool
      target = target_used (tests_of r).reads

      end : Bool
      end = cond (ends_here (tests_of r).ends) (usable (in_use m) r own) true

  pub unusable_broken : access_usable (place_of r.lost.place) ≡ false → Broken m r
  unusable_broken e = nodes_broken (sym (same_tests (place_of r.lost.place)) ∙ e)

  module _ (access : access_usable (place_of r.lost.place) ≡ true) where
    nodes : nodes_usable (tests_of r) ≡ true
    nodes = sym (same_tests (place_of r.lost.place)) ∙ access

    used_usable : (f : Field) → UsesField m r f → usable (in_use m) r f ≡ true
    used_usable f (by_row i) = each_usable (tests_of r).fields (and_left (all_usable (in_use m) r (tests_of r).fields) _ (and_left _ _ nodes)) f i
    used_usable f (at_the_end x) = rw (ended x) at
        (and_right (all_usable (in_use m) r (tests_of r).fields && target_used (tests_of r).reads) _ nodes)

    field_in_use : (f : Field) → UsesField m r f → usable (in_use m) r f ≡ true → in_use m (node_of r f) ≡ true
    field_in_use head (by_row i) e = absurd (false≢true (sym (head_is_no_field (place_of r.lost.place)) ∙ names_head_lem (tests_of r).fields i))
    field_in_use pred u e = e
    field_in_use curr u e = e
    field_in_use succ u e = e
    field_in_use own u e = and_right (not (eqb r.kept.node.0 no_node.0)) (in_use m r.kept.node) e

    pub used_in_use : (f : Field) → UsesField m r f → in_use m (node_of r f) ≡ true
    used_in_use f u = field_in_use f u (used_usable f u)

    pub own_is_some : UsesField m r own → r.kept.node ≢ no_node
    own_is_some u q = false≢true (rw q at (and_left (not (eqb r.kept.node.0 no_node.0)) (in_use m r.kept.node) (used_usable own u)))

    pub target_in_use : (f : Field) → (tests_of r).reads ≡ some f → in_use m (follows m (node_of r f)) ≡ true
    target_in_use f q = sym (and_true (in_use m (follows m (node_of r f)))) ∙ rw q at
        (and_right (all_usable (in_use m) r (tests_of r).fields) (target_used (tests_of r).reads) (and_left _ _ nodes))
