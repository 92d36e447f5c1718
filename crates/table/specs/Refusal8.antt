-- 01's refusal 8 as a table of its own: what each row tests, and the causes in 01's order. It says nothing of accesses: that a step is refused with 8
-- exactly for these causes is the law `refused_8_exactly` of proofs/Laws/Refusal8. Rests on Words, Places and Chain.
use Rattle.std.specs.Prelude.{◌≡◌, Bool, true, false, ◌≤◌, ◌<◌}
use Rattle.std.proofs.Math.Option.{Option, none, some}
use mathlib.Core.List.{List, [], ◌∷◌, Memᴰ}
use Rattle.record.specs.Record.{find_kind, no_node, no_answer, fail_answer}
use Rattle.record.specs.declared.Record.{Record}
use Rattle.table.specs.Words.{Memory, link_at, is_marked, in_use, below}
use Rattle.table.specs.Places.{Field, head, pred, curr, succ, own, node_of, Place, place_of, p0, p1, p2, p3, p4, p5, p6, p7, p8, p9, p10, p11}
use Rattle.table.specs.Places.{p12, p13, p14, p15, p16, p17, p18, p19, off}
use Rattle.table.specs.Chain.{follows}

-- what a row tests: the node fields that it uses, the node whose link it reads, and whether a search can end in it
pub record RowTests : Type 0 where
  pub fields : List Field
  pub reads : Option Field
  pub ends : Bool

abbrev tests : List Field → Option Field → Bool → RowTests
tests fields reads ends = record { fields = fields; reads = reads; ends = ends }

-- "Used are own in rows 3, 4, 14 to 17 ..; curr in 1 to 12; pred in 2, 4, 8; succ in 2, 7, 8. Row 13 tests no node."
unfoldable pub row_tests : Place → RowTests
row_tests p0 = tests [] (some head) false
row_tests p1 = tests (curr ∷ []) (some curr) true
row_tests p2 = tests (pred ∷ curr ∷ succ ∷ []) none false
row_tests p3 = tests (own ∷ curr ∷ []) none false
row_tests p4 = tests (pred ∷ curr ∷ own ∷ []) none false
row_tests p5 = tests (curr ∷ []) none false
row_tests p6 = tests (curr ∷ []) (some curr) false
row_tests p7 = tests (curr ∷ succ ∷ []) none false
row_tests p8 = tests (pred ∷ curr ∷ succ ∷ []) none false
row_tests p9 = tests (curr ∷ []) none false
row_tests p10 = tests (curr ∷ []) none false
row_tests p11 = tests (curr ∷ []) (some curr) false
row_tests p12 = tests (curr ∷ []) (some curr) false
row_tests p13 = tests [] none false
row_tests p14 = tests (own ∷ []) (some own) false
row_tests p15 = tests (own ∷ []) (some own) false
row_tests p16 = tests (own ∷ []) none false
row_tests p17 = tests (own ∷ []) none false
row_tests p18 = tests [] none false
row_tests p19 = tests [] none false
row_tests off = tests [] none false

-- the tests of the row at which a record stands
abbrev pub tests_of : Record → RowTests
tests_of r = row_tests (place_of r.lost.place)

module _ (m : Memory) (r : Record) where
  -- a recovering search ends at this step: curr's link is unmarked, and curr is not below the address
  pub record RecoveringSearchEnds : Type 0 where
    pub here : (tests_of r).ends ≡ true
    pub recovering : r.lost.recovering ≡ true
    pub plain : is_marked (link_at m r.lost.curr) ≡ false
    pub reached : below m.addresses r.lost.curr r.kept.address ≡ false

  -- the fields used: those of the row, "and at the end of a recovering search" own
  pub data UsesField : Field → Type 0 where
    by_row : {f : Field} → Memᴰ f (tests_of r).fields → UsesField f
    at_the_end : RecoveringSearchEnds → UsesField own

  -- why a step is refused with 8
  pub data Broken : Type 0 where
    -- "place above 19, kind above 2, pending answer or result out of its range"
    place_above_19 : 19 < r.lost.place → Broken
    kind_above_2 : 2 < r.kept.kind → Broken
    pending_above_3 : 3 < r.lost.pending → Broken
    result_above_2 : 2 < r.kept.result → Broken
    -- "pending none or fail at 18 or none at 19, or kind find at places 0 to 2"
    none_at_18 : r.lost.place ≡ 18 → r.lost.pending ≡ no_answer → Broken
    fail_at_18 : r.lost.place ≡ 18 → r.lost.pending ≡ fail_answer → Broken
    none_at_19 : r.lost.place ≡ 19 → r.lost.pending ≡ no_answer → Broken
    find_at_0_to_2 : r.lost.place ≤ 2 → r.kept.kind ≡ find_kind → Broken
    -- "a node field used by the row, or the target of a link read by the row, is not below the count; or a row using own finds none"
    field_not_in_use : (f : Field) → UsesField f → in_use m (node_of r f) ≡ false → Broken
    target_not_in_use : (f : Field) → (tests_of r).reads ≡ some f → in_use m (follows m (node_of r f)) ≡ false → Broken
    own_is_none : UsesField own → r.kept.node ≡ no_node → Broken
