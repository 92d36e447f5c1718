-- "The caller's table words beyond the stated sizes are never touched", and never read: an event sees only the words of nodes in use and the records
-- below the process count, so that longer tables change nothing but the length of what is left. Rests on Meets, Fitting and InUse.
use mathlib.Core.Path.{◌≡◌, refl, sym, ◌∙◌, ap, subst}
use mathlib.Core.Bool.{Bool, true, false, cond, not, ◌&&◌, false≢true}
use mathlib.Core.List.{List, [], ◌∷◌, ◌++◌}
use Prim.Native.Nat.{ℕ, ◌≤◌, ◌<◌}
use native.Mathlib.Omega.{arith}
use lib.Dec.{ltb, eqb}
use lib.ListN.{length, length-set, length-append, get_or-append}
use lib.Seq.{set-append_left}
use borrow.Author.Tests.{ltb-true, ltb-false}
use Rattle.record.specs.Record.{fresh_record, head_node, tail_node, requested, no_node, insert_kind}
use Rattle.record.specs.declared.Node.{Node}
use Rattle.record.specs.declared.Process.{Process}
use Rattle.record.specs.declared.Address.{Address}
use Rattle.record.specs.declared.Record.{Record}
use Rattle.record.specs.declared.Action.{Action}
use Rattle.record.specs.declared.Event.{Event}
use Rattle.record.specs.declared.Outcome.TheVariants.{Accepted}
use Rattle.table.specs.Words.{Memory, lengths, given_out, next_node, none_left, address_at, link_at, deleter_at, in_use, rank, Write, nothing, link_is}
use Rattle.table.specs.Words.{deleter_is, written, link_word, no_deleter, target_of}
use Rattle.table.specs.Places.{Field, head, pred, curr, succ, own, node_of, link_of, search_ends, row, Place, place_of, Row, read_link, write_link}
use Rattle.table.specs.Places.{swap_link, read_deleter, swap_deleter, write_node, own_record, hand_out, p0, p1, p2, p3, p4, p5, p6, p7, p8, p9, p10}
use Rattle.table.specs.Places.{p11, p12, p13, p14, p15, p16, p17, p18, p19, off}
use Rattle.table.specs.Steps.{link, deleter, word_met, access_of, in_range, usable, all_usable, Turn, turn, turn_in}
use Rattle.table.specs.Events.{Left, leaving, refused, step, does, tables_fit, refusal_in, act, State, state_of, record_in, Leaves, leaves_in, stored, event}
use Rattle.basics.proofs.Tests.{by-test, if, and_left, and_right}
use Rattle.table.proofs.Laws.Fitting.{LongEnough, long_is, SameSizes, same_sizes, written_sizes, given_sizes, Beyond, longer, long_longer}
use Rattle.table.proofs.Laws.Fitting.{Room, room_of, room_written, room_given}
use Rattle.table.proofs.Laws.InUse.{head_in_use, within, same_longer, next_within}
use Rattle.table.proofs.Laws.Meets.{does_alone, by_action, does_meets, act_judged, act_meets, event_meets, event_in_row, event_of_nobody}

-- ---- two memories that agree on the nodes in use

pub record Agree (m m' : Memory) : Type 0 where
  pub head : in_use m head_node ≡ true
  pub used : (n : Node) → in_use m n ≡ in_use m' n
  pub addresses : (n : Node) → in_use m n ≡ true → address_at m n ≡ address_at m' n
  pub links : (n : Node) → in_use m n ≡ true → link_at m n ≡ link_at m' n
  pub deleters : (n : Node) → in_use m n ≡ true → deleter_at m n ≡ deleter_at m' n

pub ranks_agree : {m m' : Memory} → Agree m m' → (n : Node) → in_use m n ≡ true → rank m.addresses n ≡ rank m'.addresses n
unfolding rank address_at
ranks_agree same n u = rw (same.addresses n u)

-- the same verdict, and where the step is accepted the same turn
pub record Same (t t' : Turn) : Type 0 where
  pub fits : t.fits ≡ t'.fits
  pub accepted : t.fits ≡ true → t ≡ t'

same_is : {t t' : Turn} → t ≡ t' → Same t t'
same_is e = record { fits = ap (λ t. t.fits) e; accepted = λ h. e }

both_unfit : {t t' : Turn} → t.fits ≡ false → t'.fits ≡ false → Same t t'
both_unfit e e' = record { fits = e ∙ sym e'; accepted = λ h. absurd (false≢true (sym e ∙ h)) }

and_false : (a b c d : Bool) → b ≡ false → (a && (b && c && d)) ≡ false
and_false true b c d e = rw e
and_false false b c d e = refl

-- a field that is usable names a node in use
field_in_use : (m : Memory) (r : Record) → in_use m head_node ≡ true → (f : Field) → usable (in_use m) r f ≡ true → in_use m (node_of r f) ≡ true
field_in_use m r h head e = h
field_in_use m r h pred e = e
field_in_use m r h curr e = e
field_in_use m r h succ e = e
field_in_use m r h own e = and_right (not (eqb r.kept.node.0 no_node.0)) _ e

no_target : (a b t : Bool) → t ≡ false → (a && (b && (t && true) && true)) ≡ false
no_target true true t e = rw e
no_target true false t e = refl
no_target false b t e = refl

module _ (m m' : Memory) (same : Agree m m') (p : Process) (r : Record) where
  used_same : in_use m ≡ in_use m'
  used_same = λ i. λ n. same.used n i

  abbrev Uses : Row → Bool
  Uses x = all_usable (in_use m) r (access_of p r x).uses

  abbrev turn_of : Memory → Row → Turn
  turn_of k x = let a = access_of p r x in turn (in_use k) (word_met k r a.meets) a r

  link_same : (f : Field) → usable (in_use m) r f ≡ true → word_met m r (link f) ≡ word_met m' r (link f)
  unfolding word_met
  link_same f e = same.links (node_of r f) (field_in_use m r same.head f e)

  deleter_same : (f : Field) → usable (in_use m) r f ≡ true → word_met m r (deleter f) ≡ word_met m' r (deleter f)
  unfolding word_met
  deleter_same f e = same.deleters (node_of r f) (field_in_use m r same.head f e)

  word_same : (x : Row) → Uses x ≡ true → word_met m r (access_of p r x).meets ≡ word_met m' r (access_of p r x).meets
  unfolding word_met
  word_same (read_link f follows) e = link_same f (and_left _ true e)
  word_same (write_link f new after) e = link_same f (and_left (usable (in_use m) r f) _ e)
  word_same (swap_link f old new done lost) e = link_same f (and_left (usable (in_use m) r f) _ e)
  word_same (read_deleter f follows) e = deleter_same f (and_left _ true e)
  word_same (swap_deleter f after) e = deleter_same f (and_left _ true e)
  word_same (write_node f after) e = refl
  word_same (own_record after) e = refl
  word_same (hand_out answer after) e = refl

  -- the same test of the other memory
  elsewhere : (x : Row) (b : Bool) → Uses x ≡ b → all_usable (in_use m') r (access_of p r x).uses ≡ b
  elsewhere x b e = ap (λ u. all_usable u r (access_of p r x).uses) (sym used_same) ∙ e

  unusable : (x y : Row) → (access_of p r x).uses ≡ (access_of p r y).uses → Uses x ≡ false → Same (turn_of m x) (turn_of m' y)
  unusable x y uses e =
      both_unfit (and_false (in_range r) (Uses x) _ _ e)
      (and_false (in_range r) (all_usable (in_use m') r (access_of p r y).uses) _ _
      (ap (λ u. all_usable (in_use m') r u) (sym uses) ∙ elsewhere x false e))

  -- a row that is the same over both address tables
  same_row : (x : Row) → Same (turn_of m x) (turn_of m' x)
  same_row x = by-test (Uses x)
      (λ e. same_is (λ i. turn (used_same i) (word_same x e i) (access_of p r x) r)) (λ e. unusable x x refl e)

  -- two rows that use curr alone: the same where it is in use
  uses_curr : (x y : Row) → (access_of p r x).uses ≡ (curr ∷ []) → (access_of p r y).uses ≡ (curr ∷ [])
      → (usable (in_use m) r curr ≡ true → Same (turn_of m x) (turn_of m' y)) → Same (turn_of m x) (turn_of m' y)
  uses_curr x y ux uy where-in-use = by-test (usable (in_use m) r curr) where-in-use
      (λ e. unusable x y (ux ∙ sym uy) (ap (all_usable (in_use m) r) ux ∙ ap (λ b. b && true) e))

  -- row 1 looks at curr's address
  row_1_is : in_use m r.lost.curr ≡ true → row m.addresses p1 r ≡ row m'.addresses p1 r
  unfolding row search_ends
  row_1_is u = rw (ranks_agree same r.lost.curr u)

  row_1_same : Same (turn_of m (row m.addresses p1 r)) (turn_of m' (row m'.addresses p1 r))
  unfolding row
  row_1_same = let x = row m.addresses p1 r in uses_curr x (row m'.addresses p1 r) refl refl (λ e.
      subst (λ y. Same (turn_of m x) (turn_of m' y)) (row_1_is e) (same_row x))

  -- row 11 looks at the target's address
  row_11_same : Same (turn_of m (row m.addresses p11 r)) (turn_of m' (row m'.addresses p11 r))
  unfolding row
  row_11_same = uses_curr (row m.addresses p11 r) y refl refl (λ e.
      subst (λ (z : Turn). Same (turn_of m (row m.addresses p11 r)) z)
      (λ i. turn (used_same i) (link_same curr e i) (access_of p r y) r)
      target)
    where
      y : Row
      y = row m'.addresses p11 r

      w : ℕ
      w = word_met m r (link curr)

      target : Same (turn_of m (row m.addresses p11 r)) (turn (in_use m) w (access_of p r y) r)
      target = by-test (in_use m (target_of w)) (λ e. same_is (rw (ranks_agree same (target_of w) e)))
          (λ e. let unfit = no_target (in_range r) (usable (in_use m) r curr && true) _ e in both_unfit unfit unfit)

  at_place : (place : Place) → Same (turn_of m (row m.addresses place r)) (turn_of m' (row m'.addresses place r))
  unfolding row
  at_place p0 = same_row (row m.addresses p0 r)
  at_place p1 = row_1_same
  at_place p2 = same_row (row m.addresses p2 r)
  at_place p3 = same_row (row m.addresses p3 r)
  at_place p4 = same_row (row m.addresses p4 r)
  at_place p5 = same_row (row m.addresses p5 r)
  at_place p6 = same_row (row m.addresses p6 r)
  at_place p7 = same_row (row m.addresses p7 r)
  at_place p8 = same_row (row m.addresses p8 r)
  at_place p9 = same_row (row m.addresses p9 r)
  at_place p10 = same_row (row m.addresses p10 r)
  at_place p11 = row_11_same
  at_place p12 = same_row (row m.addresses p12 r)
  at_place p13 = same_row (row m.addresses p13 r)
  at_place p14 = same_row (row m.addresses p14 r)
  at_place p15 = same_row (row m.addresses p15 r)
  at_place p16 = same_row (row m.addresses p16 r)
  at_place p17 = same_row (row m.addresses p17 r)
  at_place p18 = same_row (row m.addresses p18 r)
  at_place p19 = same_row (row m.addresses p19 r)
  at_place off = same_row (row m.addresses off r)

-- of the memory a step sees only the words of nodes in use
pub step_sees_nodes_in_use : (m m' : Memory) → Agree m m' → (p : Process) (r : Record) → Same (turn_in m p r) (turn_in m' p r)
unfolding turn_in
step_sees_nodes_in_use m m' same p r = at_place m m' same p r (place_of r.lost.place)

-- ---- longer tables

module _ (m : Memory) (room : Room m) (b : Beyond) where
  pub longer_agrees : Agree m (longer b m)
  unfolding address_at link_at deleter_at lengths
  longer_agrees = record {
    head = head_in_use room;
    used = λ n. sym (same_longer b room n);
    addresses = λ n u. sym (get_or-append m.addresses b.addresses 0 n.0 (omega (arith, within room n u, room.long.addresses)));
    links = λ n u. sym (get_or-append m.links b.links 0 n.0 (omega (arith, within room n u, room.long.links)));
    deleters = λ n u. sym (get_or-append m.deleters b.deleters 0 n.0 (omega (arith, within room n u, room.long.deleters)));
  }

  -- a write to a node in use
  WritesInUse : Write → Type 0
  WritesInUse nothing = Unit {0}
  WritesInUse (link_is n word) = in_use m n ≡ true
  WritesInUse (deleter_is n word) = in_use m n ≡ true

  written_longer : (w : Write) → WritesInUse w → written w (longer b m) ≡ longer b (written w m)
  unfolding written WritesInUse lengths
  written_longer nothing u = refl
  written_longer (link_is n word) u =
      rw (set-append_left m.links b.links n.0 word (omega (arith, within room n u, room.long.links)))
  written_longer (deleter_is n word) u =
      rw (set-append_left m.deleters b.deleters n.0 word (omega (arith, within room n u, room.long.deleters)))

  row_writes_in_use : (p : Process) (r : Record) (x : Row) (w : ℕ) → all_usable (in_use m) r (access_of p r x).uses ≡ true
      → WritesInUse ((access_of p r x).writes w)
  unfolding WritesInUse
  row_writes_in_use p r (read_link f follows) w e = tt
  row_writes_in_use p r (write_link f new after) w e = field_in_use m r (head_in_use room) f (and_left (usable (in_use m) r f) _ e)
  row_writes_in_use p r (swap_link f old new done lost) w e =
      if WritesInUse (eqb w (link_of r old)) (λ done. field_in_use m r (head_in_use room) f (and_left (usable (in_use m) r f) _ e)) (λ lost. tt)
  row_writes_in_use p r (read_deleter f follows) w e = tt
  row_writes_in_use p r (swap_deleter f after) w e =
      if WritesInUse (eqb w no_deleter) (λ done. field_in_use m r (head_in_use room) f (and_left (usable (in_use m) r f) _ e)) (λ lost. tt)
  row_writes_in_use p r (write_node f after) w e = tt
  row_writes_in_use p r (own_record after) w e = tt
  row_writes_in_use p r (hand_out answer after) w e = tt

  step_writes_in_use : (p : Process) (r : Record) → (turn_in m p r).fits ≡ true → WritesInUse (turn_in m p r).writes
  unfolding turn_in
  step_writes_in_use p r e =
      let x = row m.addresses (place_of r.lost.place) r in
      let used = and_right (in_range r) _ e in
      row_writes_in_use p r x (word_met m r (access_of p r x).meets) (and_left _ _ (and_left _ _ used))

  abbrev longer_left : Left → Left
  longer_left x = leaving (longer b x.memory) x.advanced x.outcome

  abbrev stepped : Memory → Record → Turn → Left
  stepped k r t = cond t.fits (leaving (written t.writes k) t.after t.says) (refused k r 8)

  step_longer : (p : Process) (r : Record) → step (longer b m) p r ≡ longer_left (step m p r)
  unfolding step
  step_longer p r =
      let t = turn_in m p r in
      let same = step_sees_nodes_in_use m (longer b m) longer_agrees p r in
      by-test t.fits
      (λ e. ap (stepped (longer b m) r) (sym (same.accepted e))
      ∙ rw e (ap (λ k. leaving k t.after t.says) (written_longer t.writes (step_writes_in_use p r e))))
      (λ e. rw (e, ← same.fits, e))

  given_longer : (a : Address) → none_left m ≡ false → given_out a (longer b m) ≡ longer b (given_out a m)
  unfolding given_out lengths
  given_longer a spare =
      let n = (next_node m).0 in
      let there = next_within room spare in
      rw (
        set-append_left m.addresses b.addresses n a.0 (omega (arith, there, room.long.addresses)),
        set-append_left m.links b.links n (link_word tail_node false) (omega (arith, there, room.long.links)),
        set-append_left m.deleters b.deleters n no_deleter (omega (arith, there, room.long.deleters)),
      )

  does_longer : (p : Process) (r : Record) (x : Action) → does (longer b m) p r x ≡ longer_left (does m p r x)
  unfolding does
  does_longer p r x = by_action r x
      (λ a is. rw is (by-test (none_left m) (λ e. rw e)
      (λ e. rw e (ap (λ k. leaving k (requested 0 insert_kind a (next_node m) r) Accepted) (given_longer a e)))))
      (λ is. rw is (step_longer p r))
      (λ s z. does_alone z (longer b m) p ∙ ap longer_left (sym (does_alone z m p)))

-- ---- whole events

-- the lent tables hold the stated sizes
pub record HoldsSizes (σ : State) : Type 0 where
  pub tables : LongEnough σ.memory.nodes (lengths σ.memory)
  pub row : σ.memory.processes ≤ length σ.row

module _ (b : Beyond) where
  module _ (m : Memory) (long : LongEnough m.nodes (lengths m)) where
    fit_longer : tables_fit (longer b m) ≡ tables_fit m
    unfolding tables_fit
    fit_longer = rw (long_is m.nodes (lengths (longer b m)) (long_longer b m m.nodes long), long_is m.nodes (lengths m) long)

    act_longer : (p : Process) (r : Record) (x : Action)
        → act (longer b m) p r x ≡ leaving (longer b (act m p r x).memory) (act m p r x).advanced (act m p r x).outcome
    unfolding act refusal_in
    act_longer p r x =
        act_judged (λ d. act (longer b m) p r x ≡ leaving (longer b d.memory) d.advanced d.outcome) m p r x
        (λ unfit. rw (fit_longer, unfit))
        (λ fit beyond. rw (fit_longer, fit, beyond))
        (λ fit there other. rw (fit_longer, fit, there, other))
        (λ fit there ready. rw (fit_longer, fit, there, ready) (does_longer m (room_of m fit) b p r x))

  -- the same state with more words and records after its tables
  abbrev pub longer_state : List Record → State → State
  longer_state rs σ = state_of (longer b σ.memory) (σ.row ++ rs)

  -- what it leaves of a longer state
  abbrev pub longer_leaves : List Record → Leaves → Leaves
  longer_leaves rs x = leaves_in (longer_state rs x.after) x.outcome

module _ (b : Beyond) (rs : List Record) (σ : State) (holds : HoldsSizes σ) (e : Event) where
  σ⁺ : State
  σ⁺ = longer_state b rs σ

  row⁺ : σ.memory.processes ≤ length (σ.row ++ rs)
  row⁺ = omega (arith, length-append σ.row rs, holds.row)

  of_somebody : e.process.0 < σ.memory.processes → event σ⁺ e ≡ longer_leaves b rs (event σ e)
  unfolding σ⁺ stored record_in
  of_somebody h =
      let p = e.process.0 in
      event_in_row σ⁺ e row⁺
      ∙ rw (
        get_or-append σ.row rs fresh_record p (omega (arith, holds.row)),
        act_longer b σ.memory holds.tables e.process (record_in σ e.process) e.action,
        set-append_left σ.row rs p (act σ.memory e.process (record_in σ e.process) e.action).advanced (omega (arith, holds.row)),
      )
      (ap (longer_leaves b rs) (sym (event_in_row σ e holds.row)))

  of_nobody : σ.memory.processes ≤ e.process.0 → event σ⁺ e ≡ longer_leaves b rs (event σ e)
  unfolding σ⁺
  of_nobody h =
      event_of_nobody σ⁺ e row⁺ h fresh_record
      ∙ ap (λ (d : Left). leaves_in σ⁺ d.outcome) (act_longer b σ.memory holds.tables e.process fresh_record e.action)
      ∙ ap (longer_leaves b rs) (sym (event_of_nobody σ e holds.row h fresh_record))

  pub beyond_untouched : event (longer_state b rs σ) e ≡ longer_leaves b rs (event σ e)
  unfolding σ⁺
  beyond_untouched =
      by-test (ltb e.process.0 σ.memory.processes) (λ h. of_somebody (ltb-true _ _ h)) (λ h. of_nobody (ltb-false _ _ h))

-- ---- an event keeps the stated sizes and the lengths of the tables

does_sizes : (m : Memory) (p : Process) (r : Record) (x : Action) → SameSizes m (does m p r x).memory
does_sizes m p r x = does_meets (λ d. SameSizes m d.memory) m p r x
    (same_sizes m) (λ a is spare. given_sizes a m)
    (same_sizes m) (λ is fits. written_sizes (turn_in m p r).writes m)
    (λ s alone. same_sizes m)

pub record SizesStay (σ σ' : State) : Type 0 where
  pub memory : SameSizes σ.memory σ'.memory
  pub row : length σ'.row ≡ length σ.row

pub sizes_stay : (σ : State) (e : Event) → SizesStay σ (event σ e).after
unfolding stored
sizes_stay σ e =
    let m = σ.memory in
    let r = record_in σ e.process in
    event_meets σ e (λ l. SizesStay σ l.after)
    (λ long. record {
      memory = act_meets (λ d. SameSizes m d.memory) m e.process r e.action (λ n. same_sizes m)
          (λ fit there. does_sizes m e.process r e.action);
      row = length-set σ.row e.process.0 _;
    })
    (record { memory = same_sizes m; row = refl })

pub holds_stays : (σ : State) (e : Event) → HoldsSizes σ → HoldsSizes (event σ e).after
holds_stays σ e h =
    let s = sizes_stay σ e in
    record {
      tables = subst (LongEnough (event σ e).after.memory.nodes) (sym s.memory.tables) (rw s.memory.nodes h.tables);
      row = omega (arith, s.memory.processes, s.row, h.row);
    }

-- ---- and where the count lies within the nodes, it stays so

pub room_stays : (σ : State) (e : Event) → Room σ.memory → Room (event σ e).after.memory
unfolding stored
room_stays σ e room =
    let m = σ.memory in
    let r = record_in σ e.process in
    event_meets σ e (λ l. Room l.after.memory)
    (λ long. act_meets (λ d. Room d.memory) m e.process r e.action (λ n. room)
    (λ fit there. does_meets (λ d. Room d.memory) m e.process r e.action
    room (λ a is spare. room_given a room spare)
    room (λ is fits. room_written (turn_in m e.process r).writes room)
    (λ s alone. room)))
    room
