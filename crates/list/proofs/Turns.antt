-- What a step leaves, of what its row leaves: a row made by its access is the row as the place table has it. Rests on the table's Steps, on Accesses
-- and on Rows.
use mathlib.Core.Path.{◌≡◌, refl, sym, ap, ◌∙◌}
use mathlib.Core.Bool.{Bool, true, false, cond, ◌&&◌}
use mathlib.Core.List.{List, [], ◌∷◌, ◌++◌}
use Prim.Native.Nat.{ℕ, zero, suc, ◌<◌}
use lib.Dec.{eqb}
use lib.ListN.{length, get_or, set}
use native.Mathlib.Omega.{arith}
use borrow.Author.Tests.{leb-true}
use Rattle.std.specs.Prelude.{Option, Some, None, option_map}
use Rattle.record.specs.Record.{◌▸◌, status≔, idle_status}
use Rattle.record.specs.declared.Node.{Node}
use Rattle.record.specs.declared.Process.{Process}
use Rattle.record.specs.declared.Record.{Record}
use Rattle.record.specs.declared.Outcome.{Outcome}
use Rattle.record.specs.declared.Outcome.TheVariants.{Refused, Accepted, Answered}
use Rattle.table.specs.Words.{Memory, links≔, deleters≔, link_at, deleter_at, target_of, is_marked, in_use, written, deleter_word, no_deleter}
use Rattle.table.specs.Words.{nothing, link_is, deleter_is}
use Rattle.table.specs.Places.{own, Field, Link, Next, goes, uses_own, node_of, link_of, Place, place_of, Row, row}
use Rattle.table.specs.Places.{p0, p1, p2, p3, p4, p5, p6, p7, p8, p9, p10, p11, p12, p13, p14, p15, p16, p17, p18, p19, off}
use Rattle.table.specs.Places.{read_link, write_link, swap_link, read_deleter, swap_deleter, write_node, own_record, hand_out}
use Rattle.table.specs.Steps.{usable, all_usable, all_used, in_range, turn_in, word_met, own_usable, record_after, field_of, access_of}
use Rattle.table.specs.Events.{Left, step, leaving, refused}
use Rattle.table.proofs.Laws.Ranges.{condition}
use Rattle.words.specs.LentMemory.{lent_memory, sized}
use Rattle.words.specs.LentWords.{link_met, SwapLeft, swap_left, swapped, swap_of}
use Rattle.words.specs.declared.LinkRead.{LinkRead}
use Rattle.words.specs.declared.Swapped.{Swapped}
use Rattle.list.specs.Accesses.{◌>>=◌, AccessLeft, access_left, usable_node, link_read, deleter_read, write_made, swap_made, access_made, link_written, link_swap, deleter_swap}
use Rattle.list.specs.declared.Acted.{Acted}
use Rattle.words.specs.declared.Sizes.{Sizes}
use Rattle.list.specs.Acting.{left}
use Rattle.list.specs.Rows.{RowLeaves, acted_as, turned, RowLeft, row_left, followed, row_made}

-- what a step leaves, of what its row leaves and says
abbrev leaves : Record → Outcome → RowLeft → Left
leaves r says x = elim x.after [ Some after ↦ leaving x.memory after says | None ↦ leaving x.memory r (Refused 8) ]

module _ (m : Memory) (p : Process) (r : Record) where
  abbrev used : Node → Bool
  used = in_use m

  -- what a row of the place table comes to, of a record in its ranges
  abbrev worked : Row → Left
  worked x =
      let a = access_of p r x in
      let w = word_met m r a.meets in
      cond (all_usable used r a.uses && all_used used (a.leads w) && own_usable used r (a.next w))
      (leaving (written (a.writes w) m) (record_after (a.next w)) a.says) (refused m r 8)

  -- ---- each sort of access, by its tests

  follows : (x : Next) (own_used : Bool) → own_used ≡ usable used r own →
      leaves r Accepted (row_left m (followed m r x)) ≡ cond (own_usable used r x) (leaving m (record_after x) Accepted) (refused m r 8)
  unfolding usable_node
  follows (goes s) b is = refl
  follows (uses_own s) true is = rw (← is) refl
  follows (uses_own s) false is = rw (← is) refl

  reads : (u t : Bool) (n target : Node) (mark : Bool) (next : Node → Bool → Next) (met : Node → Option LinkRead) →
      met n ≡ cond t (Some (record { target = target; mark = mark })) None →
      leaves r Accepted (row_left m (cond u (Some n) None >>= met >>= λ x. followed m r (next x.target x.mark))) ≡
      cond ((u && true) && (t && true) && own_usable used r (next target mark)) (leaving m (record_after (next target mark)) Accepted) (refused m r 8)
  reads true true n target mark next met e = rw e (follows (next target mark) _ refl)
  reads true false n target mark next met e = rw e
  reads false t n target mark next met e = refl

  tells : (u : Bool) (mine : Node → Bool) (n : Node) (next : Bool → Record) →
      leaves r Accepted (row_left m (option_map next (cond u (Some n) None >>= λ n. Some (mine n)))) ≡
      cond ((u && true) && true && true) (leaving m (next (mine n)) Accepted) (refused m r 8)
  tells true mine n next = refl
  tells false mine n next = refl

  names : (u : Bool) (n : Node) (after : Record) →
      leaves r Accepted (row_left m (option_map (λ n. after) (cond u (Some n) None))) ≡
      cond ((u && true) && true && true) (leaving m after Accepted) (refused m r 8)
  names true n after = refl
  names false n after = refl

  writes : (u t : Bool) (n x node : Node) (word : ℕ) (after : Record) →
      (let x = access_made m.links (cond u (Some n) None >>= λ n. cond t (Some x) None >>= λ to. Some (write_made (set m.links n.0 word))) in
      leaves r Accepted (row_left (links≔ x.words m) (option_map (λ u. after) x.met))) ≡
      cond ((u && (t && true)) && true && true) (leaving (written (link_is n word) m) after Accepted) (refused m r 8)
  unfolding written
  writes true true n x node word after = refl
  writes true false n x node word after = refl
  writes false t n x node word after = refl

  swaps : (u s t same : Bool) (n x y : Node) (new found : ℕ) (done lost : Record) (met : Node → SwapLeft) →
      met n ≡ swap_left (cond same (set m.links n.0 new) m.links) (swapped same found) →
      (let x = access_made m.links (cond u (Some n) None >>= λ n. cond s (Some x) None >>= λ from. cond t (Some y) None >>= λ to. Some (swap_made (met n))) in
      leaves r Accepted (row_left (links≔ x.words m) (option_map (λ s. cond s.wrote done lost) x.met))) ≡
      cond ((u && (s && (t && true))) && true && true) (leaving (written (cond same (link_is n new) nothing) m) (cond same done lost) Accepted) (refused m r 8)
  unfolding written
  swaps true true true true n x y new found done lost met e = rw e
  swaps true true true false n x y new found done lost met e = rw e
  swaps true true false same n x y new found done lost met e = refl
  swaps true false t same n x y new found done lost met e = refl
  swaps false s t same n x y new found done lost met e = refl

  signs : (u same : Bool) (n : Node) (new found : ℕ) (after : Record) (met : Node → SwapLeft) →
      met n ≡ swap_left (cond same (set m.deleters n.0 new) m.deleters) (swapped same found) →
      (let x = access_made m.deleters (cond u (Some n) None >>= λ n. Some (swap_made (met n))) in
      leaves r Accepted (row_left (deleters≔ x.words m) (option_map (λ s. after) x.met))) ≡
      cond ((u && true) && true && true) (leaving (written (cond same (deleter_is n new) nothing) m) after Accepted) (refused m r 8)
  unfolding written
  signs true true n new found after met e = rw e
  signs true false n new found after met e = rw e
  signs false same n new found after met e = refl

  made : (x : Row) → leaves r (access_of p r x).says (row_made m p r x) ≡ worked x
  unfolding usable_node link_read deleter_read link_written link_swap deleter_swap link_met swap_of word_met link_at deleter_at written
  made (read_link f next) =
      let word : ℕ = link_at m (node_of r f) in
      reads (usable used r f) (used (target_of word)) (node_of r f) (target_of word) (is_marked word) next (link_met m) refl
  made (write_link f new after) =
      writes (usable used r f) (usable used r (field_of new)) (node_of r f) (node_of r (field_of new)) (node_of r f) (link_of r new) after
  made (swap_link f old new done lost) =
      let found : ℕ = get_or m.links (node_of r f).0 0 in
      swaps (usable used r f) (usable used r (field_of old)) (usable used r (field_of new)) (eqb found (link_of r old))
      (node_of r f) (node_of r (field_of old)) (node_of r (field_of new)) (link_of r new) found done lost
      (λ n. swap_of m.links n (link_of r old) (link_of r new)) refl
  made (read_deleter f next) = tells (usable used r f) (λ n. eqb (deleter_at m n) (deleter_word p)) (node_of r f) next
  made (swap_deleter f after) =
      let found : ℕ = get_or m.deleters (node_of r f).0 0 in
      signs (usable used r f) (eqb found no_deleter) (node_of r f) (deleter_word p) found after
      (λ n. swap_of m.deleters n no_deleter (deleter_word p)) refl
  made (write_node f after) = names (usable used r f) (node_of r f) after
  made (own_record after) = refl
  made (hand_out answer after) = refl

  -- ---- a step

  ranged_step : in_range r ≡ true → (n : ℕ) → r.lost.place ≡ n → worked (row m.addresses (place_of n) r) ≡ step m p r
  unfolding step turn_in
  ranged_step ranged n at = ap (λ (k : ℕ). worked (row m.addresses (place_of k) r)) (sym at) ∙ rw ranged refl

  -- what a row says
  abbrev says : Place → Outcome
  says l = (access_of p r (row m.addresses l r)).says

  abbrev AllAccept : List Place → Type 0
  AllAccept [] = Unit {0}
  AllAccept (l ∷ ls) = (says l ≡ Accepted) × AllAccept ls

  accepts : (ls later : List Place) → AllAccept ls → (n : ℕ) → n < length ls → says (get_or (ls ++ later) n off) ≡ Accepted
  accepts [] later all n h = absurd (omega arith)
  accepts (l ∷ ls) later all zero h = all.0
  accepts (l ∷ ls) later all (suc n) h = accepts ls later all.1 n (omega arith)

  accepted_before : (n : ℕ) → n < 19 → says (place_of n) ≡ Accepted
  unfolding row place_of
  accepted_before =
      accepts (p0 ∷ p1 ∷ p2 ∷ p3 ∷ p4 ∷ p5 ∷ p6 ∷ p7 ∷ p8 ∷ p9 ∷ p10 ∷ p11 ∷ p12 ∷ p13 ∷ p14 ∷ p15 ∷ p16 ∷ p17 ∷ p18 ∷ []) (p19 ∷ [])
      (refl, (refl, (refl, (refl, (refl, (refl, (refl, (refl, (refl, (refl, (refl, (refl, (refl, (refl, (refl, (refl, (refl, (refl, (refl, tt)))))))))))))))))))

-- ---- what the code of a step answers

-- there is no place past the table
pub past_the_table : (d : Left) (m : Memory) (p : Process) (r : Record) → in_range r ≡ true → 19 < r.lost.place → d ≡ step m p r
past_the_table d m p r ranged past = absurd (omega (arith, leb-true r.lost.place 19 (condition r ranged 0)))

module _ (sizes : Sizes) (p : Process) (r : Record) (addresses links deleters : List ℕ) (a : Acted) where
  abbrev lent : Memory
  lent = lent_memory addresses links deleters sizes

  turned_is : (m : Memory) (after : Option Record) → sized sizes m ≡ m → left m (turned sizes r after) ≡ leaves r Accepted (row_left m after)
  turned_is m (Some after) same = ap (λ (k : Memory). leaving k after Accepted) same
  turned_is m None same = ap (λ (k : Memory). leaving k r (Refused 8)) same

  -- a row below 19, from what its code tells of it
  pub takes : (links' deleters' : List ℕ) (n : ℕ) (before after : Memory → Memory) (told : Option Record) →
      RowLeaves n sizes p r before after told → a ≡ turned sizes r told →
      sized sizes (before lent) ≡ lent → sized sizes (after lent) ≡ lent_memory addresses links' deleters' sizes →
      in_range r ≡ true → r.lost.place ≡ n → n < 19 → left (lent_memory addresses links' deleters' sizes) a ≡ step lent p r
  unfolding RowLeaves
  takes links' deleters' n before after told made_so is was then ranged at early =
      let m' : Memory = lent_memory addresses links' deleters' sizes in
      let here : Row = row addresses (place_of n) r in
      let left_so : row_left m' told ≡ row_made lent p r here =
      ap (λ (k : Memory). row_left k told) (sym then) ∙ made_so lent
      ∙ ap (λ (k : Memory). row_made k p r (row k.addresses (place_of n) r)) was in
      ap (left m') is ∙ turned_is m' told refl ∙ ap (leaves r Accepted) left_so
      ∙ ap (λ (o : Outcome). leaves r o (row_made lent p r here)) (sym (accepted_before lent p r n early))
      ∙ made lent p r here ∙ ranged_step lent p r ranged n at

  -- a row that swaps a link, from what the swap met: places 2, 4, 7 and 8
  pub swap_link_lem : (n : ℕ) → in_range r ≡ true → r.lost.place ≡ n →
      (f : Field) (old new : Link) (done lost : Record) → row addresses (place_of n) r ≡ swap_link f old new done lost →
      (words : List ℕ) (met : Option Swapped) → access_left words met ≡ link_swap lent r f old new →
      left (links≔ words lent) (turned sizes r (option_map (λ s. cond s.wrote done lost) met)) ≡ step lent p r
  swap_link_lem n ranged at f old new done lost e words met is =
      turned_is (links≔ words lent) (option_map (λ s. cond s.wrote done lost) met) refl
      ∙ ap (λ (x : AccessLeft Swapped). leaves r Accepted (row_left (links≔ x.words lent) (option_map (λ s. cond s.wrote done lost) x.met))) is
      ∙ made lent p r (swap_link f old new done lost) ∙ ap (worked lent p r) (sym e) ∙ ranged_step lent p r ranged n at

  -- the last
  pub answers : a ≡ acted_as sizes (r ▸ status≔ idle_status) (Answered r.lost.pending) → in_range r ≡ true → r.lost.place ≡ 19 →
      left lent a ≡ step lent p r
  unfolding row place_of
  answers is ranged at = ap (left lent) is ∙ made lent p r (row addresses (place_of 19) r) ∙ ranged_step lent p r ranged 19 at

  pub unranged : a ≡ acted_as sizes r (Refused 8) → in_range r ≡ false → left lent a ≡ step lent p r
  unfolding step turn_in
  unranged is e = rw (is, e)
