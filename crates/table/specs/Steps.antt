-- One step: what a row of the place table uses, meets, writes and leaves, and 01's refusal 8. Rests on Words and Places.
use Rattle.std.specs.Prelude.{Bool, true, cond, not, ◌&&◌, ◌||◌, List, [], ◌∷◌, ℕ, leb, eqb}
use Rattle.std.proofs.Math.Option.{some}
use Rattle.record.specs.Record.{find_kind, no_node, no_answer, fail_answer}
use Rattle.record.specs.declared.Node.{Node}
use Rattle.record.specs.declared.Process.{Process}
use Rattle.record.specs.declared.Record.{Record}
use Rattle.record.specs.declared.Outcome.{Outcome}
use Rattle.record.specs.Event.{outcome_of, accepted}
use Rattle.table.specs.Words.{Memory, link_at, deleter_at, target_of, is_marked, no_deleter, deleter_word, in_use, swaps}
use Rattle.table.specs.Words.{Write, nothing, link_is, deleter_is}
use Rattle.table.specs.Places.{Field, head, pred, curr, succ, own, node_of, Link, unmarked, marked, link_of, Next, goes, uses_own}
use Rattle.table.specs.Places.{Row, read_link, write_link, swap_link, read_deleter, swap_deleter, write_node, own_record, hand_out, place_of, row}

-- ---- "Each accepted step makes at most one access to a link or deleter word"

-- the word that a row meets
pub data Meets : Type 0 where
  link deleter : Field → Meets
  no_word : Meets

unfoldable pub word_met : Memory → Record → Meets → ℕ
word_met m r (link f) = link_at m (node_of r f)
word_met m r (deleter f) = deleter_at m (node_of r f)
word_met m r no_word = 0

-- what an access comes to
pub record Access : Type 0 where
  pub uses : List Field  -- the nodes that it names
  pub meets : Meets  -- the one word that it reads or writes
  pub leads : ℕ → List Node  -- from the word met: the target of a link read
  pub writes : ℕ → Write  -- from the word met: what it writes
  pub next : ℕ → Next  -- from the word met: what follows
  pub says : Outcome

abbrev access : List Field → Meets → (ℕ → List Node) → (ℕ → Write) → (ℕ → Next) → Outcome → Access
access uses meets leads writes next says =
    record { uses = uses; meets = meets; leads = leads; writes = writes; next = next; says = says }

abbrev pub field_of : Link → Field
field_of l = elim l [ unmarked f ↦ f | marked f ↦ f ]

-- what each sort of row comes to
abbrev pub access_of : Process → Record → Row → Access
access_of p r (read_link f follows) =
    access (f ∷ []) (link f) (λ w. target_of w ∷ []) (λ w. nothing) (λ w. follows (target_of w) (is_marked w)) accepted
access_of p r (write_link f new after) =
    access (f ∷ field_of new ∷ []) (link f) (λ w. []) (λ w. link_is (node_of r f) (link_of r new)) (λ w. goes after) accepted
access_of p r (swap_link f old new done lost) =
    access (f ∷ field_of old ∷ field_of new ∷ []) (link f) (λ w. [])
    (λ w. cond (swaps w (link_of r old)) (link_is (node_of r f) (link_of r new)) nothing)
    (λ w. goes (cond (swaps w (link_of r old)) done lost)) accepted
access_of p r (read_deleter f follows) =
    access (f ∷ []) (deleter f) (λ w. []) (λ w. nothing) (λ w. goes (follows (eqb w (deleter_word p)))) accepted
access_of p r (swap_deleter f after) =
    access (f ∷ []) (deleter f) (λ w. [])
    (λ w. cond (swaps w no_deleter) (deleter_is (node_of r f) (deleter_word p)) nothing) (λ w. goes after) accepted
access_of p r (write_node f after) = access (f ∷ []) no_word (λ w. []) (λ w. nothing) (λ w. goes after) accepted
access_of p r (own_record after) = access [] no_word (λ w. []) (λ w. nothing) (λ w. goes after) accepted
access_of p r (hand_out answer after) = access [] no_word (λ w. []) (λ w. nothing) (λ w. goes after) (outcome_of 0 (some answer))

-- ---- "Refusal 8"

-- "place above 19, kind above 2, pending answer or result out of its range, pending none or fail at 18 or none at 19, or kind find at
-- places 0 to 2"
unfoldable pub in_range : Record → Bool
in_range r =
    let place = r.lost.place in
    let pending = r.lost.pending in
    leb place 19
    && leb r.kept.kind 2
    && leb pending 3
    && leb r.kept.result 2
    && not (eqb place 18 && (eqb pending no_answer || eqb pending fail_answer))
    && not (eqb place 19 && eqb pending no_answer)
    && not (leb place 2 && eqb r.kept.kind find_kind)

module _ (used : Node → Bool) where
  -- "a node field used by the row .. is not below the count; or a row using own finds none"; head is no field
  abbrev pub usable : Record → Field → Bool
  usable r f =
      elim f [
        | head ↦ true
        | pred ↦ used r.lost.pred
        | curr ↦ used r.lost.curr
        | succ ↦ used r.lost.succ
        | own ↦ not (eqb r.kept.node.0 no_node.0) && used r.kept.node
      ]

  abbrev pub all_usable : Record → List Field → Bool
  all_usable r [] = true
  all_usable r (f ∷ fs) = usable r f && all_usable r fs

  -- "or the target of a link read by the row, is not below the count"
  abbrev pub all_used : List Node → Bool
  all_used [] = true
  all_used (n ∷ ns) = used n && all_used ns

  -- "and at the end of a recovering search"
  abbrev pub own_usable : Record → Next → Bool
  own_usable r x = elim x [ goes s ↦ true | uses_own s ↦ usable r own ]

abbrev pub record_after : Next → Record
record_after x = elim x [ goes s ↦ s | uses_own s ↦ s ]

-- ---- a step

-- what a step comes to: whether it is accepted, what it writes, the record after it, what it hands out
pub record Turn : Type 0 where
  pub fits : Bool
  pub writes : Write
  pub after : Record
  pub says : Outcome

-- the turn of a record whose row has the access a and met the word w; of the memory it sees which nodes are in use
abbrev pub turn : (used : Node → Bool) (w : ℕ) → Access → Record → Turn
turn used w a r =
    record {
      fits = in_range r && (all_usable used r a.uses && all_used used (a.leads w) && own_usable used r (a.next w));
      writes = a.writes w;
      after = record_after (a.next w);
      says = a.says;
    }

-- the access of process p with record r
abbrev pub access_in : Memory → Process → Record → Access
access_in m p r = access_of p r (row m.addresses (place_of r.lost.place) r)

unfoldable pub turn_in : Memory → Process → Record → Turn
turn_in m p r = let a = access_in m p r in turn (in_use m) (word_met m r a.meets) a r
