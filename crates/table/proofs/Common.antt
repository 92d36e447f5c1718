-- The names that the proofs of demand 3 share, passed on: the kit's, the record's and the table's. Rests on nothing of its own.
pub use mathlib.Core.Path.{◌≡◌, refl, sym, ◌∙◌, ap, subst}
pub use mathlib.Core.Logic.{◌≢◌, ◌⊎◌, inl, inr, ◌↔◌}
pub use mathlib.Core.Bool.{Bool, true, false, cond, not, ◌&&◌, ◌||◌, false≢true, true≢false}
pub use mathlib.Core.Option.{Option, none, some}
pub use mathlib.Core.List.{List, [], ◌∷◌}
pub use Prim.Native.Nat.{ℕ, zero, suc, ◌+◌, ◌/◌, ◌%◌, ◌≤◌, ◌<◌}
pub use native.Mathlib.Omega.{arith}
pub use native.Mathlib.Decide.{ℕ_discrete, dec_le, dec_lt, le_ind}
pub use native.Mathlib.Nat.{zero-add}
pub use lib.Dec.{leb, eqb}
pub use lib.ListN.{length, get_or, set}
pub use lib.Seq.{get_or-set_same, get_or-set_other}
pub use borrow.Author.Tests.{ltb-true, leb-true, eqb-true, eqb-false, lt-ltb, le-ltb, eq-eqb, ne_eqb}
pub use Rattle.record.specs.Record.{node, process, address, idle_status, running_status, down_status, insert_kind, delete_kind, find_kind, no_answer, false_answer}
pub use Rattle.record.specs.Record.{true_answer, fail_answer, record_of}
pub use Rattle.record.specs.Record.{fresh_record, ◌▸◌, ◌with◌, curr≔, succ≔, to, requested, went_down, restarted}
pub use Rattle.record.specs.Event.{kind_of, address_of}
pub use Rattle.record.specs.declared.Node.{Node}
pub use Rattle.record.specs.declared.Process.{Process}
pub use Rattle.record.specs.declared.Address.{Address}
pub use Rattle.record.specs.declared.Lost.{Lost}
pub use Rattle.record.specs.declared.Kept.{Kept}
pub use Rattle.record.specs.declared.Record.{Record}
pub use Rattle.record.specs.declared.Event.{Event}
pub use Rattle.record.specs.declared.Action.{Action}
pub use Rattle.record.specs.declared.Action.TheVariants.{Insert, Delete, Find, Step}
pub use Rattle.record.specs.declared.Outcome.{Outcome}
pub use Rattle.record.specs.declared.Outcome.TheVariants.{Refused, Accepted, Answered}
pub use Rattle.table.specs.Words.{Memory, link_word, target_of, is_marked, in_use, address_limit, above_all, below, equal, Write, nothing, link_is, deleter_is}
pub use Rattle.table.specs.Words.{next_node, none_left}
unfoldable pub use Rattle.table.specs.Words.{address_at, link_at, deleter_at, rank, written, given_out}
pub use Rattle.table.specs.Places.{Place, p0, p1, p2, p3, p4, p5, p6, p7, p8, p9, p10, p11, p12, p13, p14, p15, p16, p17, p18, p19, off, Next}
unfoldable pub use Rattle.table.specs.Places.{place_of, row, search_ends}
pub use Rattle.table.specs.Steps.{access_of, record_after}
unfoldable pub use Rattle.table.specs.Steps.{word_met, turn_in, in_range}
pub use Rattle.table.specs.Events.{Left, leaving, status_needed, State, state_of, Leaves, leaves_in}
unfoldable pub use Rattle.table.specs.Events.{does, tables_fit, record_in, stored, event}
pub use Rattle.table.specs.Chain.{Struck, Held}
pub use Rattle.table.specs.History.{Answer, Operation, Set, History}
pub use Rattle.table.specs.Demand3.{Quiet, answer_at, first_of, history, AddressesFit, IsHeld}
unfoldable pub use Rattle.table.specs.Demand3.{at, out, answer}
