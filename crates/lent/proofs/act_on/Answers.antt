-- A refused event leaves the record as it was. Rests on the table's Events.
use Rattle.std.proofs.Common.{ℕ, ◌≡◌, ◌∙◌, ap, sym, rules}
use Rattle.record.specs.declared.Process.{Process}
use Rattle.record.specs.declared.Record.{Record}
use Rattle.record.specs.declared.Action.{Action}
use Rattle.record.specs.declared.Outcome.TheVariants.{Refused}
use Rattle.table.specs.Words.{Memory}
use Rattle.table.specs.Events.{Left, act}
use Rattle.table.proofs.Laws.Events.{refused_act_changes_nothing}
use Rattle.words.specs.LentMemory.{memory_in}
use Rattle.list.specs.Acting.{left}
use Rattle.list.specs.declared.Acted.{Acted}
use Rattle.lent.proofs.act_on.Goals as goal
use Rattle.lent.proofs.act_on.Goals.{in-Refused, in_default, then-not-matches, else-not-matches}

refused_keeps : (m : Memory) (p : Process) (r : Record) (x : Action) (m' : Memory) (a : Acted) (n : ℕ) → left m' a ≡ act m p r x
    → a.outcome ≡ Refused n → r ≡ a.advanced
refused_keeps m p r x m' a n is refused =
    sym (ap (λ (l : Left). l.advanced) (is ∙ refused_act_changes_nothing m p r x n (ap (λ (l : Left). l.outcome) (sym is) ∙ refused)))

pub returns-clause-left : goal.returns-clause-left
returns-clause-left c =
    let x = c.act-acted in
    let record_is : c.if-not-matches.record ≡ x.result.advanced =
    elim c.if-not-matches.branch [
      | then-not-matches w ↦ w.record-is
      | else-not-matches w ↦ w.record-is ∙ elim c.match-matches.branch [
        | in-Refused v ↦ refused_keeps _ _ _ _ (memory_in x.new.tables x.result.sizes) x.result _ x.ensures.left v.in-Refused.is
        | in_default v ↦ absurd (search rules)
      ]
    ] in
    rw (record_is, c.from.ensures) x.ensures.left
