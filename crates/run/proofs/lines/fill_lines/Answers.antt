-- A line put goes on, and what follows the last event ends the lines. Rests on Fills and Steps.
use Rattle.std.proofs.Common.{◌≡◌, ◌∙◌, ap, refl, sym, arith, rules}
use Rattle.std.specs.Prelude.{Ok, Some}
use Rattle.words.specs.LentMemory.{memory_in}
use Rattle.words.proofs.LentTables.{same_still, same_later}
use Rattle.schedule.specs.EventRead.{event_told}
use Rattle.text.specs.Text.{line}
use Rattle.text.proofs.Lengths.{line_some}
use Rattle.run.specs.Pieces.{world, next_piece}
use Rattle.run.specs.PrivatePromises.{last_text}
use Rattle.run.proofs.Fills.{grows, grows_into, onward}
use Rattle.run.proofs.Steps.{from_start, acted_piece, NotGot, last_piece, last_some}
use Rattle.run.proofs.lines.fill_lines.Goals as goal
use Rattle.run.proofs.lines.fill_lines.Goals.{in_default-via-in-Ok+in_default, in_default-via-in_default}

pub loop-block-init : goal.loop-block-init
loop-block-init c = record {
  tables = same_still _;
  block_is = refl;
  within = omega arith;
  acting = c.requires;
  reached = from_start _ _ _;
}

pub returns-in_default : goal.returns-in_default
returns-in_default c =
    let l = c.loop-block in
    let x = c.read_event-read in
    let last : NotGot x.result = elim c.in_default.branch [
      | in_default-via-in-Ok+in_default w ↦ search rules
      | in_default-via-in_default w ↦ search rules
    ] in
    let m = c.put_last-m in
    let w = world (memory_in l.tables l.run.sizes) l.run in
    let g = grows (last_text l.run.number (event_told x.result)) l.block m.new.part l.at m.result l.invariant.within
    (last_some l.run.number x.result last) m.auto.part m.ensures.result_after in
    let step = last_piece c.args.file.now w x.result l.invariant.acting x.ensures last in
    let r = onward (next_piece c.args.file.now) w l.block l.at l.invariant.reached c.if-block-at-lt64.false step g in
    rw c.in_phase-run.ensures (record { same = l.invariant.tables; left_off = r; count_in_bounds = g.within; ready = tt })

pub loop-block-smaller : goal.loop-block-smaller
loop-block-smaller c =
    let l = c.loop-block in
    let o = c.act_in-said.result.outcome in
    let p = c.put_line-at in
    (grows_into (line l.run.number o) l.block p.new.part l.at p.result l.invariant.within (line_some l.run.number o) p.auto.part
    c.if-block-at-lt64.false p.ensures.result_after).less

pub loop-block-preserved : goal.loop-block-preserved
loop-block-preserved c =
    let l = c.loop-block in
    let file = c.args.file.now in
    let x = c.act_in-said in
    let o = x.result.outcome in
    let p = c.put_line-at in
    let m = memory_in l.tables l.run.sizes in
    let read : c.read_event-read.result ≡ Ok (Some (c.in-Ok-Some.event, c.in-Ok-Some.next)) = search rules in
    let step = acted_piece file m l.run c.in-Ok-Some.event c.in-Ok-Some.next (memory_in x.new.tables x.result.sizes) x.result.sizes x.new.row o
    c.number_after.result l.invariant.acting (sym c.read_event-read.ensures ∙ ap event_told read) x.ensures.left c.number_after.ensures in
    let g = grows_into (line l.run.number o) l.block p.new.part l.at p.result l.invariant.within (line_some l.run.number o) p.auto.part
    c.if-block-at-lt64.false p.ensures.result_after in
    record {
      tables = same_later _ _ _ l.invariant.tables x.ensures.same;
      block_is = g.same_length ∙ l.invariant.block_is;
      within = g.within;
      acting = l.invariant.acting;
      reached = onward (next_piece file) (world m l.run) l.block l.at l.invariant.reached c.if-block-at-lt64.false step g;
    }
