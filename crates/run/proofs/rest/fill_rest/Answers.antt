-- Filling stops as filling from the start does, and goes on by the piece put. Rests on Fills and Steps.
use Rattle.std.proofs.Common.{◌∙◌, ◌-◌, [], length, sym}
use Rattle.table.specs.Words.{fresh_memory}
use Rattle.run.specs.Pieces.{next_piece}
use Rattle.run.proofs.Fills.{grows_into, onward}
use Rattle.run.proofs.Steps.{stops_here, still_comes}
use Rattle.run.proofs.rest.fill_rest.Goals as goal

pub returns-then-stops-clause-filled_on : goal.returns-then-stops-clause-filled_on
returns-then-stops-clause-filled_on c = λ file m turns h.
    let l = c.loop-chain in
    let r = l.invariant.reached file m turns h in
    rw c.in_phase-run.ensures (stops_here file _ l.block l.at r.turns (sym c.stops.ensures ∙ c.if-stops.true) ∙ r.same)

-- the piece put, and the room there was for it; what of it does not depend on a file and a memory is said of none and of any
pub loop-chain-smaller : goal.loop-chain-smaller
loop-chain-smaller c =
    let l = c.loop-chain in
    let n = c.put_next-next in
    let goes = still_comes (length l.block - l.at) l.phase (sym c.stops.ensures ∙ c.if-stops.false) l.invariant.ready in
    let p = n.ensures.puts_next [] (fresh_memory 2 1) c.args.run.cursor c.args.run.number c.args.run.row in
    (grows_into p.bytes l.block n.new.part l.at n.result.count l.invariant.within p.some n.auto.part goes.0 p.placed).less

pub loop-chain-preserved : goal.loop-chain-preserved
loop-chain-preserved c =
    let l = c.loop-chain in
    let n = c.put_next-next in
    let run = c.args.run in
    let goes = still_comes (length l.block - l.at) l.phase (sym c.stops.ensures ∙ c.if-stops.false) l.invariant.ready in
    let p = n.ensures.puts_next [] (fresh_memory 2 1) run.cursor run.number run.row in
    let g = grows_into p.bytes l.block n.new.part l.at n.result.count l.invariant.within p.some n.auto.part goes.0 p.placed in
    record {
      block_is = g.same_length ∙ l.invariant.block_is;
      within = g.within;
      ready = p.ready _;
      reached = λ file m turns h.
          let p = n.ensures.puts_next file m run.cursor run.number run.row in
          onward (next_piece file) _ l.block l.at (l.invariant.reached file m turns h) goes.0 p.comes
          (grows_into p.bytes l.block n.new.part l.at n.result.count l.invariant.within p.some n.auto.part goes.0 p.placed);
    }
