-- A run printed on by one block: what is left is that block's, and a block with room that got nothing had nothing to get. What the writer took so far
-- and what is to come are the output. Rests on the blocks' laws.
use mathlib.Core.Path.{◌≡◌, sym, ap, subst}
use mathlib.Core.Logic.{⊎_elim}
use mathlib.Core.Bool.{Bool, true, false, false≢true}
use mathlib.Core.List.{List, [], ◌++◌}
use Prim.Native.Nat.{ℕ, ◌≤◌, ◌<◌}
use native.Mathlib.Omega.{arith}
use lib.ListN.{length, take}
use Rattle.std.proofs.Common.{Option, append_assoc}
use Rattle.std.specs.Io.KnownBytes.{Appends}
use Rattle.std.proofs.KnownBytes.{Appends-nil, Appends-trans}
use Rattle.table.specs.Words.{Memory}
use Rattle.run.specs.declared.Run.{Run}
use Rattle.run.specs.Filling.{Stop, stop}
use Rattle.run.specs.Pieces.{World, world, fills, begins}
use Rattle.blocks.specs.ToCome.{to_come}
use Rattle.blocks.proofs.Comes.{Numbered}
use Rattle.blocks.proofs.Begins.{begin_numbered}
use Rattle.blocks.proofs.Blocks.{fill_gives, falls_by, gets_on, falls}
use Rattle.streams.specs.Written.{Written}
use Rattle.printer.specs.Printing.{FilledTo, begun, onward, Printed}

module _ {file out : List ℕ} (m : Memory) {begins start : World} {run : Run} {count : ℕ} (w : World) (block : List ℕ) (begin : start ≡ begins)
    (filled : stop (world m run) out count ≡ fills file w block) (reached : FilledTo file start w) where
  on : FilledTo file begins w
  on = subst (λ (s : World). FilledTo file s w) begin reached

  -- a block that got nothing
  pub ended : {room : ℕ} → Numbered file w → count ≡ 0 → length block ≡ room → Printed file begins room m out true
  ended numbered none same =
      record {
        before = w;
        reached = on;
        given = block;
        run = run;
        count = count;
        last = filled;
        whole = λ e h.
            let n : count ≡ (fills file w block).count = ap (λ (x : Stop World). x.count) filled in
            let s : length (to_come file (world m run)) ≡ length (to_come file (fills file w block).state) =
            ap (λ (x : Stop World). length (to_come file x.state)) filled in
            ⊎_elim
            (λ (some : 0 < (fills file w block).count). absurd (omega arith))
            (λ (nothing : to_come file w ≡ []). omega (arith, falls_by file w numbered block, ap length nothing))
            (gets_on file w numbered block (omega arith));
      }

-- ---- what the writer took

-- where printing stands between two blocks: what the writer took, and then what is to come, is what was to come at the start
pub record PrintedSoFar (file : List ℕ) (start now : World) (before after : Option (List ℕ)) : Type 0 where
  pub numbered : Numbered file now
  pub reached : FilledTo file start now
  pub taken : List ℕ
  pub grows : Appends before after taken
  pub parts : taken ++ to_come file now ≡ to_come file start

-- nothing was written, of a run that was begun
pub printed_start : (file : List ℕ) (m : Memory) (w : World) (a : Option (List ℕ)) → w ≡ begins file m → PrintedSoFar file (begins file m) w a a
printed_start file m w a e = record {
  numbered = subst (Numbered file) (sym e) (begin_numbered file m);
  reached = begun (sym e);
  taken = [];
  grows = Appends-nil a;
  parts = ap (to_come file) e;
}

module _ {file : List ℕ} {start w : World} {a b : Option (List ℕ)} (so : PrintedSoFar file start w a b) (block : List ℕ) (x : Stop World)
    (filled_is : x ≡ fills file w block) where
  -- a block takes its bytes off the front of what is to come
  front : take x.count x.block ++ to_come file x.state ≡ to_come file w
  front = rw filled_is (fill_gives file w so.numbered block).whole_is

  module _ (c : Option (List ℕ)) {all : Bool} (written : Written b c (take x.count x.block) all) where
    taken_more : Appends a c (so.taken ++ written.taken)
    taken_more = Appends-trans a b c so.taken written.taken so.grows written.grows

    parts_more : (so.taken ++ written.taken) ++ (written.left ++ to_come file x.state) ≡ to_come file start
    parts_more = rw (append_assoc, ← append_assoc written.taken, written.parts, front) so.parts

    -- the block could not be written
    pub written_cut : Written a c (to_come file start) false
    written_cut = record {
      taken = so.taken ++ written.taken;
      left = written.left ++ to_come file x.state;
      parts = parts_more;
      grows = taken_more;
      whole = λ e. absurd (false≢true e);
    }

    -- it was, and had bytes
    pub written_on : all ≡ true → 0 < x.count → PrintedSoFar file start x.state a c
    written_on whole some = record {
      numbered = (falls file w block x filled_is so.numbered some).0;
      reached = onward block so.reached (sym (ap (λ (y : Stop World). y.state) filled_is));
      taken = so.taken ++ written.taken;
      grows = taken_more;
      parts = rw (written.whole whole) at parts_more;
    }

  -- it got nothing
  pub written_all : x.count ≡ 0 → 64 ≤ length block → Written a b (to_come file start) true
  written_all none room = record {
    taken = so.taken;
    left = to_come file w;
    parts = so.parts;
    grows = so.grows;
    whole = λ e.
        let n : x.count ≡ (fills file w block).count = ap (λ (y : Stop World). y.count) filled_is in
        ⊎_elim (λ (some : 0 < (fills file w block).count). absurd (omega arith)) (λ nothing. nothing) (gets_on file w so.numbered block room);
  }
