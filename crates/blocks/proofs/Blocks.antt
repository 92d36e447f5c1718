-- A block takes its bytes off the front of what is to come, and with room for a piece it gets on. Rests on Comes.
use Prim.Native.Nat.{ℕ, zero, suc, ◌+◌, ◌<◌, ◌≤◌}
use mathlib.Core.List.{List, [], ◌∷◌, ◌++◌}
use mathlib.Core.Path.{◌≡◌, refl, ap, sym, ◌∙◌, subst}
use mathlib.Core.Logic.{◌⊎◌, inl, inr, ⊎_elim}
use native.Mathlib.Omega.{arith}
use lib.ListN.{length, length-append}
use lib.Seq.{length-take-le}
use Rattle.run.specs.Filling.{Stop}
use Rattle.run.specs.Pieces.{World, next_piece, fills}
use Rattle.blocks.specs.ToCome.{to_come, filled, blocks_written}
use Rattle.blocks.proofs.Pieces.{Came, came, moves}
use Rattle.blocks.proofs.Comes.{Numbered, run_gives}

module _ (file : List ℕ) (w : World) (numbered : Numbered file w) (block : List ℕ) where
  pub fill_gives : Came World (Numbered file) (to_come file) (fills file w block) (to_come file w) 0
  unfolding fills
  fill_gives = came (next_piece file) (Numbered file) (to_come file) (run_gives file) (suc (length block)) w block 0 (omega arith) numbered

  -- by as many bytes as were filled
  pub falls_by : length (to_come file w) ≡ (fills file w block).count + length (to_come file (fills file w block).state)
  falls_by =
      sym (ap length fill_gives.whole_is)
      ∙ (length-append (filled (fills file w block)) (to_come file (fills file w block).state)
      ∙ ap (λ (k : ℕ). k + length (to_come file (fills file w block).state)) (length-take-le (fills file w block).count (fills file w block).block
      fill_gives.within))

  -- 64 bytes are room enough
  pub gets_on : 64 ≤ length block → (0 < (fills file w block).count) ⊎ (to_come file w ≡ [])
  unfolding fills
  gets_on room =
      ⊎_elim (λ l. inl l) (λ e. inr ((run_gives file).on_nothing w numbered e))
      (moves (next_piece file) (Numbered file) (to_come file) (run_gives file) (length block) w block 0 (omega arith) numbered (omega arith))

-- a block that got bytes leaves fewer to come; so a loop over blocks ends
pub falls : (file : List ℕ) (w : World) (block : List ℕ) (x : Stop World) → x ≡ fills file w block → Numbered file w → 0 < x.count
    → Numbered file x.state × (length (to_come file x.state) < length (to_come file w))
falls file w block x e numbered some =
    let y = fills file w block in
    let n : x.count ≡ y.count = (λ i. (e i).count) in
    let s : x.state ≡ y.state = (λ i. (e i).state) in (
      subst (Numbered file) (sym s) (fill_gives file w numbered block).still,
      omega (arith, falls_by file w numbered block, ap (λ (t : World). length (to_come file t)) s),
    )

no_bytes : (l : List ℕ) → length l ≤ 0 → [] ≡ l
no_bytes [] h = refl
no_bytes (b ∷ l) h = absurd (omega arith)

pub written_is : (turns : ℕ) (file : List ℕ) (blocks : ℕ → List ℕ) (w : World) → ((i : ℕ) → 64 ≤ length (blocks i)) → Numbered file w
    → length (to_come file w) ≤ turns → blocks_written turns file blocks w ≡ to_come file w
unfolding blocks_written
written_is zero file blocks w room numbered few = no_bytes (to_come file w) few
written_is (suc turns) file blocks w room numbered few =
    let x = fills file w (blocks 0) in
    let c = fill_gives file w numbered (blocks 0) in
    let fewer : length (to_come file x.state) ≤ turns =
    ⊎_elim (λ (l : 0 < x.count). omega (arith, falls_by file w numbered (blocks 0)))
    (λ (e : to_come file w ≡ []). omega (arith, falls_by file w numbered (blocks 0), ap length e)) (gets_on file w numbered (blocks 0) (room 0)) in
    ap (λ (l : List ℕ). filled x ++ l) (written_is turns file (λ i. blocks (suc i)) x.state (λ i. room (suc i)) c.still fewer)
    ∙ c.whole_is
