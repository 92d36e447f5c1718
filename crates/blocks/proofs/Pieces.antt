-- Filling a block gives the bytes of its pieces, for anything that has pieces. Rests on the run's filling.
use Prim.Native.Nat.{ℕ, zero, suc, ◌+◌, ◌-◌, ◌<◌, ◌≤◌}
use mathlib.Core.List.{List, [], ◌++◌, append_assoc}
use mathlib.Core.Path.{◌≡◌, refl, ap, sym, ◌∙◌}
use mathlib.Core.Bool.{Bool, true, false, cond}
use mathlib.Core.Logic.{◌⊎◌, inl, inr}
use native.Mathlib.Omega.{arith}
use borrow.Author.Tests.{le-ltb}
use lib.ListN.{length, take, drop, length-append}
use lib.Seq.{take_at, length-take-le}
use lib.Dec.{ltb}
use Rattle.schedule.specs.Writing.{laid}
use Rattle.run.specs.Filling.{NextPiece, piece, nothing, Stop, stop, fill_from}

laid_length : (block : List ℕ) (at : ℕ) (bytes : List ℕ) → at ≤ length block → at + length bytes ≤ length (laid bytes block at)
laid_length block at bytes h = simp (length-append, length-take-le at block h) (omega arith)

laid_start : (block : List ℕ) (at : ℕ) (bytes : List ℕ) → at ≤ length block
    → take (at + length bytes) (laid bytes block at) ≡ take at block ++ bytes
laid_start block at bytes h =
    ap (take (at + length bytes)) (sym (append_assoc (take at block) bytes (drop (length bytes) (drop at block))))
    ∙ take_at (take at block ++ bytes) (drop (length bytes) (drop at block)) (at + length bytes) (simp (length-append, length-take-le at block h))

-- what the next piece does to what is to come
pub record Gives (S : Type 0) (next : S → NextPiece S) (P : S → Type 0) (rest : S → List ℕ) : Type 0 where
  pub on_piece : (s : S) (bytes : List ℕ) (t : S) → P s → next s ≡ piece bytes t → P t × (rest s ≡ bytes ++ rest t) × (1 ≤ length bytes)
  pub on_nothing : (s : S) → P s → next s ≡ nothing → rest s ≡ []

-- where filling stopped: what is filled and what is then to come is what was to come
pub record Came (S : Type 0) (P : S → Type 0) (rest : S → List ℕ) (x : Stop S) (whole : List ℕ) (at : ℕ) : Type 0 where
  pub whole_is : take x.count x.block ++ rest x.state ≡ whole
  pub within : x.count ≤ length x.block
  pub grown : at ≤ x.count
  pub still : P x.state

module _ {S : Type 0} (next : S → NextPiece S) (P : S → Type 0) (rest : S → List ℕ) (g : Gives S next P rest) where
  -- one turn, by what comes next
  abbrev turn : (turns : ℕ) → S → (block : List ℕ) → (at : ℕ) → Bool → NextPiece S → Stop S
  turn turns s block at small x =
      cond small (stop s block at)
      (elim x [
        | piece bytes t ↦ fill_from next turns t (laid bytes block at) (at + length bytes)
        | nothing ↦ stop s block at
      ])

  by_next : (turns : ℕ) (s : S) (block : List ℕ) (at : ℕ) → at ≤ length block → P s
      → ((t : S) (b : List ℕ) (n : ℕ) → n ≤ length b → P t → Came S P rest (fill_from next turns t b n) (take n b ++ rest t) n)
      → (small : Bool) (x : NextPiece S) → next s ≡ x → Came S P rest (turn turns s block at small x) (take at block ++ rest s) at
  by_next turns s block at h p again true x e = record { whole_is = refl; within = h; grown = omega arith; still = p }
  by_next turns s block at h p again false (piece bytes t) e =
      let q = g.on_piece s bytes t p e in
      let c = again t (laid bytes block at) (at + length bytes) (laid_length block at bytes h) q.0 in
      record {
        whole_is = c.whole_is ∙ rw (laid_start block at bytes h, append_assoc) (ap (λ (l : List ℕ). take at block ++ l) (sym q.1));
        within = c.within;
        grown = omega (arith, c.grown);
        still = c.still;
      }
  by_next turns s block at h p again false nothing e = record { whole_is = refl; within = h; grown = omega arith; still = p }

  pub came : (turns : ℕ) (s : S) (block : List ℕ) (at : ℕ) → at ≤ length block → P s
      → Came S P rest (fill_from next turns s block at) (take at block ++ rest s) at
  unfolding fill_from
  came zero s block at h p = record { whole_is = refl; within = h; grown = omega arith; still = p }
  came (suc turns) s block at h p = by_next turns s block at h p (came turns) (ltb (length block - at) 64) (next s) refl

  with_room : (turns : ℕ) (s : S) (block : List ℕ) (at : ℕ) → at ≤ length block → P s
      → (x : NextPiece S) → next s ≡ x → (at < (turn turns s block at false x).count) ⊎ (next s ≡ nothing)
  with_room turns s block at h p (piece bytes t) e =
      let q = g.on_piece s bytes t p e in
      inl (omega (arith, q.2, (came turns t (laid bytes block at) (at + length bytes) (laid_length block at bytes h) q.0).grown))
  with_room turns s block at h p nothing e = inr e

  -- a block with room for a piece gets one, where there is one
  pub moves : (turns : ℕ) (s : S) (block : List ℕ) (at : ℕ) → at ≤ length block → P s → 64 ≤ length block - at
      → (at < (fill_from next (suc turns) s block at).count) ⊎ (next s ≡ nothing)
  unfolding fill_from
  moves turns s block at h p r = rw (le-ltb (length block - at) 64 r) (with_room turns s block at h p (next s) refl)
