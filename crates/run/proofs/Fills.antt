-- Laws of filling a block piece after piece, for anything that has pieces. Rests on Filling.
use Prim.Native.Nat.{ℕ, zero, suc, ◌+◌, ◌-◌, ◌<◌, ◌≤◌}
use mathlib.Core.List.{List, ◌++◌}
use mathlib.Core.Bool.{Bool, true, false, cond}
use mathlib.Core.Path.{◌≡◌, refl, ap, ◌∙◌}
use native.Mathlib.Omega.{arith}
use borrow.Author.Tests.{lt-ltb, le-ltb}
use borrow.Rule.Slice.PartMut.{put_mid, same_len_mid}
use lib.Dec.{ltb}
use lib.ListN.{length, take, drop, length-append}
use Rattle.schedule.specs.Writing.{laid}
use Rattle.text.specs.Put.{put, puts, put_into}
use Rattle.basics.proofs.Rest.{rest_is, rest_back, length_rest}
use Rattle.text.proofs.Puts.{roomy}
use Rattle.run.specs.Filling.{NextPiece, piece, nothing, Stop, stop, fill_from}
use Rattle.run.specs.PrivatePromises.{Reaches}

-- ---- what a writer leaves in the rest of a block

-- bytes laid from where the block is filled to, up to where it is then filled to
pub record Grows (bytes block block' : List ℕ) (at at' : ℕ) : Type 0 where
  pub laid_is : block' ≡ laid bytes block at
  pub at_is : at' ≡ at + length bytes
  pub same_length : length block' ≡ length block
  pub within : at' ≤ length block'
  pub less : length block' - at' < length block - at

module _ (bytes block part : List ℕ) (at count : ℕ) (inside : at ≤ length block) (some : 1 ≤ length bytes)
    (kept : length part ≡ length (take (length block - at) (drop at block))) where
  pub grows : put part count ≡ puts bytes (take (length block - at) (drop at block))
      → Grows bytes block (put_mid at (length block - at) block part) at (at + count)
  grows e =
      let f : put part count ≡ puts bytes (drop at block) = rw rest_is at e in
      let part_is : part ≡ bytes ++ drop (length bytes) (drop at block) = (λ i. (f i).part) in
      let count_is : count ≡ length bytes = (λ i. (f i).count) in
      let all : length part ≡ length bytes + length (drop (length bytes) (drop at block)) = ap length part_is ∙ simp length-append in
      let same = same_len_mid at (length block - at) block part kept in
      record {
        laid_is = rest_back block part at ∙ ap (λ (l : List ℕ). take at block ++ l) part_is;
        at_is = ap (λ (k : ℕ). at + k) count_is;
        same_length = same;
        within = omega (arith, length_rest block at);
        less = omega (arith, length_rest block at);
      }

  -- a writer that asks for room has it
  pub grows_into : 64 ≤ length block - at → put part count ≡ put_into bytes (take (length block - at) (drop at block))
      → Grows bytes block (put_mid at (length block - at) block part) at (at + count)
  grows_into room e = grows (e ∙ roomy bytes _ (omega (arith, length_rest block at)))

-- ---- a turn of filling

-- filling on from here comes to the whole
abbrev pub FillsTo : {S : Type 0} → (S → NextPiece S) → S → (block : List ℕ) → (at : ℕ) → (whole : Stop S) → Type 0
FillsTo {S} next s block at whole = Reaches (Stop S) (λ turns. fill_from next turns s block at) whole (length block - at)

-- two stops by a test that stops either way
same_either : {A : Type 0} (b : Bool) (x : A) → x ≡ cond b x x
same_either true x = refl
same_either false x = refl

module _ {S : Type 0} (next : S → NextPiece S) (s : S) (block : List ℕ) (at : ℕ) where
  -- too little room
  pub full : (turns : ℕ) → length block - at < 64 → stop s block at ≡ fill_from next turns s block at
  unfolding fill_from
  full zero r = refl
  full (suc turns) r = rw (lt-ltb (length block - at) 64 r)

  -- nothing more to put
  pub at_end : (turns : ℕ) → next s ≡ nothing → stop s block at ≡ fill_from next turns s block at
  unfolding fill_from
  at_end zero e = refl
  at_end (suc turns) e = rw e (same_either (ltb (length block - at) 64) (stop s block at))

  -- one piece put
  pub onward : {whole : Stop S} {bytes block' : List ℕ} {at' : ℕ} {t : S} → FillsTo next s block at whole → 64 ≤ length block - at
      → next s ≡ piece bytes t → Grows bytes block block' at at' → FillsTo next t block' at' whole
  unfolding fill_from
  onward {whole} {bytes} {block'} {at'} {t} r room e g = by r.turns r.enough r.same
    where
      by : (turns : ℕ) → length block - at < turns → fill_from next turns s block at ≡ whole → FillsTo next t block' at' whole
      by zero enough same = absurd (omega arith)
      by (suc turns) enough same = record {
        turns = turns;
        enough = omega (arith, g.less);
        same = rw (g.laid_is, g.at_is) (rw (le-ltb (length block - at) 64 room, e) at same);
      }
