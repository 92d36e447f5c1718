-- Where writing stands: so many bytes were taken from the front. It goes on by what the next write takes, and ends where a write takes none or fails.
-- Rests on std's words for what a writer holds.
use Rattle.std.proofs.Common.{◌≡◌, ℕ, ◌+◌, ◌-◌, false, List, ◌++◌, length, take, drop, Option, sym, ap, ◌∙◌, subst, arith, length-drop, take-append-drop}
use Rattle.std.proofs.Math.Seq.{take-add, take_all}
use Rattle.std.proofs.KnownBytes.{Appends-kept, Appends-trans}
use Rattle.std.proofs.lemmas.Bool.{false≢true}
use Rattle.std.specs.Io.KnownBytes.{Appends, Keeps}
use Rattle.streams.specs.Written.{Written}

module _ (a b c : Option (List ℕ)) (bytes : List ℕ) (taken : ℕ) (before : Appends a b (take taken bytes)) where
  -- the bytes that a write is given
  abbrev rest : List ℕ
  rest = take (length bytes - taken) (drop taken bytes)

  pub taken_on : (next : ℕ) → Appends b c (take next rest) → Appends a c (take (taken + next) bytes)
  taken_on next more =
      let whole : rest ≡ drop taken bytes = take_all (length bytes - taken) (drop taken bytes) (omega (arith, length-drop taken bytes)) in
      let joined : take taken bytes ++ take next rest ≡ take (taken + next) bytes = ap (λ l. take taken bytes ++ take next l) whole ∙ sym (take-add taken next bytes) in
      subst (Appends a c) joined (Appends-trans a b c (take taken bytes) (take next rest) before more)

  -- so many were taken in all, and none after them
  ended_at : (n : ℕ) → Appends a c (take n bytes) → Written a c bytes false
  ended_at n grows = record {
    taken = take n bytes;
    left = drop n bytes;
    parts = take-append-drop n bytes;
    grows = grows;
    whole = λ e. absurd (false≢true e);
  }

  -- the next write took so many, and none is written after it
  pub stopped : (next : ℕ) → Appends b c (take next rest) → Written a c bytes false
  stopped next more = ended_at (taken + next) (taken_on next more)

  -- it failed
  pub failed : Keeps b c → Written a c bytes false
  failed kept = ended_at taken (Appends-kept a b c (take taken bytes) before kept)
