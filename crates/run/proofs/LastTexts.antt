-- What is put after the last event: the line of a refusal that stops the run, and the first word of the last line. Rests on the text's Puts.
use mathlib.Core.List.{List}
use mathlib.Core.Path.{◌≡◌, refl, ◌∙◌}
use Prim.Native.Nat.{ℕ, ◌+◌, ◌-◌, ◌≤◌}
use native.Mathlib.Omega.{arith}
use lib.ListN.{length, take, drop}
use borrow.Rule.Slice.PartMut.{put_mid}
use Rattle.basics.proofs.Rest.{length_rest}
use Rattle.std.specs.Prelude.{Option, Some, None, Result, Ok, Err}
use Rattle.record.specs.declared.Event.{Event}
use Rattle.record.specs.declared.Refusal.{Refusal}
use Rattle.record.specs.Refusal.{number_of}
use Rattle.record.specs.declared.Outcome.TheVariants as outcome
use Rattle.schedule.specs.declared.Cursor.{Cursor}
use Rattle.schedule.specs.EventRead.{event_told}
use Rattle.text.specs.Text.{line, keys_word}
use Rattle.text.specs.Put.{Put, put, puts, put_into}
use Rattle.text.proofs.Puts.{put_then, puts_same, roomy}
use Rattle.run.specs.PrivatePromises.{stopped_text, last_text}

-- a line into a part with room, and the word into what is left of it
pub stopped_put : (number refusal : ℕ) (part mid last : List ℕ) (k m : ℕ) → put mid k ≡ put_into (line number (outcome.Refused refusal)) part
    → put last m ≡ put_into keys_word (take (length mid - k) (drop k mid)) → 64 ≤ length part → length mid ≡ length part → k ≤ 30
    → put (put_mid k (length mid - k) mid last) (k + m) ≡ puts (stopped_text number refusal) part
unfolding stopped_text
stopped_put number refusal part mid last k m first second room same few =
    put_then (line number (outcome.Refused refusal)) keys_word part mid last k m (first ∙ roomy _ part (omega arith))
    (second ∙ roomy keys_word _ (omega (arith, length_rest mid k)))

-- by what was read
module _ (number : ℕ) (r : Result (Option (Event × Cursor)) Refusal) (part : List ℕ) where
  abbrev told : Result (Option (Event × Cursor)) Refusal → List ℕ
  told x = last_text number (event_told x)

  pub last_got : (e : Event × Cursor) → r ≡ Ok (Some e) → put part 0 ≡ puts (last_text number (event_told r)) part
  unfolding last_text
  last_got e is = puts_same told _ _ part _ is refl

  pub last_end : (x : Put) → r ≡ Ok None → x ≡ put_into keys_word part → 64 ≤ length part → x ≡ puts (last_text number (event_told r)) part
  unfolding last_text
  last_end x is e room = puts_same told _ _ part x is (e ∙ roomy keys_word part (omega arith))

  pub last_refused : (refusal : Refusal) (x : Put) → r ≡ Err refusal → x ≡ puts (stopped_text number (number_of refusal)) part
      → x ≡ puts (last_text number (event_told r)) part
  unfolding last_text
  last_refused refusal x is e = puts_same told _ _ part x is e
