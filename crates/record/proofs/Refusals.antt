-- Two refusals of one number are the same. Rests on the numbers of the refusals.
use mathlib.Core.Path.{◌≡◌, refl, ap, sym, ◌∙◌}
use Rattle.std.specs.Prelude.{ℕ, cond, eqb}
use Rattle.record.specs.declared.Refusal.{Refusal}
use Rattle.record.specs.declared.Refusal.TheVariants.{NoSuchProcess, WrongStatus, NoNodeLeft, CutShort, BadEvent, BadNumber, BadSizes, Broken, NoRoom}
use Rattle.record.specs.Refusal.{number_of}

-- the refusal of a number, and the last of any other
numbered : ℕ → Refusal
numbered n =
    cond (eqb n 1) NoSuchProcess (cond (eqb n 2) WrongStatus (cond (eqb n 3) NoNodeLeft (cond (eqb n 4) CutShort
    (cond (eqb n 5) BadEvent (cond (eqb n 6) BadNumber (cond (eqb n 7) BadSizes (cond (eqb n 8) Broken NoRoom)))))))

numbered_back : (r : Refusal) → numbered (number_of r) ≡ r
unfolding numbered
numbered_back NoSuchProcess = refl
numbered_back WrongStatus = refl
numbered_back NoNodeLeft = refl
numbered_back CutShort = refl
numbered_back BadEvent = refl
numbered_back BadNumber = refl
numbered_back BadSizes = refl
numbered_back Broken = refl
numbered_back NoRoom = refl

pub same_number : (a b : Refusal) → number_of a ≡ number_of b → a ≡ b
same_number a b same = sym (numbered_back a) ∙ ap numbered same ∙ numbered_back b
