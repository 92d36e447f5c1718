-- Bytes laid at the start of what was lent, piece by piece, and what the lender then has. Rests on BytesNeeded.
use Prim.Native.Nat.{ℕ, zero, suc, ◌+◌, ◌-◌, ◌<◌, ◌≤◌, min}
use mathlib.Core.Bool.{Bool, true, false, cond}
use mathlib.Core.List.{List, [], ◌∷◌, ◌++◌, append-nil}
use mathlib.Core.Path.{◌≡◌, refl, ap, sym, ◌∙◌}
use native.Mathlib.Omega.{arith}
use borrow.Rule.Slice.PartMut.{put_mid}
use borrow.Author.Tests.{le-leb, lt-leb}
use lib.Dec.{leb}
use lib.ListN.{length, take, drop, length-drop, take-append-drop}
use lib.Seq.{take-length, length-take-le}
use Rattle.std.specs.Prelude.{Some, None, Result, Ok, Err}
use Rattle.record.specs.declared.Event.{Event}
use Rattle.record.specs.declared.Refusal.{Refusal}
use Rattle.basics.proofs.Rest.{rest_is, rest_back}
use Rattle.table.specs.Events.{sizes_fit}
use Rattle.numbers.specs.Numbers.{number_bytes}
use Rattle.schedule.specs.declared.Header.{Header}
use Rattle.schedule.specs.declared.writing.Numbers.{Numbers}
use Rattle.schedule.specs.Encoding.{header_bytes, event_bytes}
use Rattle.schedule.specs.Writing.{Wrote, room, laid, wrote, answered, put_at, written_header, written_event}
use Rattle.schedule.specs.Inside.Laying.{tail_bytes, bytes_of, fitted, put_in_rest}
use Rattle.schedule.proofs.BytesNeeded.{tail_of_two, tail_of_three}

-- ---- bytes laid as far as there is room

pub fitted_whole : (bytes part : List ℕ) → length bytes ≤ length part → fitted bytes part ≡ bytes ++ drop (length bytes) part
unfolding fitted
fitted_whole [] part h = refl
fitted_whole (b ∷ bytes) [] h = absurd (omega arith)
fitted_whole (b ∷ bytes) (old ∷ part) h = ap (λ (l : List ℕ). b ∷ l) (fitted_whole bytes part (omega arith))

pub fitted_full : (bytes part : List ℕ) → length part ≤ length bytes → fitted bytes part ≡ take (length part) bytes
unfolding fitted
fitted_full [] [] h = refl
fitted_full [] (old ∷ part) h = absurd (omega arith)
fitted_full (b ∷ bytes) [] h = refl
fitted_full (b ∷ bytes) (old ∷ part) h = ap (λ (l : List ℕ). b ∷ l) (fitted_full bytes part (omega arith))

fitted_append : (a b part : List ℕ) (at : ℕ) → at ≡ min (length a) (length part)
    → fitted (a ++ b) part ≡ take at (fitted a part) ++ fitted b (drop at (fitted a part))
unfolding fitted
fitted_append [] b part zero n = refl
fitted_append [] b part (suc at) n = absurd (omega arith)
fitted_append (x ∷ a) b [] zero n = sym (fitted_full b [] (omega arith))
fitted_append (x ∷ a) b [] (suc at) n = absurd (omega arith)
fitted_append (x ∷ a) b (old ∷ part) zero n = absurd (omega arith)
fitted_append (x ∷ a) b (old ∷ part) (suc at) n = ap (λ (l : List ℕ). x ∷ l) (fitted_append a b part at (omega arith))

-- ---- a part `&mut out[at..]` lent, and come back

-- bytes laid, then others in the rest
pub fitted_then : (a b out mid new : List ℕ) (at : ℕ) → mid ≡ fitted a out → at ≡ min (length a) (length out)
    → new ≡ fitted b (take (length mid - at) (drop at mid))
    → put_mid at (length mid - at) mid new ≡ fitted (a ++ b) out
fitted_then a b out mid new at e n f =
    rest_back mid new at ∙ rw (f, rest_is mid at, e) (sym (fitted_append a b out at n))

-- the second number, and the third where there is one
module _ (x : Numbers) (out mid : List ℕ) (e : mid ≡ fitted (number_bytes x.second) out) where
  pub two_laid : x.third ≡ None → mid ≡ fitted (tail_bytes x) out
  two_laid is = rw (tail_of_two x is) e

  pub three_laid : (third : ℕ) → x.third ≡ Some third → (new : List ℕ) (at : ℕ) → at ≡ min (length (number_bytes x.second)) (length out)
      → new ≡ fitted (number_bytes third) (take (length mid - at) (drop at mid))
      → put_mid at (length mid - at) mid new ≡ fitted (tail_bytes x) out
  three_laid third is new at n f =
      rw (tail_of_three x third is) (fitted_then (number_bytes x.second) (number_bytes third) out mid new at e n f)

-- ---- all the bytes in the rest of the output, or none

-- what the event writer has counted, and the numbers put in as many bytes
module _ (bytes rest : List ℕ) (at needed left : ℕ) (is-needed : needed ≡ length bytes) (is-left : left ≡ min (length rest) (65536 - at)) where
  pub none_put : left < needed → wrote rest at 9 ≡ put_in_rest bytes rest at
  unfolding put_in_rest
  none_put h = rw (lt-leb (length bytes) (min (length rest) (65536 - at)) (omega arith))

  pub all_put : (new : List ℕ) → needed ≤ left → new ≡ fitted bytes (take needed rest) → wrote (new ++ drop needed rest) (at + needed) 0 ≡ put_in_rest bytes rest at
  unfolding put_in_rest
  all_put new fits is-new =
      let lent : length (take (length bytes) rest) ≡ length bytes = length-take-le (length bytes) rest (omega arith) in
      rw (
        le-leb (length bytes) (min (length rest) (65536 - at)) (omega arith),
        is-new,
        is-needed,
        fitted_full bytes (take (length bytes) rest) (omega arith),
        lent,
        take-length,
      )

-- ---- in the output

-- what was written in the rest of the output, with the front before it
abbrev with_front : List ℕ → Wrote → Wrote
with_front front w = wrote (front ++ w.output) w.at w.refusal

answered_with_front : (front new : List ℕ) (at : ℕ) (r : Result ℕ Refusal) → answered (front ++ new) at r ≡ with_front front (answered new at r)
answered_with_front front new at (Ok next) = refl
answered_with_front front new at (Err refusal) = refl

put_with_front : (fits : Bool) (bytes out : List ℕ) (at : ℕ)
    → with_front (take at out) (cond fits (wrote (laid bytes (drop at out) 0) (at + length bytes) 0) (wrote (drop at out) at 9))
    ≡ cond fits (wrote (laid bytes out at) (at + length bytes) 0) (wrote out at 9)
put_with_front true bytes out at = refl
put_with_front false bytes out at = ap (λ (l : List ℕ). wrote l at 9) (take-append-drop at out)

pub put_in_rest_lem : (bytes out new : List ℕ) (at : ℕ) (r : Result ℕ Refusal)
    → answered new at r ≡ put_in_rest bytes (take (length out - at) (drop at out)) at
    → answered (put_mid at (length out - at) out new) at r ≡ put_at bytes out at
unfolding put_at put_in_rest
put_in_rest_lem bytes out new at r e =
    let same_room : min (length (drop at out)) (65536 - at) ≡ room out at = omega (arith, length-drop at out) in
    rw (rest_back out new at, answered_with_front (take at out) new at r, e, rest_is out at)
    (put_with_front (leb (length bytes) (min (length (drop at out)) (65536 - at))) bytes out at ∙ rw same_room)

pub put_past : (bytes out : List ℕ) (at : ℕ) → 1 ≤ length bytes → length out < at → wrote out at 9 ≡ put_at bytes out at
unfolding put_at
put_past bytes out at some h = rw (lt-leb (length bytes) (room out at) (omega arith))

pub event_put : (e : Event) (out : List ℕ) (at : ℕ) (x : Numbers) → bytes_of x ≡ event_bytes e
    → (w : Wrote) → w ≡ put_at (bytes_of x) out at → w ≡ written_event e out at
unfolding written_event
event_put e out at x is w is-put = rw is at is-put

module _ (h : Header) (out : List ℕ) (at : ℕ) (fit : Bool) (is : fit ≡ sizes_fit h.nodes h.processes) where
  pub header_refused : fit ≡ false → wrote out at 7 ≡ written_header h out at
  unfolding written_header
  header_refused e = rw (← is, e)

  pub header_put : fit ≡ true → (w : Wrote)
      → w ≡ put_at (bytes_of (record { first = h.nodes; second = h.processes; third = None })) out at → w ≡ written_header h out at
  unfolding written_header header_bytes
  header_put e w is-put = rw (← is, e) (is-put ∙ rw (append-nil (number_bytes h.processes)))
