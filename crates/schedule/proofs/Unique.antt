-- Any two outcomes that meet a public function's promise are equal: its answer, and of the writer the output. Rests on the promises' definitions.
use Prim.Native.Nat.{ℕ, ◌+◌, ◌≤◌}
use mathlib.Core.List.{List}
use mathlib.Core.Path.{◌≡◌, refl, ap, sym, ◌∙◌}
use native.Mathlib.Omega.{arith}
use lib.Dec.{leb}
use lib.ListN.{length, length-append}
use Rattle.std.specs.Prelude.{Option, Some, None, Result, Ok, Err}
use Rattle.record.specs.Event.{kind_of}
use Rattle.record.specs.declared.Event.{Event}
use Rattle.record.specs.declared.Refusal.{Refusal}
use Rattle.record.proofs.Refusals.{same_number}
use Rattle.table.specs.Events.{sizes_fit}
use Rattle.basics.proofs.Tests.{if}
use Rattle.basics.proofs.Unique.{answer_unique}
use Rattle.numbers.proofs.Sizes.{number_size}
use Rattle.schedule.specs.declared.Header.{Header}
use Rattle.schedule.specs.declared.Cursor.{Cursor}
use Rattle.schedule.specs.HeaderRead.{header_told}
use Rattle.schedule.specs.EventRead.{event_told}
use Rattle.schedule.specs.Encoding.{header_bytes, event_bytes}
use Rattle.schedule.specs.Cursors.{start, header_at, event_at}
use Rattle.schedule.specs.Writing.{Wrote, room, put_at, answered, written_header, written_event}

-- ---- the reader

pub start_unique : (r s : Cursor) → r ≡ start → s ≡ start → r ≡ s
start_unique r s e f = answer_unique e f

-- no two answers tell the same
pub same_header_told : (r s : Result (Header × Cursor) Refusal) → header_told r ≡ header_told s → r ≡ s
same_header_told (Ok (h, after)) (Ok (h', after')) e = cc
same_header_told (Err a) (Err b) e = ap Err (same_number a b cc)
same_header_told (Ok x) (Err b) e = cc
same_header_told (Err a) (Ok y) e = cc

pub same_event_told : (r s : Result (Option (Event × Cursor)) Refusal) → event_told r ≡ event_told s → r ≡ s
same_event_told (Ok (Some (x, after))) (Ok (Some (y, after'))) e = cc
same_event_told (Ok None) (Ok None) e = refl
same_event_told (Err a) (Err b) e = ap Err (same_number a b cc)
same_event_told (Ok (Some x)) (Ok None) e = cc
same_event_told (Ok None) (Ok (Some y)) e = cc
same_event_told (Ok (Some x)) (Err b) e = cc
same_event_told (Err a) (Ok (Some y)) e = cc
same_event_told (Ok None) (Err b) e = cc
same_event_told (Err a) (Ok None) e = cc

pub read_header_unique : (bytes : List ℕ) (cursor : Cursor) (r s : Result (Header × Cursor) Refusal) → header_told r ≡ header_at bytes cursor
    → header_told s ≡ header_at bytes cursor
    → r ≡ s
read_header_unique bytes cursor r s e f = same_header_told r s (e ∙ sym f)

pub read_event_unique : (bytes : List ℕ) (cursor : Cursor) (r s : Result (Option (Event × Cursor)) Refusal)
    → event_told r ≡ event_at bytes cursor
    → event_told s ≡ event_at bytes cursor
    → r ≡ s
read_event_unique bytes cursor r s e f = same_event_told r s (e ∙ sym f)

-- ---- the writer: no two answers stand for the same numbers, since a write takes a byte at least

-- without a refusal the next place is a later one
abbrev pub Later : ℕ → Wrote → Type 0
Later at w = w.refusal ≡ 0 → at + 1 ≤ w.at

tells_apart : (at : ℕ) (w : Wrote) → Later at w → (x y : List ℕ) (r s : Result ℕ Refusal) → answered x at r ≡ w
    → answered y at s ≡ w
    → (x ≡ y) × (r ≡ s)
tells_apart at w t x y (Ok m) (Ok n) e f =
    let g = e ∙ sym f in (λ i. (g i).output, ap Ok (λ i. (g i).at))
tells_apart at w t x y (Err a) (Err b) e f =
    let g = e ∙ sym f in (λ i. (g i).output, ap Err (same_number a b (λ i. (g i).refusal)))
tells_apart at w t x y (Ok m) (Err b) e f =
    let none : w.refusal ≡ 0 = λ i. (sym e i).refusal in
    let here : at ≡ w.at = λ i. (f i).at in
    absurd (omega (arith, t none))
tells_apart at w t x y (Err a) (Ok n) e f =
    let none : w.refusal ≡ 0 = λ i. (sym f i).refusal in
    let here : at ≡ w.at = λ i. (e i).at in
    absurd (omega (arith, t none))

put_later : (bytes out : List ℕ) (at : ℕ) → 1 ≤ length bytes → Later at (put_at bytes out at)
unfolding put_at
put_later bytes out at some =
    if (Later at) (leb (length bytes) (room out at)) (λ _ e. omega arith) (λ _ e. absurd (omega arith))

header_some : (h : Header) → 1 ≤ length (header_bytes h)
unfolding header_bytes
header_some h = simp length-append (omega (arith, number_size h.nodes))

event_some : (e : Event) → 1 ≤ length (event_bytes e)
unfolding event_bytes
event_some e = simp length-append (omega (arith, number_size (kind_of e.action)))

pub header_later : (h : Header) (out : List ℕ) (at : ℕ) → Later at (written_header h out at)
unfolding written_header
header_later h out at =
    if (Later at) (sizes_fit h.nodes h.processes) (λ _. put_later (header_bytes h) out at (header_some h)) (λ _ e. absurd (omega arith))

pub event_later : (e : Event) (out : List ℕ) (at : ℕ) → Later at (written_event e out at)
unfolding written_event
event_later e out at = put_later (event_bytes e) out at (event_some e)

module _ (out : List ℕ) (at : ℕ) (x y : List ℕ) (r s : Result ℕ Refusal) where
  pub write_header_unique : (h : Header) → answered x at r ≡ written_header h out at
      → answered y at s ≡ written_header h out at
      → (x ≡ y) × (r ≡ s)
  write_header_unique h = tells_apart at (written_header h out at) (header_later h out at) x y r s

  pub write_event_unique : (e : Event) → answered x at r ≡ written_event e out at
      → answered y at s ≡ written_event e out at
      → (x ≡ y) × (r ≡ s)
  write_event_unique e = tells_apart at (written_event e out at) (event_later e out at) x y r s
