-- The cursor reader hands out the file's events one after another, then its end or its refusal. Rests on ReadAll.
use mathlib.Core.Path.{◌≡◌, refl, sym, ap, ◌∙◌, subst}
use mathlib.Core.Bool.{Bool, true, false, cond}
use mathlib.Core.List.{List, [], ◌∷◌, ◌++◌}
use mathlib.Core.Option.{some}
use Prim.Native.Nat.{ℕ, zero, suc, ◌-◌, ◌≤◌, ◌<◌}
use native.Mathlib.Omega.{arith}
use lib.Dec.{ltb}
use lib.ListN.{length, drop, replicate}
use Rattle.record.specs.Record.{process}
use Rattle.record.specs.declared.Process.{Process}
use Rattle.record.specs.Event.{event_of}
use Rattle.record.specs.declared.Action.TheVariants.{Step}
use Rattle.record.specs.declared.Event.{Event}
use Rattle.basics.proofs.Tests.{if_lt}
use Rattle.numbers.specs.Numbers.{Read, got, stops}
use Rattle.numbers.specs.ReadAt.{place_in}
use Rattle.numbers.proofs.Follows.{Follows, left_at, left_follows, Refusal}
use Rattle.schedule.specs.declared.Header.{Header}
use Rattle.schedule.specs.declared.Cursor.{Cursor}
use Rattle.schedule.specs.HeaderRead.{HeaderRead}
use Rattle.schedule.specs.HeaderRead as header
use Rattle.schedule.specs.EventRead.{EventRead}
use Rattle.schedule.specs.EventRead as event
use Rattle.schedule.specs.Encoding.{Item, single, burst, events_of}
use Rattle.schedule.specs.Reading.{Reading, read_header, NextItem, end, item, refuses, next_item, File, file, bad_header, read_file, read_all}
use Rattle.schedule.specs.Cursors.{cursor_in, header_read, header_at, event_read, event_at}
use Rattle.files.specs.Comes.{comes, ends, HandedOut, handed, first_then, handed_out}
use Rattle.files.proofs.Follows.{CountFits, Next, next, TakesHeader, header_takes}
use Rattle.files.proofs.ReadAll.{read_end, read_item_lem, read_refused}

-- ---- the events to come

-- what one turn of the reader tells of the events to come: the next one and those after it, or that there are none
abbrev pub Answer : List ℕ → Cursor → EventRead → Type 0
Answer s c (event.Got e next) = (comes s c ≡ e ∷ comes s next) × (ends s c ≡ ends s next)
Answer s c event.End = (comes s c ≡ []) × (ends s c ≡ 0)
Answer s c (event.Refused n) = (comes s c ≡ []) × (ends s c ≡ n) × Refusal n

steps_left : (n : ℕ) (e : Event) → 0 < n → replicate n e ≡ e ∷ replicate (n - 1) e
steps_left zero e l = absurd (omega arith)
steps_left (suc n) e l =
    let one_less : n ≡ suc n - 1 = omega arith in
    ap (λ (k : ℕ). e ∷ replicate k e) one_less

-- in a burst
burst_answers : (s : List ℕ) (c : Cursor) → 0 < c.left
    → Answer s c (event.Got (event_of c.process Step) (cursor_in c.at c.process (c.left - 1)))
unfolding comes ends
burst_answers s c l =
    (ap (λ (r : List Event). r ++ events_of (read_all (drop c.at s)).items) (steps_left c.left (event_of c.process Step) l), refl)

-- between items
comes_items : (s : List ℕ) (c : Cursor) (x : Reading) → c.left ≤ 0 → read_all (drop c.at s) ≡ x
    → (comes s c ≡ events_of x.items) × (ends s c ≡ x.ended)
unfolding comes ends
comes_items s c x l e =
    let between : c.left ≡ 0 = omega arith in
    ((λ j. replicate (between j) (event_of c.process Step) ++ events_of (e j).items), ap (λ (r : Reading). r.ended) e)

-- at a cursor made of the bytes left
comes_left : (s left : List ℕ) (p : Process) (more : ℕ) → drop (place_in s left) s ≡ left
    → (comes s (cursor_in (place_in s left) p more) ≡ replicate more (event_of p Step) ++ events_of (read_all left).items)
    × (ends s (cursor_in (place_in s left) p more) ≡ (read_all left).ended)
unfolding comes ends
comes_left s left p more e =
    (ap (λ (r : List ℕ). replicate more (event_of p Step) ++ events_of (read_all r).items) e, ap (λ (r : List ℕ). (read_all r).ended) e)

item_answers : (s : List ℕ) (c : Cursor) (i : Item) (left : List ℕ) → c.left ≤ 0
    → next_item (drop c.at s) ≡ item i left → Follows left (drop c.at s) → CountFits i → Answer s c (event_read (place_in s) (item i left))
unfolding events_of
item_answers s c (single e) left l x f fits =
    let now = comes_items s c _ l (read_item_lem (drop c.at s) (single e) left x) in
    let then = comes_left s left (process 0) 0 (left_follows s c.at left f) in
    (now.0 ∙ ap (λ (r : List Event). e ∷ r) (sym then.0), now.1 ∙ sym then.1)
item_answers s c (burst p count) left l x f fits =
    let now = comes_items s c _ l (read_item_lem (drop c.at s) (burst p count) left x) in
    let then = comes_left s left p (count - 1) (left_follows s c.at left f) in (
      now.0 ∙ ap (λ (r : List Event). r ++ events_of (read_all left).items) (steps_left count (event_of p Step) fits.0)
          ∙ ap (λ (r : List Event). event_of p Step ∷ r) (sym then.0),
      now.1 ∙ sym then.1,
    )

-- the reader's next answer, at any cursor, whether a file stands behind it or not
pub event_tells : (s : List ℕ) (c : Cursor) → Answer s c (event_at s c)
unfolding event_at events_of
event_tells s c =
    if_lt (Answer s c) 0 c.left
    (λ l. burst_answers s c l)
    (λ l. by_next l (next_item (drop c.at s)) refl (next (drop c.at s)))
  where
    by_next : c.left ≤ 0 → (x : NextItem) → next_item (drop c.at s) ≡ x → Next (drop c.at s) x
        → Answer s c (event_read (place_in s) x)
    by_next l end e t = comes_items s c _ l (read_end (drop c.at s) e)
    by_next l (item i left) e t = item_answers s c i left l e t.0 t.1
    by_next l (refuses n) e t =
        let now = comes_items s c _ l (read_refused (drop c.at s) n e) in
        (now.0, now.1, t)

-- the same, of an answer that is known
pub got_tells : (s : List ℕ) (c : Cursor) (e : Event) (next : Cursor) → event_at s c ≡ event.Got e next
    → (comes s c ≡ e ∷ comes s next) × (ends s c ≡ ends s next)
got_tells s c e next is = subst (Answer s c) is (event_tells s c)

pub end_tells : (s : List ℕ) (c : Cursor) → event_at s c ≡ event.End → (comes s c ≡ []) × (ends s c ≡ 0)
end_tells s c is = subst (Answer s c) is (event_tells s c)

pub refused_tells : (s : List ℕ) (c : Cursor) (n : ℕ) → event_at s c ≡ event.Refused n
    → (comes s c ≡ []) × (ends s c ≡ n) × Refusal n
refused_tells s c n is = subst (Answer s c) is (event_tells s c)

-- ---- from the header on

-- what the header's answer tells of the file
abbrev pub HeaderAnswer : File → List ℕ → HeaderRead → Type 0
HeaderAnswer whole s (header.Got h c) =
    (x : Reading) × (whole ≡ file h x) × (comes s c ≡ events_of x.items) × (ends s c ≡ x.ended)
HeaderAnswer whole s (header.Refused n) = (whole ≡ bad_header n) × (4 ≤ n) × (n ≤ 7)

pub header_tells : (s : List ℕ) (c : Cursor) → c.at ≡ 0 → HeaderAnswer (read_file s) s (header_at s c)
unfolding read_file header_at read_all
header_tells s c e =
    subst (λ (r : List ℕ). HeaderAnswer (read_file s) s (header_read (place_in s) (cond (ltb 65536 (length s)) (stops 7) (read_header r))))
    (ap (λ (k : ℕ). drop k s) (sym e))
    (by_header (ltb 65536 (length s)) (read_header s) (header_takes s))
  where
    by_header : (long : Bool) (r : Read Header) → TakesHeader s r
        → HeaderAnswer (cond long (bad_header 7) (elim r [ got h left ↦ file h (read_all left) | stops n ↦ bad_header n ])) s
        (header_read (place_in s) (cond long (stops 7) r))
    by_header true r t = (refl, omega arith, omega arith)
    by_header false (got h left) t =
        let comes-now = comes_left s left (process 0) 0 (left_at s t.front left t.whole) in
        (read_all left, refl, comes-now.0, comes-now.1)
    by_header false (stops n) t = (refl, t.0, t.1)

-- ---- all of it, one answer after another

-- by an answer, where what comes after an event is handed out by `again`
abbrev answered : (again : Cursor → HandedOut) → EventRead → HandedOut
answered again x =
    elim x [
      | event.Got e next ↦ first_then e (again next)
      | event.End ↦ handed [] (some 0)
      | event.Refused n ↦ handed [] (some n)
    ]

-- more turns than events hand out every event to come, in order, and then the end or the refusal
pub hands_out_all : (turns : ℕ) (s : List ℕ) (c : Cursor) → length (comes s c) < turns
    → handed_out turns s c ≡ handed (comes s c) (some (ends s c))
unfolding handed_out
hands_out_all zero s c l = absurd (omega arith)
hands_out_all (suc turns) s c l = by_answer (λ next. hands_out_all turns s next) (event_at s c) (event_tells s c)
  where
    by_answer : ((next : Cursor) → length (comes s next) < turns → handed_out turns s next ≡ handed (comes s next) (some (ends s next)))
        → (x : EventRead) → Answer s c x → answered (handed_out turns s) x ≡ handed (comes s c) (some (ends s c))
    by_answer again (event.Got e next) t =
        let fewer : length (comes s c) ≡ suc (length (comes s next)) = ap length t.0 in
        ap (first_then e) (again next (omega arith)) ∙ sym (λ j. handed (t.0 j) (some (t.1 j)))
    by_answer again event.End t = sym (λ j. handed (t.0 j) (some (t.1 j)))
    by_answer again (event.Refused n) t = sym (λ j. handed (t.0 j) (some (t.1 j)))

-- a file's header and then all of its events, each burst as its steps, and then the file's end or its refusal
pub file_handed_out : (s : List ℕ) (h : Header) (x : Reading) (start : Cursor) → start.at ≡ 0 → read_file s ≡ file h x
    → (c : Cursor) × (header_at s start ≡ header.Got h c)
    × ((turns : ℕ) → length (events_of x.items) < turns → handed_out turns s c ≡ handed (events_of x.items) (some x.ended))
file_handed_out s h x start e is = by_header (header_at s start) (header_tells s start e)
  where
    by_header : (r : HeaderRead) → HeaderAnswer (read_file s) s r
        → (c : Cursor) × (r ≡ header.Got h c)
        × ((turns : ℕ) → length (events_of x.items) < turns → handed_out turns s c ≡ handed (events_of x.items) (some x.ended))
    by_header (header.Got found c) t =
        let whole : read_file s ≡ file found t.0 = t.1 in
        let same_header : found ≡ h = cc in
        let same : t.0 ≡ x = cc in
        let events : comes s c ≡ events_of x.items = t.2 ∙ ap (λ (y : Reading). events_of y.items) same in
        let ended : ends s c ≡ x.ended = t.3 ∙ ap (λ (y : Reading). y.ended) same in (
          c,
          ap (λ (k : Header). header.Got k c) same_header,
          λ turns l. hands_out_all turns s c (omega (arith, ap length events)) ∙ (λ j. handed (events j) (some (ended j))),
        )
    by_header (header.Refused n) t =
        let bad : read_file s ≡ bad_header n = t.0 in
        let z : ◌≡◌ {A = ℕ} 0 1 = cc in
        absurd (omega arith)
