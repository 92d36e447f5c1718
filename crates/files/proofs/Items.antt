-- Items as bytes: what is written is read, what is read was written, and what stands where an item is refused. Rests on Numbers.
use mathlib.Core.Path.{◌≡◌, refl, sym, ap, ◌∙◌}
use mathlib.Core.Logic.{◌≢◌, ◌⊎◌, inl, inr}
use mathlib.Core.Bool.{cond, ◌&&◌}
use mathlib.Core.List.{List, [], ◌∷◌, ◌++◌, append_assoc, cons≢nil}
use Prim.Native.Nat.{ℕ, zero, suc, ◌≤◌, ◌<◌}
use native.Mathlib.Omega.{arith}
use borrow.Author.Tests.{lt-ltb, le-ltb, le-leb, lt-leb}
use lib.Dec.{leb}
use Rattle.record.specs.Record.{process, address}
use Rattle.record.specs.Event.{address_of, event_of}
use Rattle.record.specs.declared.Process.{Process}
use Rattle.record.specs.declared.Action.{Action}
use Rattle.record.specs.declared.Action.TheVariants.{Insert, Delete, Find, Step, Stop, Restart}
use Rattle.basics.proofs.Tests.{if_lt, if_le, if_within}
use Rattle.numbers.specs.Numbers.{number_bytes, Read, got, stops, ◌then◌, read_number}
use Rattle.numbers.proofs.Follows.{Tells, after}
use Rattle.schedule.specs.Encoding.{address_bytes, event_bytes, Item, single, burst, item_bytes}
use Rattle.schedule.specs.Reading.{read_item, read_rest, read_burst, request_of_kind, move_of_kind, NextItem, end, item, refuses, standing, next_item}
use Rattle.files.specs.Fits.{Bytes, Fits32, AddressFits, ItemFits}
use Rattle.files.specs.Refusals.{Missing, Faulty, AtNumber, at_kind, at_process, at_last}
use Rattle.files.specs.Refusals.{Refused, ends_inside, kind_above_6, count_outside, bad_number}
use Rattle.files.proofs.Numbers.{number_read_lem, number_tells, after_number, missing_stops, faulty_stops}

-- three parts in a row, and what stands after them
pub append_inside : (a b c rest : List ℕ) → (a ++ (b ++ c)) ++ rest ≡ a ++ (b ++ (c ++ rest))
append_inside a b c rest = simp append_assoc

-- ---- what is written is read

-- "An event is kind, process, then .."
kind_read : (kind : ℕ) (rest : List ℕ) → kind ≤ 6
    → read_item (number_bytes kind ++ rest) ≡ (read_number rest then λ p s. read_rest kind (process p) s)
unfolding read_item ◌then◌
kind_read kind rest l = rw (number_read_lem kind rest (omega arith), le-ltb 6 kind l)

opening_read : (kind p : ℕ) (rest : List ℕ) → kind ≤ 6 → Fits32 p
    → read_item (number_bytes kind ++ (number_bytes p ++ rest)) ≡ read_rest kind (process p) rest
unfolding ◌then◌
opening_read kind p rest l u = kind_read kind (number_bytes p ++ rest) l ∙ rw (number_read_lem p rest u)

request_read : (kind p a : ℕ) (rest : List ℕ) → kind ≤ 2 → Fits32 p → Fits32 a
    → read_item ((number_bytes kind ++ (number_bytes p ++ number_bytes a)) ++ rest) ≡ got (single (event_of (process p) (request_of_kind kind (address a)))) rest
unfolding read_rest ◌then◌
request_read kind p a rest l u v =
    rw (append_inside, opening_read kind p (number_bytes a ++ rest) (omega arith) u, le-leb kind 2 l, number_read_lem a rest v)

move_read : (kind p : ℕ) (rest : List ℕ) → 2 < kind → kind ≤ 5 → Fits32 p
    → read_item ((number_bytes kind ++ (number_bytes p ++ [])) ++ rest) ≡ got (single (event_of (process p) (move_of_kind kind))) rest
unfolding read_rest
move_read kind p rest l m u =
    rw (append_inside (number_bytes kind) (number_bytes p) [] rest, opening_read kind p rest (omega arith) u, lt-leb kind 2 l, le-leb kind 5 m)

burst_read : (p count : ℕ) (rest : List ℕ) → Fits32 p → 1 ≤ count → count ≤ 255
    → read_item ((number_bytes 6 ++ (number_bytes p ++ number_bytes count)) ++ rest) ≡ got (burst (process p) count) rest
unfolding read_rest read_burst ◌then◌
burst_read p count rest u l m =
    rw (append_inside, opening_read 6 p (number_bytes count ++ rest) (omega arith) u)
    (rw (number_read_lem count rest (omega arith), le-leb 1 count l, le-leb count 255 m))

-- an event written is read
event_read_lem : (p : Process) (x : Action) (rest : List ℕ) → Fits32 p.0 → AddressFits (address_of x)
    → read_item (event_bytes (event_of p x) ++ rest) ≡ got (single (event_of p x)) rest
unfolding event_bytes address_bytes
event_read_lem p (Insert a) rest u v = request_read 0 p.0 a.0 rest (omega arith) u v
event_read_lem p (Delete a) rest u v = request_read 1 p.0 a.0 rest (omega arith) u v
event_read_lem p (Find a) rest u v = request_read 2 p.0 a.0 rest (omega arith) u v
event_read_lem p Step rest u v = move_read 3 p.0 rest (omega arith) (omega arith) u
event_read_lem p Stop rest u v = move_read 4 p.0 rest (omega arith) (omega arith) u
event_read_lem p Restart rest u v = move_read 5 p.0 rest (omega arith) (omega arith) u

-- an item written is read, with what stands after it left
pub item_read : (i : Item) (rest : List ℕ) → ItemFits i → read_item (item_bytes i ++ rest) ≡ got i rest
unfolding item_bytes
item_read (single e) rest fits = event_read_lem e.process e.action rest fits.0 fits.1
item_read (burst p count) rest fits = burst_read p.0 count rest fits.0 (omega (arith, fits.1)) (omega (arith, fits.2))

-- ---- what is read was written, and what stands where none can be read

-- the numbers of an item, and that it fits
abbrev IsItem : Item → List ℕ → Type 0
IsItem i numbers = (item_bytes i ≡ numbers) × ItemFits i

request_is : (kind p a : ℕ) → kind ≤ 2 → Fits32 p → Fits32 a
    → IsItem (single (event_of (process p) (request_of_kind kind (address a)))) (number_bytes kind ++ (number_bytes p ++ number_bytes a))
unfolding item_bytes event_bytes address_bytes
request_is zero p a l u v = (refl, (u, v))
request_is (suc zero) p a l u v = (refl, (u, v))
request_is (suc (suc zero)) p a l u v = (refl, (u, v))
request_is (suc (suc (suc kind))) p a l u v = absurd (omega arith)

move_is : (kind p : ℕ) → 2 < kind → kind ≤ 5 → Fits32 p
    → IsItem (single (event_of (process p) (move_of_kind kind))) (number_bytes kind ++ (number_bytes p ++ []))
unfolding item_bytes event_bytes address_bytes
move_is zero p l m u = absurd (omega arith)
move_is (suc zero) p l m u = absurd (omega arith)
move_is (suc (suc zero)) p l m u = absurd (omega arith)
move_is (suc (suc (suc zero))) p l m u = (refl, (u, tt))
move_is (suc (suc (suc (suc zero)))) p l m u = (refl, (u, tt))
move_is (suc (suc (suc (suc (suc zero))))) p l m u = (refl, (u, tt))
move_is (suc (suc (suc (suc (suc (suc kind)))))) p l m u = absurd (omega arith)

-- an item read was written there, and fits; where none can be read, the bytes are refused with that number
abbrev pub ItemTells : List ℕ → Read Item → Type 0
ItemTells s = Tells (λ i left. (s ≡ item_bytes i ++ left) × ItemFits i) (λ n. s ≢ [] → Refused s n)

-- an item that stands at the front
stands : (i : Item) (a b c left s : List ℕ) → s ≡ a ++ (b ++ (c ++ left)) → IsItem i (a ++ (b ++ c)) → (s ≡ item_bytes i ++ left) × ItemFits i
stands i a b c left s e is = (e ∙ sym (append_inside a b c left) ∙ ap (λ (r : List ℕ). r ++ left) (sym is.0), is.1)

-- a number that can't be read
number_refused : (s t : List ℕ) (n : ℕ) → ((P : List ℕ → Type 0) → P t → AtNumber P s)
    → ((n ≡ 4) × Missing t) ⊎ ((n ≡ 6) × Faulty t) → s ≢ [] → Refused s n
number_refused s t n there (inl x) some = ends_inside x.0 some (there Missing x.1)
number_refused s t n there (inr x) some = bad_number x.0 (there Faulty x.1)

module _ (kind p : ℕ) (t s : List ℕ) (fits : Fits32 p) (opens : s ≡ number_bytes kind ++ (number_bytes p ++ t)) (bytes : Bytes t) where
  -- the last number of an event that has three
  last_tells : (f : ℕ → List ℕ → Read Item) → (kind ≤ 2) ⊎ (kind ≡ 6)
      → ((n : ℕ) (left : List ℕ) → s ≡ number_bytes kind ++ (number_bytes p ++ (number_bytes n ++ left)) → Fits32 n → ItemTells s (f n left))
      → ItemTells s (read_number t then f)
  last_tells f three go =
      after (ItemTells s) (read_number t) f (number_tells t bytes)
      (λ n left x. go n left (opens ∙ ap (λ (r : List ℕ). number_bytes kind ++ (number_bytes p ++ r)) x.0) x.1)
      (λ n x. number_refused s t n (λ P there. at_last kind p t three fits opens there) x)

  burst_tells : (count : ℕ) (left : List ℕ) → Fits32 count → s ≡ number_bytes 6 ++ (number_bytes p ++ (number_bytes count ++ left))
      → ItemTells s (cond (leb 1 count && leb count 255) (got (burst (process p) count) left) (stops 5))
  unfolding item_bytes
  burst_tells count left u e =
      if_within (ItemTells s) 1 count 255
      (λ low high. stands (burst (process p) count) (number_bytes 6) (number_bytes p) (number_bytes count) left s e (refl, (fits, low, high)))
      (λ out some. count_outside refl p count left fits u (elim out [ inl x ↦ inl (omega arith) | inr x ↦ inr x ]) e)

  rest_tells : kind ≤ 6 → ItemTells s (read_rest kind (process p) t)
  unfolding read_rest read_burst
  rest_tells l =
      if_le (ItemTells s) kind 2
      (λ m. last_tells _ (inl m)
      (λ a left e u. stands _ (number_bytes kind) (number_bytes p) (number_bytes a) left s e (request_is kind p a m fits u)))
      (λ m. if_le (ItemTells s) kind 5
      (λ k. stands _ (number_bytes kind) (number_bytes p) [] t s opens (move_is kind p m k fits))
      (λ k. last_tells _ (inr (omega arith)) (λ count left e u.
      let six : kind ≡ 6 = omega arith in
      burst_tells count left u (e ∙ ap (λ (k : ℕ). number_bytes k ++ (number_bytes p ++ (number_bytes count ++ left))) six))))

pub item_tells : (s : List ℕ) → Bytes s → ItemTells s (read_item s)
unfolding read_item
item_tells s bytes =
    after (ItemTells s) (read_number s) _ (number_tells s bytes)
    (λ kind t x. if_lt (ItemTells s) 6 kind
    (λ l some. kind_above_6 refl kind t l x.1 x.0)
    (λ l.
    let rest : Bytes t = after_number s kind t x.0 bytes in
    after (ItemTells s) (read_number t) _ (number_tells t rest)
    (λ p u y. rest_tells kind p u s y.1 (x.0 ∙ ap (λ (r : List ℕ). number_bytes kind ++ r) y.0) (after_number t p u y.0 rest) l)
    (λ n y. number_refused s t n (λ P there. at_process kind t l x.0 there) y)))
    (λ n x. number_refused s s n (λ P there. at_kind there) x)

-- ---- where bytes are refused, no item is read

last_stops : (kind p : ℕ) (t : List ℕ) (n : ℕ) → (kind ≤ 2) ⊎ (kind ≡ 6) → read_number t ≡ stops n → read_rest kind (process p) t ≡ stops n
unfolding read_rest read_burst ◌then◌
last_stops kind p t n (inl l) stop = rw (le-leb kind 2 l, stop)
last_stops kind p t n (inr six) stop = rw (six, stop)

-- where one of an event's numbers can't be read
at_number_stops : (P : List ℕ → Type 0) (n : ℕ) → ((t : List ℕ) → P t → read_number t ≡ stops n) → (s : List ℕ) → AtNumber P s
    → read_item s ≡ stops n
unfolding read_item ◌then◌
at_number_stops P n stop s (at_kind there) = rw (stop s there)
at_number_stops P n stop s (at_process kind rest l e there) = ap read_item e ∙ kind_read kind rest l ∙ rw (stop rest there)
at_number_stops P n stop s (at_last kind p rest three u e there) =
    let small : kind ≤ 6 = elim three [ inl x ↦ omega arith | inr x ↦ omega arith ] in
    ap read_item e ∙ opening_read kind p rest small u ∙ last_stops kind p rest n three (stop rest there)

refused_stops : (s : List ℕ) (n : ℕ) → Refused s n → read_item s ≡ stops n
unfolding read_item read_rest read_burst ◌then◌
refused_stops s n (ends_inside is some there) = at_number_stops Missing 4 missing_stops s there ∙ ap stops (sym is)
refused_stops s n (bad_number is there) = at_number_stops Faulty 6 faulty_stops s there ∙ ap stops (sym is)
refused_stops s n (kind_above_6 is kind rest l u e) =
    ap read_item e ∙ rw (number_read_lem kind rest u, lt-ltb 6 kind l, is)
refused_stops s n (count_outside is p count rest u v out e) =
    ap read_item e
    ∙ opening_read 6 p (number_bytes count ++ rest) (omega arith) u
    ∙ rw (number_read_lem count rest v)
    (if_within (λ (r : Read Item). r ≡ stops n) 1 count 255
    (λ low high. absurd (elim out [ inl x ↦ omega arith | inr x ↦ omega arith ]))
    (λ _. ap stops (sym is)))

-- ---- so what stands next is known from the bytes alone

-- nothing, an item, or what is refused
abbrev pub NextTells : List ℕ → NextItem → Type 0
NextTells s end = s ≡ []
NextTells s (item i left) = (s ≡ item_bytes i ++ left) × ItemFits i
NextTells s (refuses n) = Refused s n

pub next_tells : (s : List ℕ) → Bytes s → NextTells s (next_item s)
unfolding next_item
next_tells [] bytes = refl
next_tells (b ∷ s) bytes = by_item (read_item (b ∷ s)) (item_tells (b ∷ s) bytes)
  where
    by_item : (r : Read Item) → ItemTells (b ∷ s) r → NextTells (b ∷ s) (standing r)
    by_item (got i left) t = t
    by_item (stops n) t = t (λ e. cons≢nil e)

pub next_nothing : next_item [] ≡ end
unfolding next_item
next_nothing = refl

-- of no bytes nothing is read, for want of a byte
nothing_stops : read_item [] ≡ stops 4
unfolding read_item read_number ◌then◌
nothing_stops = refl

next_got : (s : List ℕ) (i : Item) (left : List ℕ) → read_item s ≡ got i left → next_item s ≡ item i left
unfolding next_item
next_got [] i left e = let z : ◌≡◌ {A = ℕ} 0 1 = cc nothing_stops in absurd (omega arith)
next_got (b ∷ s) i left e = ap standing e

pub next_item_lem : (i : Item) (left : List ℕ) → ItemFits i → next_item (item_bytes i ++ left) ≡ item i left
next_item_lem i left fits = next_got (item_bytes i ++ left) i left (item_read i left fits)

nothing_refused : (n : ℕ) → Refused [] n → n ≡ 4
nothing_refused n r = let e = refused_stops [] n r in cc nothing_stops

pub next_refused : (s : List ℕ) (n : ℕ) → Refused s n → next_item s ≡ refuses n
unfolding next_item
next_refused [] n (ends_inside is full there) = absurd (full refl)
next_refused [] n (bad_number is there) = absurd (omega (arith, nothing_refused n (bad_number is there)))
next_refused [] n (kind_above_6 is kind rest l u e) = absurd (omega (arith, nothing_refused n (kind_above_6 is kind rest l u e)))
next_refused [] n (count_outside is p count rest u v out e) =
    absurd (omega (arith, nothing_refused n (count_outside is p count rest u v out e)))
next_refused (b ∷ s) n r = ap standing (refused_stops (b ∷ s) n r)
