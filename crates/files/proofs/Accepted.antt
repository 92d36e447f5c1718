-- Which files are accepted, what is handed out of them, and what a refused one holds. Rests on Files and Comes.
use mathlib.Core.Path.{◌≡◌, refl, sym, ap, ◌∙◌, subst}
use mathlib.Core.Logic.{◌≢◌, inl, inr, ◌↔◌}
use mathlib.Core.List.{List, [], ◌++◌, append-nil}
use mathlib.Core.Option.{some}
use Prim.Native.Nat.{ℕ, suc}
use native.Mathlib.Omega.{arith}
use lib.ListN.{length}
use Rattle.numbers.specs.Numbers.{got}
use Rattle.schedule.specs.declared.Header.{Header}
use Rattle.schedule.specs.declared.Cursor.{Cursor}
use Rattle.schedule.specs.HeaderRead.{Got}
use Rattle.schedule.specs.Encoding.{Item, events_of, item_bytes, items_bytes, header_bytes, file_bytes}
use Rattle.schedule.specs.Reading.{Reading, reading, read_header, item, refuses, next_item, bad_header, file, read_file, read_all}
use Rattle.schedule.specs.Cursors.{header_at}
use Rattle.files.specs.Comes.{handed, handed_out}
use Rattle.files.specs.Fits.{Each, Bytes, HeaderFits, ItemFits}
use Rattle.files.specs.Refusals.{Refused, HeaderRefused}
use Rattle.files.specs.Stands.{Holds, Encodes}
use Rattle.files.proofs.Items.{NextTells, next_tells, next_item_lem, next_refused}
use Rattle.files.proofs.Comes.{file_handed_out}
use Rattle.files.proofs.Headers.{header_read_lem}
use Rattle.files.proofs.Files.{items_read_whole, reads_as, says_read}

-- ---- accepted files

-- an item stands next exactly if its bytes do, and it fits
pub item_exactly : (s : List ℕ) (i : Item) (left : List ℕ) → Bytes s → (next_item s ≡ item i left) ↔ ((s ≡ item_bytes i ++ left) × ItemFits i)
item_exactly s i left bytes =
    ((λ e. subst (NextTells s) e (next_tells s bytes)), λ x. ap next_item x.0 ∙ next_item_lem i left x.1)

-- with nothing left
to_its_end : (h : Header) (items : List Item) → file_bytes h items ≡ header_bytes h ++ (items_bytes items ++ [])
unfolding file_bytes
to_its_end h items = ap (λ (r : List ℕ). header_bytes h ++ r) (sym (append-nil (items_bytes items)))

pub encoding_read : (s : List ℕ) (h : Header) (items : List Item) → Encodes s h items → read_file s ≡ file h (reading items [] 0)
encoding_read s h items t =
    says_read s (file h (reading items [] 0))
    (record {
      short = t.short;
      header_fits = t.header_fits;
      items_fit = t.items_fit;
      bytes = t.bytes ∙ to_its_end h items;
      ends = inl (refl, refl);
    })

-- a file is accepted exactly if it encodes a header within the limits and items that fit, and is not too long
pub accepted_file : (s : List ℕ) (h : Header) (items : List Item) → Bytes s
    → (read_file s ≡ file h (reading items [] 0)) ↔ Encodes s h items
accepted_file s h items bytes = (encodes, encoding_read s h items)
  where
    encodes : read_file s ≡ file h (reading items [] 0) → Encodes s h items
    encodes e =
        let t : Holds s h (reading items [] 0) = (reads_as s (file h (reading items [] 0)) bytes).0 e in
        record {
          short = t.short;
          header_fits = t.header_fits;
          items_fit = t.items_fit;
          bytes = t.bytes ∙ sym (to_its_end h items);
        }

-- and what is handed out of it is its items, each burst as its steps, and then its end
pub accepted_hands_out : (s : List ℕ) (h : Header) (items : List Item) (start : Cursor) → start.at ≡ 0 → Encodes s h items
    → (c : Cursor) × (header_at s start ≡ Got h c) × (handed_out (suc (length (events_of items))) s c ≡ handed (events_of items) (some 0))
accepted_hands_out s h items start e t =
    let x = file_handed_out s h (reading items [] 0) start e (encoding_read s h items t) in
    (x.0, x.1, x.2 (suc (length (events_of items))) (omega arith))

-- a file has one header and one list of items, its length apart
pub encoding_unique : (h h' : Header) (items items' : List Item)
    → HeaderFits h → HeaderFits h' → Each ItemFits items → Each ItemFits items'
    → file_bytes h items ≡ file_bytes h' items' → (h ≡ h') × (items ≡ items')
unfolding file_bytes
encoding_unique h h' items items' f f' g g' e =
    let headers : got h (items_bytes items) ≡ got h' (items_bytes items') =
    sym (header_read_lem h (items_bytes items) f) ∙ ap read_header e ∙ header_read_lem h' (items_bytes items') f' in
    let same : items_bytes items ≡ items_bytes items' = cc in
    (cc, ap (λ (x : Reading). x.items) (sym (items_read_whole items g) ∙ ap read_all same ∙ items_read_whole items' g'))

-- ---- refused files

-- "earlier events stand": the items before a refusal encode exactly the bytes before it, and what stands there is refused with its number
pub refused_file : (s : List ℕ) (h : Header) (items : List Item) (left : List ℕ) (n : ℕ) → Bytes s → n ≢ 0
    → read_file s ≡ file h (reading items left n)
    → (s ≡ header_bytes h ++ (items_bytes items ++ left)) × Refused left n × (next_item left ≡ refuses n)
refused_file s h items left n bytes nonzero e =
    let t : Holds s h (reading items left n) = (reads_as s (file h (reading items left n)) bytes).0 e in
    elim t.ends [ inl x ↦ absurd (nonzero x.1) | inr x ↦ (t.bytes, x, next_refused left n x) ]

-- bytes are refused with a number exactly if they are such as 01 gives that number for
pub refuses_exactly : (left : List ℕ) (n : ℕ) → Bytes left → (next_item left ≡ refuses n) ↔ Refused left n
refuses_exactly left n bytes = ((λ e. subst (NextTells left) e (next_tells left bytes)), next_refused left n)

-- a header is refused exactly for what 01 says
pub header_refused_exactly : (s : List ℕ) (n : ℕ) → Bytes s → (read_file s ≡ bad_header n) ↔ HeaderRefused s n
header_refused_exactly s n bytes = reads_as s (bad_header n) bytes
