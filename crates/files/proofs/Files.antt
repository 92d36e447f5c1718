-- What a file reads as is known from its bytes alone, and it reads as that alone. Rests on Headers, Items and ReadAll.
use mathlib.Core.Path.{◌≡◌, refl, sym, ap, ◌∙◌, subst}
use mathlib.Core.Logic.{inl, inr, ◌↔◌}
use mathlib.Core.List.{List, [], ◌∷◌, ◌++◌, append_assoc, append-nil}
use Prim.Native.Nat.{ℕ, ◌≤◌}
use borrow.Author.Tests.{lt-ltb, le-ltb}
use lib.ListN.{length}
use Rattle.basics.proofs.Tests.{if_lt}
use Rattle.numbers.specs.Numbers.{Read, got, stops}
use Rattle.schedule.specs.declared.Header.{Header}
use Rattle.schedule.specs.Encoding.{Item, item_bytes, items_bytes, header_bytes}
use Rattle.schedule.specs.Reading.{Reading, reading, before, read_header, next_item, File, bad_header, file, read_file, read_all}
use Rattle.files.specs.Fits.{Each, Bytes, HeaderFits, ItemFits}
use Rattle.files.specs.Refusals.{Missing, Faulty, HeaderRefused, file_too_long, header_ends, header_number, sizes_outside}
use Rattle.files.specs.Stands.{Ends, Says}
use Rattle.files.proofs.ReadAll.{read_end, read_item_lem, read_refused, item_by_item}
use Rattle.files.proofs.Numbers.{bytes_after, missing_stops, faulty_stops}
use Rattle.files.proofs.Items.{NextTells, next_tells, next_item_lem, next_refused}
use Rattle.files.proofs.Headers.{HeaderTells, header_tells, header_read_lem, at_size_stops, sizes_stop}

-- ---- what stands after a header

-- items that fit are read, and then what stands after them
items_read : (items : List Item) (left : List ℕ) (ended : ℕ) → Each ItemFits items → read_all left ≡ reading [] left ended
    → read_all (items_bytes items ++ left) ≡ reading items left ended
unfolding items_bytes
items_read [] left ended fit e = e
items_read (i ∷ items) left ended fit e =
    ap read_all (append_assoc (item_bytes i) (items_bytes items) left)
    ∙ read_item_lem (item_bytes i ++ (items_bytes items ++ left)) i (items_bytes items ++ left) (next_item_lem i (items_bytes items ++ left) fit.0)
    ∙ ap (before i) (items_read items left ended fit.1 e)

-- the end, or what is refused
ends_read : (left : List ℕ) (ended : ℕ) → Ends left ended → read_all left ≡ reading [] left ended
unfolding next_item
ends_read left ended (inl x) = read_end left (ap next_item x.0) ∙ ap (reading [] left) (sym x.1)
ends_read left ended (inr x) = read_refused left ended (next_refused left ended x)

-- items that fit, and no more
pub items_read_whole : (items : List Item) → Each ItemFits items → read_all (items_bytes items) ≡ reading items [] 0
items_read_whole items fit =
    ap read_all (sym (append-nil (items_bytes items))) ∙ items_read items [] 0 fit (ends_read [] 0 (inl (refl, refl)))

-- and what is read stood there
record Stood (s : List ℕ) (x : Reading) : Type 0 where
  items_fit : Each ItemFits x.items
  bytes : s ≡ items_bytes x.items ++ x.left
  ends : Ends x.left x.ended

stood_item : (s : List ℕ) (i : Item) (left : List ℕ) (x : Reading) → s ≡ item_bytes i ++ left → ItemFits i → Stood left x → Stood s (before i x)
unfolding items_bytes
stood_item s i left x e fits t =
    record {
      items_fit = (fits, t.items_fit);
      bytes = e ∙ ap (λ (r : List ℕ). item_bytes i ++ r) t.bytes ∙ sym (append_assoc (item_bytes i) (items_bytes x.items) x.left);
      ends = t.ends;
    }

items_stood : (s : List ℕ) → Bytes s → Stood s (read_all s)
unfolding items_bytes
items_stood =
    item_by_item (λ s x. Bytes s → Stood s x)
    (λ s e bytes. record { items_fit = tt; bytes = refl; ends = inl (subst (NextTells s) e (next_tells s bytes), refl) })
    (λ s i left e _ stood bytes.
    let t = subst (NextTells s) e (next_tells s bytes) in
    stood_item s i left (read_all left) t.0 t.1 (stood (bytes_after (item_bytes i) left (subst Bytes t.0 bytes))))
    (λ s n e bytes. record { items_fit = tt; bytes = refl; ends = inr (subst (NextTells s) e (next_tells s bytes)) })

-- ---- a whole file

-- by its header
abbrev file_of : Read Header → File
file_of r = elim r [ got h left ↦ file h (read_all left) | stops n ↦ bad_header n ]

-- what is read stands there
pub read_says : (s : List ℕ) → Bytes s → Says s (read_file s)
unfolding read_file read_all
read_says s bytes =
    if_lt (Says s) 65536 (length s) (λ long. file_too_long refl long) (λ short. by_header short (read_header s) (header_tells s bytes))
  where
    by_header : length s ≤ 65536 → (r : Read Header) → HeaderTells s r → Says s (file_of r)
    by_header short (got h left) t =
        let stood : Stood left (read_all left) = items_stood left (bytes_after (header_bytes h) left (subst Bytes t.0 bytes)) in
        record {
          short = short;
          header_fits = t.1;
          items_fit = stood.items_fit;
          bytes = t.0 ∙ ap (λ (r : List ℕ). header_bytes h ++ r) stood.bytes;
          ends = stood.ends;
        }
    by_header short (stops n) t = t short

-- and what stands there is read
read_by_header : (s : List ℕ) (r : Read Header) → length s ≤ 65536 → read_header s ≡ r → read_file s ≡ file_of r
unfolding read_file read_all
read_by_header s r short e = rw (le-ltb 65536 (length s) short) (ap file_of e)

refused_read : (s : List ℕ) (n : ℕ) → HeaderRefused s n → read_file s ≡ bad_header n
unfolding read_file
refused_read s n (file_too_long is long) = rw (lt-ltb 65536 (length s) long, is)
refused_read s n (header_ends is short there) =
    read_by_header s (stops 4) short (at_size_stops Missing 4 missing_stops s there) ∙ ap bad_header (sym is)
refused_read s n (header_number is short there) =
    read_by_header s (stops 6) short (at_size_stops Faulty 6 faulty_stops s there) ∙ ap bad_header (sym is)
refused_read s n (sizes_outside is short nodes processes rest u v e outside) =
    read_by_header s (stops 7) short (ap read_header e ∙ sizes_stop nodes processes rest u v outside) ∙ ap bad_header (sym is)

-- a header within the limits and items that fit are read, and then what stands after them
pub file_read : (s : List ℕ) (h : Header) (items : List Item) (left : List ℕ) (ended : ℕ)
    → length s ≤ 65536 → HeaderFits h → Each ItemFits items → s ≡ header_bytes h ++ (items_bytes items ++ left)
    → read_all left ≡ reading [] left ended → read_file s ≡ file h (reading items left ended)
file_read s h items left ended short fits fit e after =
    read_by_header s (got h (items_bytes items ++ left)) short (ap read_header e ∙ header_read_lem h (items_bytes items ++ left) fits)
    ∙ ap (file h) (items_read items left ended fit after)

pub says_read : (s : List ℕ) (f : File) → Says s f → read_file s ≡ f
says_read s (bad_header n) t = refused_read s n t
says_read s (file h x) t =
    file_read s h x.items x.left x.ended t.short t.header_fits t.items_fit t.bytes
    (ends_read x.left x.ended t.ends)

-- so a file reads as what stands in it, and as nothing else
pub reads_as : (s : List ℕ) (f : File) → Bytes s → (read_file s ≡ f) ↔ Says s f
reads_as s f bytes = ((λ e. subst (Says s) e (read_says s bytes)), says_read s f)
