-- What is read never depends on bytes after a refusal other than 4, for which the file's end is what is seen. Rests on Accepted and Looked.
use mathlib.Core.Path.{◌≡◌, refl, ap, ◌∙◌, subst}
use mathlib.Core.Logic.{◌≢◌}
use mathlib.Core.List.{List, ◌∷◌, ◌++◌, append_assoc}
use Prim.Native.Nat.{ℕ, ◌≤◌}
use native.Mathlib.Omega.{arith}
use lib.ListN.{length, length-append}
use Rattle.numbers.specs.Numbers.{number_bytes}
use Rattle.schedule.specs.declared.Header.{Header}
use Rattle.schedule.specs.Encoding.{Item, items_bytes, header_bytes}
use Rattle.schedule.specs.Reading.{reading, refuses, next_item, bad_header, file, read_file}
use Rattle.files.specs.Fits.{Bytes}
use Rattle.files.specs.Refusals.{Faulty, at_nodes, at_processes, HeaderRefused, file_too_long, header_ends, header_number, sizes_outside}
use Rattle.files.specs.Stands.{Holds}
use Rattle.files.specs.Looked.{Looked}
use Rattle.files.proofs.Numbers.{bytes_after}
use Rattle.files.proofs.Items.{append_inside}
use Rattle.files.proofs.ReadAll.{read_refused}
use Rattle.files.proofs.Files.{reads_as, says_read, file_read}
use Rattle.files.proofs.Accepted.{refused_file, header_refused_exactly}
use Rattle.files.proofs.Looked.{same_fault, looked_at}

-- bytes after bytes in two parts, and in three
longer : (s a rest t : List ℕ) → s ≡ a ++ rest → s ++ t ≡ a ++ (rest ++ t)
longer s a rest t e = ap (λ (r : List ℕ). r ++ t) e ∙ append_assoc a rest t

longer² : (s a b rest t : List ℕ) → s ≡ a ++ (b ++ rest) → s ++ t ≡ a ++ (b ++ (rest ++ t))
longer² s a b rest t e = ap (λ (r : List ℕ). r ++ t) e ∙ append_inside a b rest t

-- bytes refused with 5 or 6 are refused so whatever follows them
pub refused_whatever_follows : (s t : List ℕ) (n : ℕ) → Bytes s → n ≢ 4 → next_item s ≡ refuses n → next_item (s ++ t) ≡ refuses n
refused_whatever_follows s t n bytes not4 e =
    let x : Looked s n = looked_at s n bytes not4 e in
    ap next_item (longer s x.seen x.unseen t x.whole) ∙ x.enough (x.unseen ++ t)

-- a file refused with 5 or 6 after some items, and what is known of it
module _ (s : List ℕ) (h : Header) (items : List Item) (left : List ℕ) (n : ℕ)
    (bytes : Bytes s) (not0 : n ≢ 0) (not4 : n ≢ 4) (e : read_file s ≡ file h (reading items left n)) where
  holds : Holds s h (reading items left n)
  holds = (reads_as s (file h (reading items left n)) bytes).0 e

  next_refuses : next_item left ≡ refuses n
  next_refuses = (refused_file s h items left n bytes not0 e).2

  bytes_left : Bytes left
  bytes_left = bytes_after (items_bytes items) left (bytes_after (header_bytes h) (items_bytes items ++ left) (subst Bytes holds.bytes bytes))

  -- it has the same header, items and refusal whatever follows it, within the length
  pub file_whatever_follows : (t : List ℕ) → length (s ++ t) ≤ 65536 → read_file (s ++ t) ≡ file h (reading items (left ++ t) n)
  file_whatever_follows t short =
      file_read (s ++ t) h items (left ++ t) n short holds.header_fits holds.items_fit
      (longer² s (header_bytes h) (items_bytes items) left t holds.bytes)
      (read_refused (left ++ t) n (refused_whatever_follows left t n bytes_left not4 next_refuses))

  -- and every file that begins with the same bytes, up to the last one looked at, has the same header, items and refusal, within the length
  pub file_by_bytes_looked_at : (x : Looked left n)
      × ((t : List ℕ) → length (header_bytes h ++ (items_bytes items ++ (x.seen ++ t))) ≤ 65536
      → read_file (header_bytes h ++ (items_bytes items ++ (x.seen ++ t))) ≡ file h (reading items (x.seen ++ t) n))
  file_by_bytes_looked_at =
      let x : Looked left n = looked_at left n bytes_left not4 next_refuses in (
        x,
        λ t short. file_read (header_bytes h ++ (items_bytes items ++ (x.seen ++ t))) h items (x.seen ++ t) n
            short holds.header_fits holds.items_fit refl (read_refused (x.seen ++ t) n (x.enough t)),
      )

faulty_longer : (s t : List ℕ) → Faulty s → Faulty (s ++ t)
faulty_longer s t f = same_fault f (s ++ t) (f.rest ++ t) (longer s f.groups (f.byte ∷ f.rest) t f.stands)

header_longer : (s t : List ℕ) (n : ℕ) → n ≢ 4 → length (s ++ t) ≤ 65536 → HeaderRefused s n → HeaderRefused (s ++ t) n
header_longer s t n not4 short (file_too_long is long) = absurd (omega (arith, length-append s t))
header_longer s t n not4 short (header_ends is _ there) = absurd (not4 is)
header_longer s t n not4 short (header_number is _ (at_nodes f)) = header_number is short (at_nodes (faulty_longer s t f))
header_longer s t n not4 short (header_number is _ (at_processes nodes rest u e f)) =
    header_number is short (at_processes nodes (rest ++ t) u (longer s (number_bytes nodes) rest t e) (faulty_longer rest t f))
header_longer s t n not4 short (sizes_outside is _ nodes processes rest u v e outside) =
    sizes_outside is short nodes processes (rest ++ t) u v (longer² s (number_bytes nodes) (number_bytes processes) rest t e) outside

-- a header refused with 6 or 7 is refused so whatever follows it, within the length
pub header_whatever_follows : (s t : List ℕ) (n : ℕ) → Bytes s → n ≢ 4 → length (s ++ t) ≤ 65536
    → read_file s ≡ bad_header n → read_file (s ++ t) ≡ bad_header n
header_whatever_follows s t n bytes not4 short e =
    says_read (s ++ t) (bad_header n) (header_longer s t n not4 short ((header_refused_exactly s n bytes).0 e))
