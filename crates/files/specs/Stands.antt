-- What a file holds, said of its bytes: header, items, and what it ends with. Rests on the schedule's encoding, on Fits and Refusals.
use Rattle.std.specs.Prelude.{◌≡◌, ◌⊎◌, List, [], ◌++◌, ℕ, ◌≤◌, length}
use Rattle.schedule.specs.declared.Header.{Header}
use Rattle.schedule.specs.Encoding.{Item, header_bytes, items_bytes, file_bytes}
use Rattle.schedule.specs.Reading.{Reading, File, bad_header, file}
use Rattle.files.specs.Fits.{Each, HeaderFits, ItemFits}
use Rattle.files.specs.Refusals.{Refused, HeaderRefused}

-- the bytes left after the last item: none, or such as are refused
abbrev pub Ends : (left : List ℕ) → (ended : ℕ) → Type 0
Ends left ended = ((left ≡ []) × (ended ≡ 0)) ⊎ Refused left ended

-- a file holds a header, items, and then its end or what is refused
pub record Holds (s : List ℕ) (h : Header) (x : Reading) : Type 0 where
  pub short : length s ≤ 65536
  pub header_fits : HeaderFits h
  pub items_fit : Each ItemFits x.items
  pub bytes : s ≡ header_bytes h ++ (items_bytes x.items ++ x.left)
  pub ends : Ends x.left x.ended

-- a file is the encoding of a header within the limits and of items that fit, and is not too long
pub record Encodes (s : List ℕ) (h : Header) (items : List Item) : Type 0 where
  pub short : length s ≤ 65536
  pub header_fits : HeaderFits h
  pub items_fit : Each ItemFits items
  pub bytes : s ≡ file_bytes h items

-- what stands in a file
abbrev pub Says : List ℕ → File → Type 0
Says s (bad_header n) = HeaderRefused s n
Says s (file h x) = Holds s h x
