-- What stands where a header or an event is refused with 4 to 7, said of the bytes and without a reader. Rests on the numbers' bytes and on Fits.
use Rattle.std.specs.Prelude.{◌≡◌, ◌≢◌, ◌⊎◌, List, [], ◌∷◌, ◌++◌, ℕ, ◌≤◌, ◌<◌, false, length}
use Rattle.table.specs.Events.{sizes_fit}
use Rattle.numbers.specs.Numbers.{number_bytes}
use Rattle.files.specs.Fits.{Each, Fits32}

-- "top bit set on all but the last": groups after each of which another must come
abbrev pub Promise : List ℕ → Type 0
Promise = Each (λ b. 128 ≤ b)

-- "a missing byte gives 4": the bytes end where another must come
pub record Missing (s : List ℕ) : Type 0 where
  pub promise : Promise s
  pub few : length s ≤ 4

-- "a fifth byte above 15, or a last group of zero after another group gives 6", whatever follows it
pub record Faulty (s : List ℕ) : Type 0 where
  pub groups : List ℕ
  pub byte : ℕ
  pub rest : List ℕ
  pub stands : s ≡ groups ++ (byte ∷ rest)
  pub promise : Promise groups
  pub fault : ((length groups ≡ 4) × (15 < byte)) ⊎ ((1 ≤ length groups) × (length groups ≤ 4) × (byte ≡ 0))

-- "An event is kind, process, then the address (kinds 0 to 2) or count (kind 6).": P holds of what stands where one of these should
pub data AtNumber (P : List ℕ → Type 0) (left : List ℕ) : Type 0 where
  at_kind : P left → AtNumber P left
  at_process : (kind : ℕ) (rest : List ℕ) → kind ≤ 6 → left ≡ number_bytes kind ++ rest → P rest → AtNumber P left
  at_last : (kind p : ℕ) (rest : List ℕ) → (kind ≤ 2) ⊎ (kind ≡ 6) → Fits32 p
      → left ≡ number_bytes kind ++ (number_bytes p ++ rest) → P rest → AtNumber P left

-- the bytes left of a file are refused with a number
pub data Refused (left : List ℕ) (number : ℕ) : Type 0 where
  -- 4: "the file ends inside the header or an event"
  ends_inside : number ≡ 4 → left ≢ [] → AtNumber Missing left → Refused left number
  -- 5: "kind above 6, or burst count not 1 to 255"
  kind_above_6 : number ≡ 5 → (kind : ℕ) (rest : List ℕ) → 6 < kind → Fits32 kind → left ≡ number_bytes kind ++ rest → Refused left number
  count_outside : number ≡ 5 → (p count : ℕ) (rest : List ℕ) → Fits32 p → Fits32 count → (count ≡ 0) ⊎ (255 < count)
      → left ≡ number_bytes 6 ++ (number_bytes p ++ (number_bytes count ++ rest)) → Refused left number
  -- 6: "a number not in shortest form, or above 4,294,967,295"
  bad_number : number ≡ 6 → AtNumber Faulty left → Refused left number

-- "The header is node count, then process count.": P holds of what stands where one of these should
pub data AtSize (P : List ℕ → Type 0) (s : List ℕ) : Type 0 where
  at_nodes : P s → AtSize P s
  at_processes : (nodes : ℕ) (rest : List ℕ) → Fits32 nodes → s ≡ number_bytes nodes ++ rest → P rest → AtSize P s

-- "For a file: 7 for length, header numbers, 7 for sizes"
pub data HeaderRefused (s : List ℕ) (number : ℕ) : Type 0 where
  file_too_long : number ≡ 7 → 65536 < length s → HeaderRefused s number
  header_ends : number ≡ 4 → length s ≤ 65536 → AtSize Missing s → HeaderRefused s number
  header_number : number ≡ 6 → length s ≤ 65536 → AtSize Faulty s → HeaderRefused s number
  sizes_outside : number ≡ 7 → length s ≤ 65536 → (nodes processes : ℕ) (rest : List ℕ) → Fits32 nodes → Fits32 processes
      → s ≡ number_bytes nodes ++ (number_bytes processes ++ rest) → sizes_fit nodes processes ≡ false → HeaderRefused s number
