-- Which numbers, bytes, headers and items a file can hold. Rests on the schedule's encoding.
use Rattle.std.specs.Prelude.{◌≡◌, true, List, [], ◌∷◌, ℕ, ◌≤◌, ◌<◌}
use Rattle.std.proofs.Math.Option.{Option, none, some}
use Rattle.record.specs.Event.{address_of}
use Rattle.record.specs.declared.Address.{Address}
use Rattle.record.specs.declared.Event.{Event}
use Rattle.table.specs.Events.{sizes_fit}
use Rattle.schedule.specs.declared.Header.{Header}
use Rattle.schedule.specs.Encoding.{Item, single, burst}

-- P holds of each
abbrev pub Each : {A : Type 0} → (A → Type 0) → List A → Type 0
Each P [] = Unit
Each P (a ∷ l) = P a × Each P l

abbrev pub Bytes : List ℕ → Type 0
Bytes = Each (λ b. b < 256)

-- "0 to 4,294,967,295"
abbrev pub Fits32 : ℕ → Type 0
Fits32 n = n < 4294967296

-- "sizes outside the limits"
abbrev pub HeaderFits : Header → Type 0
HeaderFits h = sizes_fit h.nodes h.processes ≡ true

-- a process number may be any 32-bit number, and so may an address
abbrev pub AddressFits : Option Address → Type 0
AddressFits none = Unit
AddressFits (some a) = Fits32 a.0

abbrev pub EventFits : Event → Type 0
EventFits e = Fits32 e.process.0 × AddressFits (address_of e.action)

-- "burst: process and count 1 to 255"
abbrev pub ItemFits : Item → Type 0
ItemFits (single e) = EventFits e
ItemFits (burst p count) = Fits32 p.0 × (1 ≤ count) × (count ≤ 255)
