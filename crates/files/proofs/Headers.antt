-- A header as bytes: what is written is read, what is read was written, and what stands where it is refused. Rests on Numbers.
use mathlib.Core.Path.{◌≡◌, refl, sym, ap, ◌∙◌}
use mathlib.Core.Logic.{◌⊎◌, inl, inr}
use mathlib.Core.Bool.{true, false}
use mathlib.Core.List.{List, ◌++◌, append_assoc}
use Prim.Native.Nat.{ℕ, ◌≤◌}
use native.Mathlib.Omega.{arith}
use lib.ListN.{length}
use Rattle.table.specs.Events.{sizes_fit}
use Rattle.basics.proofs.Tests.{if}
use Rattle.table.proofs.Laws.Fitting.{limits_of}
use Rattle.numbers.specs.Numbers.{number_bytes, Read, got, stops, ◌then◌, read_number}
use Rattle.numbers.proofs.Follows.{Tells, after}
use Rattle.schedule.specs.declared.Header.{Header}
use Rattle.schedule.specs.Encoding.{header_bytes}
use Rattle.schedule.specs.Reading.{read_header}
use Rattle.files.specs.Fits.{Bytes, Fits32, HeaderFits}
use Rattle.files.specs.Refusals.{Missing, Faulty, AtSize, at_nodes, at_processes, HeaderRefused, header_ends, header_number, sizes_outside}
use Rattle.files.proofs.Numbers.{number_read_lem, number_tells, after_number}

-- sizes within the limits are numbers that fit
sizes_fit_32 : (nodes processes : ℕ) → sizes_fit nodes processes ≡ true → Fits32 nodes × Fits32 processes
sizes_fit_32 nodes processes e = let k = limits_of nodes processes e in (omega arith, omega arith)

-- a header written is read, with what stands after it left
pub header_read_lem : (h : Header) (rest : List ℕ) → HeaderFits h → read_header (header_bytes h ++ rest) ≡ got h rest
unfolding header_bytes read_header ◌then◌
header_read_lem h rest fits =
    let small = sizes_fit_32 h.nodes h.processes fits in
    rw (
      append_assoc (number_bytes h.nodes) (number_bytes h.processes) rest,
      number_read_lem h.nodes (number_bytes h.processes ++ rest) small.0,
      number_read_lem h.processes rest small.1,
      fits,
    )

-- a header read was written there, and fits; where none can be read, the file is refused with that number
abbrev pub HeaderTells : List ℕ → Read Header → Type 0
HeaderTells s = Tells (λ h left. (s ≡ header_bytes h ++ left) × HeaderFits h) (λ n. length s ≤ 65536 → HeaderRefused s n)

size_refused : (s t : List ℕ) (n : ℕ) → ((P : List ℕ → Type 0) → P t → AtSize P s)
    → ((n ≡ 4) × Missing t) ⊎ ((n ≡ 6) × Faulty t) → length s ≤ 65536 → HeaderRefused s n
size_refused s t n there (inl x) short = header_ends x.0 short (there Missing x.1)
size_refused s t n there (inr x) short = header_number x.0 short (there Faulty x.1)

pub header_tells : (s : List ℕ) → Bytes s → HeaderTells s (read_header s)
unfolding read_header header_bytes
header_tells s bytes =
    after (HeaderTells s) (read_number s) _ (number_tells s bytes)
    (λ nodes t x. after (HeaderTells s) (read_number t) _ (number_tells t (after_number s nodes t x.0 bytes))
    (λ processes left y.
    let stands : s ≡ number_bytes nodes ++ (number_bytes processes ++ left) = x.0 ∙ ap (λ (r : List ℕ). number_bytes nodes ++ r) y.0 in
    if (HeaderTells s) (sizes_fit nodes processes)
    (λ fits. (stands ∙ sym (append_assoc (number_bytes nodes) (number_bytes processes) left), fits))
    (λ outside short. sizes_outside refl short nodes processes left x.1 y.1 stands outside))
    (λ n y. size_refused s t n (λ P there. at_processes nodes t x.1 x.0 there) y))
    (λ n x. size_refused s s n (λ P there. at_nodes there) x)

-- ---- where a header is refused, none is read

pub at_size_stops : (P : List ℕ → Type 0) (n : ℕ) → ((t : List ℕ) → P t → read_number t ≡ stops n) → (s : List ℕ) → AtSize P s
    → read_header s ≡ stops n
unfolding read_header ◌then◌
at_size_stops P n stop s (at_nodes there) = rw (stop s there)
at_size_stops P n stop s (at_processes nodes rest u e there) = ap read_header e ∙ rw (number_read_lem nodes rest u, stop rest there)

pub sizes_stop : (nodes processes : ℕ) (rest : List ℕ) → Fits32 nodes → Fits32 processes → sizes_fit nodes processes ≡ false
    → read_header (number_bytes nodes ++ (number_bytes processes ++ rest)) ≡ stops 7
unfolding read_header ◌then◌
sizes_stop nodes processes rest u v outside =
    rw (number_read_lem nodes (number_bytes processes ++ rest) u, number_read_lem processes rest v, outside)
