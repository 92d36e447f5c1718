-- The kinds of what stands in a file after its header, and their numbers. Rests on the declared types alone.
use Rattle.std.specs.Prelude.{◌≡◌, ℕ, ◌≤◌, ◌<◌, Result, MatchResult}
use Rattle.record.specs.declared.Refusal.{Refusal}
use Rattle.record.specs.declared.Refusal.TheVariants.{BadEvent}
use Rattle.schedule.specs.declared.kind.Kind.{Kind}
use Rattle.schedule.specs.declared.kind.Kind.TheVariants.{Insert, Delete, Find, Step, Stop, Restart, Burst}

-- "Kinds 0, 1, 2: insert, delete, find"; "Kind 3: one step"; "Kind 4: .. goes down"; "Kind 5: .. becomes running"; "Kind 6, burst"
abbrev pub number_of_kind : Kind → ℕ
number_of_kind Insert = 0
number_of_kind Delete = 1
number_of_kind Find = 2
number_of_kind Step = 3
number_of_kind Stop = 4
number_of_kind Restart = 5
number_of_kind Burst = 6

-- the kind of a number, or 5: "kind above 6"
abbrev pub IsKindOf : ℕ → Result Kind Refusal → Type 0
IsKindOf number r = MatchResult r (λ kind. (number_of_kind kind ≡ number) × (number ≤ 6)) (λ e. (e ≡ BadEvent) × (6 < number))
