-- Actions, events and outcomes of 01: the number and the values of each case. Rests on the declared types alone.
use Rattle.std.specs.Prelude.{ℕ, zero, suc, Bool, true, false}
use Rattle.std.proofs.Math.Option.{Option, none, some}
use Rattle.record.specs.declared.Process.{Process}
use Rattle.record.specs.declared.Address.{Address}
use Rattle.record.specs.declared.Action.{Action}
use Rattle.record.specs.declared.Action.TheVariants.{Insert, Delete, Find, Step, Stop, Restart}
use Rattle.record.specs.declared.Event.{Event}
use Rattle.record.specs.declared.Outcome.{Outcome}
use Rattle.record.specs.declared.Outcome.TheVariants.{Refused, Accepted, Answered}

-- "Kinds 0, 1, 2: insert, delete, find"; "Kind 3: one step"; "Kind 4: .. goes down"; "Kind 5: .. becomes running"
abbrev pub kind_of : Action → ℕ
kind_of (Insert a) = 0
kind_of (Delete a) = 1
kind_of (Find a) = 2
kind_of Step = 3
kind_of Stop = 4
kind_of Restart = 5

-- "the address (kinds 0 to 2)"
abbrev pub address_of : Action → Option Address
address_of (Insert a) = some a
address_of (Delete a) = some a
address_of (Find a) = some a
address_of Step = none
address_of Stop = none
address_of Restart = none

-- "An event is kind, process, then the address": what its process does
abbrev pub event_of : Process → Action → Event
event_of p x = record { process = p; action = x }

-- "Where an answer is an enum, a definition sets out this paper's number and values for each of its cases.": an outcome by its refusal's
-- number, 0 for none, and the answer that is handed out, if one is ("Results: .. false 1, true 2, fail 3")
abbrev pub outcome_of : (refusal : ℕ) → (answer : Option ℕ) → Outcome
outcome_of zero none = Accepted
outcome_of zero (some answer) = Answered answer
outcome_of (suc refusal) answer = Refused (suc refusal)

-- accepted, and nothing handed out
abbrev pub accepted : Outcome
accepted = outcome_of 0 none

-- whether an event was accepted, with an answer or without; where it was refused, "nothing changed"
abbrev pub is_accepted : Outcome → Bool
is_accepted (Refused n) = false
is_accepted Accepted = true
is_accepted (Answered n) = true
