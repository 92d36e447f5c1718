-- Two histories one after another, as one; no machine in it. Rests on History.
use Rattle.std.specs.Prelude.{◌≡◌, ◌↔◌, true, cond, ℕ, ◌+◌, ◌-◌, ltb}
use Rattle.std.proofs.Math.Option.{map}
use Rattle.record.specs.declared.Address.{Address}
use Rattle.table.specs.History.{Answer, Operation, History, Slot}

-- an answer, an operation and a slot of a history, in one whose events are k more before them
abbrev pub answer_later : (k : ℕ) → Answer → Answer
answer_later k v = record { time = k + v.time; value = v.value }

abbrev pub shifted : (k : ℕ) → Operation → Operation
shifted k o = record { process = o.process; kind = o.kind; address = o.address; answer = map (answer_later k) o.answer }

abbrev pub slot_later : (k : ℕ) → Slot → Slot
slot_later k s = record { request = k + s.request; operation = shifted k s.operation; moment = k + s.moment }

-- the second starts with what is held at the end of the first
abbrev pub StartsWhere : (first second : History) → Type 0
StartsWhere H H' = (a : Address) → (H'.start a ≡ true) ↔ H.finish a

-- the events of the first, then those of the second; an operation that the first leaves unanswered stays so
abbrev pub followed_by : (first second : History) → History
followed_by H H' =
    let k = H.events in
    record {
      asked = λ r. cond (ltb r k) (H.asked r) (map (shifted k) (H'.asked (r - k)));
      events = k + H'.events;
      start = H.start;
      finish = H'.finish;
    }
