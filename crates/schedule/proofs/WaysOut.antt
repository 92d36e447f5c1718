-- What the reader's definitions give by what its calls answered: one law for each way out of its functions. Rests on the numbers' ReadAt.
use Prim.Native.Nat.{ℕ, ◌-◌, ◌<◌, ◌≤◌}
use mathlib.Core.Bool.{Bool, true, false}
use mathlib.Core.List.{List}
use mathlib.Core.Path.{◌≡◌}
use borrow.Author.Tests.{lt-ltb, le-ltb, le-leb, lt-leb}
use lib.ListN.{length, drop_of_length-le}
use lib.Seq.{drop-cons}
use Rattle.record.specs.Record.{process, address}
use Rattle.record.specs.declared.Process.{Process}
use Rattle.record.specs.Event.{event_of}
use Rattle.record.specs.declared.Action.TheVariants.{Step}
use Rattle.table.specs.Events.{sizes_fit}
use Rattle.numbers.specs.Numbers.{◌then◌}
use Rattle.numbers.specs.ReadAt as number
use Rattle.numbers.specs.ReadAt.{number_at}
use Rattle.numbers.proofs.ReadAt.{place_of_drop, got_number, refused_number, number_inside}
use Rattle.schedule.specs.declared.Cursor.{Cursor}
use Rattle.schedule.specs.HeaderRead as header
use Rattle.schedule.specs.EventRead.{EventRead}
use Rattle.schedule.specs.EventRead as event
use Rattle.schedule.specs.Reading.{read_header, request_of_kind, move_of_kind, read_burst, read_rest, read_item, next_item}
use Rattle.schedule.specs.Cursors.{cursor_in, cursor_at, header_at, event_at}
use Rattle.schedule.specs.declared.kind.Kind.{Kind}
use Rattle.schedule.specs.Inside.Kinds.{number_of_kind}
use Rattle.schedule.specs.Inside.Continuing.{burst_at, rest_at, item_at}

-- ---- the header

module _ (file : List ℕ) (c : Cursor) where
  pub header_too_long : 65536 < length file → header.Refused 7 ≡ header_at file c
  unfolding header_at
  header_too_long long = rw (lt-ltb 65536 (length file) long)

  module _ (short : length file ≤ 65536) where
    pub header_first_refused : (n : ℕ) → number.Refused n ≡ number_at file c.at → header.Refused n ≡ header_at file c
    unfolding header_at read_header ◌then◌
    header_first_refused n e = rw (le-ltb 65536 (length file) short, refused_number file c.at n e)

    module _ (nodes at : ℕ) (first : number.Got nodes at ≡ number_at file c.at) where
      pub header_second_refused : (n : ℕ) → number.Refused n ≡ number_at file at → header.Refused n ≡ header_at file c
      unfolding header_at read_header ◌then◌
      header_second_refused n e =
          rw (le-ltb 65536 (length file) short, (got_number file c.at nodes at first).reads, refused_number file at n e)

      module _ (processes next : ℕ) (second : number.Got processes next ≡ number_at file at) (fit : Bool) (is : fit ≡ sizes_fit nodes processes) where
        pub header_outside : fit ≡ false → header.Refused 7 ≡ header_at file c
        unfolding header_at read_header ◌then◌
        header_outside e =
            rw (
              le-ltb 65536 (length file) short,
              (got_number file c.at nodes at first).reads,
              (got_number file at processes next second).reads,
              ← is,
              e,
            )

        pub header_within : fit ≡ true → header_at file c ≡ header.Got (record { nodes = nodes; processes = processes }) (cursor_at next)
        unfolding header_at read_header ◌then◌
        header_within e =
            let g = got_number file at processes next second in
            rw (
              le-ltb 65536 (length file) short,
              (got_number file c.at nodes at first).reads,
              g.reads,
              ← is,
              e,
              place_of_drop file next g.inside,
            )

-- ---- what follows the process of an event

module _ (file : List ℕ) (p : Process) (at : ℕ) where
  module _ (count next : ℕ) (is : number.Got count next ≡ number_at file at) where
    pub burst_empty : count < 1 → event.Refused 5 ≡ burst_at file p at
    unfolding burst_at read_burst ◌then◌
    burst_empty h = rw ((got_number file at count next is).reads, lt-leb 1 count h)

    pub burst_above : 1 ≤ count → 255 < count → event.Refused 5 ≡ burst_at file p at
    unfolding burst_at read_burst ◌then◌
    burst_above some h = rw ((got_number file at count next is).reads, le-leb 1 count some, lt-leb count 255 h)

    pub burst_counted : 1 ≤ count → count ≤ 255 → burst_at file p at ≡ event.Got (event_of p Step) (cursor_in next p (count - 1))
    unfolding burst_at read_burst ◌then◌
    burst_counted some few =
        let g = got_number file at count next is in
        rw (g.reads, le-leb 1 count some, le-leb count 255 few, place_of_drop file next g.inside)

  pub burst_refused : (n : ℕ) → number.Refused n ≡ number_at file at → event.Refused n ≡ burst_at file p at
  unfolding burst_at read_burst ◌then◌
  burst_refused n e = rw (refused_number file at n e)

  module _ (kind : ℕ) where
    pub rest_refused : kind ≤ 2 → (n : ℕ) → number.Refused n ≡ number_at file at → event.Refused n ≡ rest_at file kind p at
    unfolding rest_at read_rest ◌then◌
    rest_refused h n e = rw (le-leb kind 2 h, refused_number file at n e)

    pub rest_request : kind ≤ 2 → (a next : ℕ) → number.Got a next ≡ number_at file at
        → rest_at file kind p at ≡ event.Got (event_of p (request_of_kind kind (address a))) (cursor_at next)
    unfolding rest_at read_rest ◌then◌
    rest_request h a next is =
        let g = got_number file at a next is in rw (le-leb kind 2 h, g.reads, place_of_drop file next g.inside)

    pub rest_move : 2 < kind → kind ≤ 5 → at ≤ length file
        → rest_at file kind p at ≡ event.Got (event_of p (move_of_kind kind)) (cursor_at at)
    unfolding rest_at read_rest
    rest_move h k inside = rw (lt-leb kind 2 h, le-leb kind 5 k, place_of_drop file at inside)

  pub rest_burst : (r : EventRead) → r ≡ burst_at file p at → r ≡ rest_at file 6 p at
  unfolding burst_at rest_at read_rest
  rest_burst r e = e

-- ---- an event

module _ (file : List ℕ) (at : ℕ) where
  pub kind_refused : (n : ℕ) → number.Refused n ≡ number_at file at → event.Refused n ≡ item_at file at
  unfolding item_at read_item ◌then◌
  kind_refused n e = rw (refused_number file at n e)

  module _ (kind next : ℕ) (first : number.Got kind next ≡ number_at file at) where
    pub kind_above : 6 < kind → event.Refused 5 ≡ item_at file at
    unfolding item_at read_item ◌then◌
    kind_above h = rw ((got_number file at kind next first).reads, lt-ltb 6 kind h)

    module _ (k : Kind) (is : (number_of_kind k ≡ kind) × (kind ≤ 6)) where
      pub process_refused : (n : ℕ) → number.Refused n ≡ number_at file next → event.Refused n ≡ item_at file at
      unfolding item_at read_item ◌then◌
      process_refused n e = rw ((got_number file at kind next first).reads, le-ltb 6 kind is.1, refused_number file next n e)

      pub process_read : (p after : ℕ) → number.Got p after ≡ number_at file next → (r : EventRead)
          → r ≡ rest_at file (number_of_kind k) (process p) after → r ≡ item_at file at
      unfolding item_at read_item rest_at ◌then◌
      process_read p after second r is-rest =
          rw ((got_number file at kind next first).reads, le-ltb 6 kind is.1, (got_number file next p after second).reads, ← is.0) is-rest

module _ (file : List ℕ) (c : Cursor) where
  pub burst_goes_on : 0 < c.left → event_at file c ≡ event.Got (event_of c.process Step) (cursor_in c.at c.process (c.left - 1))
  unfolding event_at
  burst_goes_on h = rw (lt-ltb 0 c.left h)

  module _ (none : c.left ≤ 0) where
    pub file_ends : length file ≤ c.at → event.End ≡ event_at file c
    unfolding event_at next_item
    file_ends h = rw (le-ltb 0 c.left none, drop_of_length-le file h)

    pub item_stands : c.at < length file → (r : EventRead) → r ≡ item_at file c.at → r ≡ event_at file c
    unfolding event_at next_item item_at
    item_stands h r e = rw (le-ltb 0 c.left none, drop-cons file c.at 0 h) (rw (drop-cons file c.at 0 h) at e)

-- ---- the laws of each of the longer functions together

pub ruleset header_laws = (header_too_long, header_first_refused, header_second_refused, header_outside, header_within)

pub ruleset burst_laws = (burst_empty, burst_above, burst_counted, burst_refused)

pub ruleset rest_laws = (rest_refused, rest_request, rest_move, rest_burst)

pub ruleset item_laws = (number_inside, kind_refused, kind_above, process_refused, process_read)

pub ruleset event_laws = (burst_goes_on, file_ends, item_stands)
