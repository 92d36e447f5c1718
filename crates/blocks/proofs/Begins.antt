-- A run that begins has the whole output to come, where the lent tables hold 4,096 words each, and all of its numbers fit. Rests on Longer and Comes.
use Prim.Native.Nat.{ℕ, ◌+◌, ◌-◌, ◌≤◌}
use mathlib.Core.List.{List, ◌++◌}
use mathlib.Core.Path.{◌≡◌, refl, ap, sym, ◌∙◌, subst}
use mathlib.Core.Bool.{true}
use native.Mathlib.Omega.{arith}
use lib.ListN.{length, drop, replicate, length-replicate, replicate-append-replicate}
use Rattle.std.specs.Prelude.{Ok, Err}
use Rattle.record.specs.Record.{fresh_record}
use Rattle.record.specs.declared.Record.{Record}
use Rattle.record.specs.declared.Outcome.TheVariants as outcome
use Rattle.table.specs.Words.{Memory, lengths, fresh_memory}
use Rattle.table.specs.Events.{State, state_of, fresh, sizes_fit}
use Rattle.basics.proofs.Tests.{if, if_lt}
use Rattle.table.proofs.Laws.Fitting.{limits_of, LongEnough, long_for_fewer, Beyond, room_fresh, fit_of}
use Rattle.table.proofs.Laws.Sizes.{longer_state}
use Rattle.words.specs.LentMemory.{sized, sizes_of}
use Rattle.fresh.specs.Fresh.{Made, TablesLeft, fresh_sizes, laid_over, fresh_fits, tables_left, fresh_tables}
use Rattle.numbers.specs.Numbers.{Read, got, stops, read_number}
use Rattle.numbers.specs.ReadAt.{place_in}
use Rattle.numbers.proofs.Follows.{Tells, after, number_takes}
use Rattle.schedule.specs.declared.Header.{Header}
use Rattle.schedule.specs.declared.Cursor.{Cursor}
use Rattle.schedule.specs.HeaderRead.{HeaderRead}
use Rattle.schedule.specs.HeaderRead as header
use Rattle.schedule.specs.Encoding.{events_of}
use Rattle.schedule.specs.Reading.{Reading, file, bad_header, read_header, read_file}
use Rattle.schedule.specs.Cursors.{start, header_read, header_at}
use Rattle.files.specs.Comes.{comes, ends}
use Rattle.files.proofs.Comes.{HeaderAnswer, header_tells}
use Rattle.files.proofs.Count.{comes_few}
use Rattle.text.specs.Text.{line}
use Rattle.run.specs.declared.Phase.TheVariants.{Acting}
use Rattle.run.specs.Output.{played, output}
use Rattle.run.specs.Pieces.{World, world, run_of, table_of, fresh_row, refusing, start_of, begins}
use Rattle.run.proofs.Steps.{begin_got, begin_refused}
use Rattle.blocks.specs.ToCome.{to_come}
use Rattle.blocks.proofs.Comes.{Numbered, acts, come_refusing}
use Rattle.blocks.proofs.Longer.{Sound, played_longer}

-- ---- what a header that was read tells

-- its sizes fit
abbrev SizesFit : Read Header → Type 0
SizesFit = Tells (λ h left. sizes_fit h.nodes h.processes ≡ true) (λ n. Unit)

sizes_fit_lem : (s : List ℕ) → SizesFit (read_header s)
unfolding read_header
sizes_fit_lem s =
    after SizesFit (read_number s) _ (number_takes s)
    (λ nodes t f. after SizesFit (read_number t) _ (number_takes t)
    (λ processes left g. if SizesFit (sizes_fit nodes processes) (λ fit. fit) (λ unfit. tt))
    (λ n g. tt))
    (λ n f. tt)

-- the file is short enough, no burst is under way, and the sizes fit
abbrev HeaderHas : List ℕ → HeaderRead → Type 0
HeaderHas s (header.Got h next) = (length s ≤ 65536) × (next.left ≡ 0) × (sizes_fit h.nodes h.processes ≡ true)
HeaderHas s (header.Refused n) = Unit

header_has : (s : List ℕ) (c : Cursor) → HeaderHas s (header_at s c)
unfolding header_at
header_has s c =
    if_lt (λ (r : Read Header). HeaderHas s (header_read (place_in s) r)) 65536 (length s)
    (λ long. tt)
    (λ short. by short (read_header (drop c.at s)) (sizes_fit_lem (drop c.at s)))
  where
    by : length s ≤ 65536 → (r : Read Header) → SizesFit r → HeaderHas s (header_read (place_in s) r)
    by short (got h left) fit = (short, refl, fit)
    by short (stops n) fit = tt

-- ---- fresh tables

module _ (nodes processes : ℕ) (fit : sizes_fit nodes processes ≡ true) where
  fresh_sound : Sound (fresh nodes processes)
  unfolding fresh fresh_memory
  fresh_sound = record {
    room = room_fresh nodes processes (limits_of nodes processes fit).two;
    row = omega (arith, length-replicate processes fresh_record);
  }

  -- tables of 4,096 words are long enough
  fits_long : (m : Memory) → LongEnough 4096 (lengths m) → fresh_fits (sized (fresh_sizes nodes processes) m) ≡ true
  unfolding fresh_memory lengths
  fits_long m long =
      let k = limits_of nodes processes fit in
      fit_of (sized (fresh_sizes nodes processes) m) fit
      (record { long = long_for_fewer nodes 4096 (lengths m) k.few long; least = omega arith; most = k.two })

-- ---- the numbers

-- every number fits: a file has at most 255 events for each of its 65,536 bytes
start_numbered : (s : List ℕ) (m : Memory) (next : Cursor) (made : Made) → length s ≤ 65536 → next.left ≡ 0
    → Numbered s (world m (start_of next made))
unfolding start_of
start_numbered s m next (Ok sizes) short none z = omega (arith, comes_few s next)
start_numbered s m next (Err refusal) short none z = omega (arith, acts _ z)

-- a run begun, by the header read
module _ (s : List ℕ) (m : Memory) where
  abbrev made_for : Header → TablesLeft
  made_for h = fresh_tables (sized (fresh_sizes h.nodes h.processes) m)

  begun_got : (h : Header) (next : Cursor) → header_at s start ≡ header.Got h next
      → world (made_for h).memory (start_of next (made_for h).answer) ≡ begins s m
  begun_got h next e = begin_got s m (made_for h).memory h next (made_for h).answer e refl

  pub begin_numbered : Numbered s (begins s m)
  begin_numbered = by (header_at s start) refl (header_has s start)
    where
      by : (r : HeaderRead) → header_at s start ≡ r → HeaderHas s r → Numbered s (begins s m)
      by (header.Got h next) e has =
          subst (Numbered s) (begun_got h next e) (start_numbered s (made_for h).memory next (made_for h).answer has.0 has.1)
      by (header.Refused n) e has = subst (Numbered s) (begin_refused s m n e) (λ z. omega (arith, acts _ z))

-- ---- the whole output is to come

output_bad : (s : List ℕ) (n : ℕ) → read_file s ≡ bad_header n → output s ≡ line 0 (outcome.Refused n)
unfolding output
output_bad s n e = rw (e, output)

pub output_file : (s : List ℕ) (h : Header) (x : Reading) → read_file s ≡ file h x
    → output s ≡ played 0 (fresh h.nodes h.processes) (events_of x.items) x.ended
unfolding output
output_file s h x e = rw (e, output)

-- the words of a lent memory past the ends of a new one
abbrev past : (new lent : Memory) → Beyond
past new lent = record {
  addresses = drop (length new.addresses) lent.addresses;
  links = drop (length new.links) lent.links;
  deleters = drop (length new.deleters) lent.deleters;
}

module _ (s : List ℕ) (m : Memory) (long : LongEnough 4096 (lengths m)) (h : Header) (next : Cursor)
    (fit : sizes_fit h.nodes h.processes ≡ true) where
  abbrev σ : State
  σ = fresh h.nodes h.processes

  abbrev new : Memory
  new = fresh_memory h.nodes h.processes

  abbrev begun : World
  begun = world (laid_over new m) (run_of Acting next (sizes_of new) 0 fresh_row)

  made_fresh : made_for s m h ≡ tables_left begun.memory (Ok (sizes_of new))
  unfolding fresh_tables
  made_fresh = rw (fits_long h.nodes h.processes fit m long)

  begins_fresh : header_at s start ≡ header.Got h next → begins s m ≡ begun
  unfolding start_of
  begins_fresh e = sym (begun_got s m h next e) ∙ ap (λ (x : TablesLeft). world x.memory (start_of next x.answer)) made_fresh

  abbrev spare : List Record
  spare = replicate (64 - h.processes) fresh_record

  row_longer : fresh_row ≡ σ.row ++ spare
  unfolding fresh
  row_longer =
      let all : h.processes + (64 - h.processes) ≡ 64 = omega (arith, (limits_of h.nodes h.processes fit).few_processes) in
      rw (replicate-append-replicate, all)

  table_longer : table_of begun ≡ longer_state (past new m) spare σ
  unfolding fresh
  table_longer = ap (λ (row : List Record). state_of (table_of begun).memory row) row_longer

  come_fresh : to_come s begun ≡ played 0 σ (comes s next) (ends s next)
  unfolding to_come
  come_fresh =
      ap (λ (τ : State). played 0 τ (comes s next) (ends s next)) table_longer
      ∙ played_longer (past new m) spare 0 σ (comes s next) (ends s next) (fresh_sound h.nodes h.processes fit)

pub begin_comes : (s : List ℕ) (m : Memory) → LongEnough 4096 (lengths m) → to_come s (begins s m) ≡ output s
begin_comes s m long = by (header_at s start) refl (header_has s start) (header_tells s start refl)
  where
    by : (r : HeaderRead) → header_at s start ≡ r → HeaderHas s r → HeaderAnswer (read_file s) s r → to_come s (begins s m) ≡ output s
    by (header.Got h next) e has t =
        ap (to_come s) (begins_fresh s m long h next has.2 e)
        ∙ come_fresh s m long h next has.2
        ∙ (λ i. played 0 (fresh h.nodes h.processes) (t.2 i) (t.3 i))
        ∙ sym (output_file s h t.0 t.1)
    by (header.Refused n) e has t =
        ap (to_come s) (sym (begin_refused s m n e))
        ∙ come_refusing s (world m (refusing n)) n refl
        ∙ sym (output_bad s n t.0)
