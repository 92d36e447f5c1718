-- Every piece of a run is the next of what is to come of it. Rests on what the cursor reader hands out (files), on how the walk along the chain
-- goes on (the table's Ahead) and on Pieces.
use Prim.Native.Nat.{ℕ, suc, ◌+◌, ◌<◌, ◌≤◌}
use mathlib.Core.List.{List, [], ◌∷◌, ◌++◌, map, append_assoc, append-nil}
use mathlib.Core.Path.{◌≡◌, refl, ap, sym, ◌∙◌, subst}
use native.Mathlib.Omega.{arith}
use borrow.Author.Tests.{lt-ltb, ne_eqb}
use lib.ListN.{length, length-append}
use denote.Enum.Declared.{tag_of}
use Rattle.record.specs.Record.{address}
use Rattle.record.specs.declared.Node.{Node}
use Rattle.record.specs.declared.Address.{Address}
use Rattle.record.specs.declared.Event.{Event}
use Rattle.record.specs.declared.Outcome.TheVariants as outcome
use Rattle.table.specs.Words.{address_at}
use Rattle.table.specs.Chain.{Ahead, onto, tail_ahead, not_in_use, not_above, ahead, nodes_after, chain, chain_addresses}
use Rattle.table.specs.Events.{State, event, runs, outcomes}
use Rattle.table.proofs.Laws.Ahead.{walk_on, nodes_after_lem}
use Rattle.schedule.specs.EventRead.{EventRead}
use Rattle.schedule.specs.EventRead as read
use Rattle.schedule.specs.Cursors.{event_at}
use Rattle.files.specs.Comes.{comes, ends}
use Rattle.files.proofs.Comes.{got_tells, end_tells, refused_tells}
use Rattle.text.specs.Text.{line, decimal, keys_word, keys_line, addresses_text, space, newline}
use Rattle.text.proofs.Lengths.{line_some}
use Rattle.run.specs.declared.Phase.{Phase}
use Rattle.run.specs.declared.Phase.TheVariants.{Refusing, Acting, Walking, Over}
use Rattle.run.specs.Output.{lines, stop_line, played}
use Rattle.run.specs.Filling.{NextPiece, piece, nothing}
use Rattle.run.specs.Pieces.{World, memory_of, table_of, in_phase, next_number, went_on, to_walk, event_next, put_ahead, address_next, next_piece}
use Rattle.run.specs.PrivatePromises.{stopped_text, last_text}
use Rattle.run.specs.contracts.Phase as phase-type
use Rattle.run.proofs.Steps.{acting_piece, got_piece, end_next, refused_next, refusal_piece, over_nothing, walking_piece}
use Rattle.blocks.specs.ToCome.{to_come}
use Rattle.blocks.proofs.Pieces.{Gives}

-- the number of each event to come fits 32 bits
abbrev pub Numbered : (file : List ℕ) → World → Type 0
Numbered file w = w.run.phase ≡ Acting → w.run.number + length (comes file w.run.cursor) ≤ 4294967295

-- what the next piece tells of the whole that is to come
abbrev Told : (file whole : List ℕ) → NextPiece World → Type 0
Told file whole (piece bytes t) = Numbered file t × (whole ≡ bytes ++ to_come file t) × (1 ≤ length bytes)
Told file whole nothing = whole ≡ []

-- only Acting is Acting
pub acts : (phase : Phase) → phase ≡ Acting → tag_of phase-type.the_type phase ≡ 1
acts phase e = ap (tag_of phase-type.the_type) e

-- ---- what is to come, by the phase

pub come_refusing : (file : List ℕ) (w : World) (n : ℕ) → w.run.phase ≡ Refusing n → to_come file w ≡ line 0 (outcome.Refused n)
unfolding to_come
come_refusing file w n e = rw e

come_acting : (file : List ℕ) (w : World) → w.run.phase ≡ Acting
    → to_come file w ≡ played w.run.number (table_of w) (comes file w.run.cursor) (ends file w.run.cursor)
unfolding to_come
come_acting file w e = rw e

come_walking : (file : List ℕ) (w : World) (n : Node) → w.run.phase ≡ Walking n
    → to_come file w ≡ addresses_text (map (λ n. address (address_at (memory_of w) n)) (nodes_after (memory_of w) n)) ++ (newline ∷ [])
unfolding to_come
come_walking file w n e = rw e

come_over : (file : List ℕ) (w : World) → w.run.phase ≡ Over → to_come file w ≡ []
unfolding to_come
come_over file w e = rw e

-- ---- the lines of events

played_event : (number : ℕ) (σ : State) (e : Event) (es : List Event) (ended : ℕ)
    → played number σ (e ∷ es) ended ≡ line number (event σ e).outcome ++ played (number + 1) (event σ e).after es ended
unfolding played lines outcomes runs
played_event number σ e es ended =
    let n : number + suc (length es) ≡ number + 1 + length es = omega arith in
    rw (append_assoc, n)

played_end : (number : ℕ) (σ : State) → played number σ [] 0 ≡ keys_line (chain_addresses σ.memory)
unfolding played lines outcomes runs stop_line
played_end number σ = refl

played_stop : (number : ℕ) (σ : State) (n : ℕ) → 4 ≤ n
    → played number σ [] n ≡ line number (outcome.Refused n) ++ keys_line (chain_addresses σ.memory)
unfolding played lines outcomes runs stop_line
played_stop number σ n h =
    let k : number + 0 ≡ number = omega arith in
    rw (ne_eqb n 0 (λ z. omega arith), k)

keys_walk : (file : List ℕ) (w : World) → keys_line (chain_addresses (memory_of w)) ≡ keys_word ++ to_come file (to_walk w)
unfolding keys_line chain_addresses chain to_come
keys_walk file w = refl

number_after : (number : ℕ) → number < 4294967295 → next_number number ≡ number + 1
unfolding next_number
number_after number l = rw (lt-ltb number 4294967295 l)

module _ (file : List ℕ) (w : World) (acting : w.run.phase ≡ Acting) (numbered : Numbered file w) where
  by_read : (r : EventRead) → event_at file w.run.cursor ≡ r → Told file (to_come file w) (event_next file w)
  unfolding last_text stopped_text
  by_read (read.Got e next) h =
      let t = got_tells file w.run.cursor e next h in
      let x = event (table_of w) e in
      let few : w.run.number + suc (length (comes file next)) ≤ 4294967295 = omega (arith, numbered acting, ap length t.0) in
      let n : next_number w.run.number ≡ w.run.number + 1 = number_after w.run.number (omega arith) in
      subst (Told file _) (sym (got_piece file w e next h)) (
        (λ z. omega (arith, n)),
        rw (come_acting file w acting, t.0, t.1, played_event, come_acting file (went_on w next x.after) acting, n),
        line_some w.run.number x.outcome,
      )
  by_read read.End h =
      let t = end_tells file w.run.cursor h in
      subst (Told file _) (sym (end_next file w h)) (
        (λ z. omega (arith, acts _ z)),
        rw (come_acting file w acting, t.0, t.1) (played_end w.run.number (table_of w) ∙ keys_walk file w),
        omega arith,
      )
  by_read (read.Refused n) h =
      let t = refused_tells file w.run.cursor n h in
      subst (Told file _) (sym (refused_next file w n h)) (
        (λ z. omega (arith, acts _ z)),
        rw (come_acting file w acting, t.0, t.1, append_assoc, ← keys_walk file w) (played_stop w.run.number (table_of w) n t.2.0),
        simp length-append (omega (arith, line_some w.run.number (outcome.Refused n))),
      )

-- ---- the last line

module _ (file : List ℕ) (w : World) where
  abbrev text : List Address → List ℕ
  text addresses = addresses_text addresses ++ (newline ∷ [])

  abbrev addresses : List Node → List Address
  addresses nodes = map (λ n. address (address_at (memory_of w) n)) nodes

  -- by what lies ahead
  walks_by : (x : Ahead) → Told file (text (addresses (walk_on (memory_of w).count (memory_of w) x))) (put_ahead w x)
  unfolding to_come addresses_text
  walks_by (onto n) =
      ((λ z. omega (arith, acts _ z)), append_assoc (space ∷ decimal (address_at (memory_of w) n)) _ (newline ∷ []), omega arith)
  walks_by tail_ahead = ((λ z. omega (arith, acts _ z)), refl, omega arith)
  walks_by not_in_use = ((λ z. omega (arith, acts _ z)), refl, omega arith)
  walks_by not_above = ((λ z. omega (arith, acts _ z)), refl, omega arith)

  walks : (n : Node) → Told file (text (addresses (nodes_after (memory_of w) n))) (address_next w n)
  unfolding address_next
  walks n =
      let m = memory_of w in
      subst (λ rest. Told file (text (addresses rest)) (put_ahead w (ahead m n))) (sym (nodes_after_lem m n)) (walks_by (ahead m n))

-- ---- every phase

told : (file : List ℕ) (w : World) → Numbered file w → (phase : Phase) → w.run.phase ≡ phase → Told file (to_come file w) (next_piece file w)
told file w numbered (Refusing n) e =
    rw (refusal_piece file w n e)
    ((λ z. omega (arith, acts _ z)), rw (come_refusing file w n e, come_over file (in_phase Over w) refl, append-nil), line_some 0 (outcome.Refused n))
told file w numbered Acting e = rw (acting_piece file w e) (by_read file w e numbered (event_at file w.run.cursor) refl)
told file w numbered (Walking n) e = rw (walking_piece file w n e, come_walking file w n e) (walks file w n)
told file w numbered Over e = rw (over_nothing file w e) (come_over file w e)

pub run_gives : (file : List ℕ) → Gives World (next_piece file) (Numbered file) (to_come file)
run_gives file =
    record {
      on_piece = λ w bytes t p e. subst (Told file _) e (told file w p w.run.phase refl);
      on_nothing = λ w p e. subst (Told file _) e (told file w p w.run.phase refl);
    }
