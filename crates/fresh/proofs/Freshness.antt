-- Lent tables made fresh: what their test tells, the links as they are written, zeros and then head's and tail's, and the row beside them.
-- Rests on Fresh and on the table's Fitting.
use mathlib.Core.Path.{◌≡◌, refl, sym, ap, ◌∙◌}
use mathlib.Core.Bool.{Bool, true, false, cond}
use mathlib.Core.List.{List, ◌∷◌, ◌++◌}
use Prim.Native.Nat.{ℕ, zero, suc, ◌-◌, ◌<◌, ◌≤◌}
use native.Mathlib.Nat.{not-suc-le-zero, le_of_suc-le-suc}
use native.Mathlib.Omega.{arith}
use lib.ListN.{length, replicate, drop, take, length-replicate}
use lib.Seq.{length-take-le}
use Rattle.std.specs.Prelude.{Ok, Err}
use borrow.Author.Tests.{le-leb, lt-leb}
use Rattle.basics.specs.Over.{over}
use Rattle.record.specs.Record.{fresh_record, tail_node}
use Rattle.record.specs.declared.Record.{Record}
use Rattle.table.specs.Words.{Memory, lengths, link_word, fresh_memory}
use Rattle.table.specs.Events.{state_of, fresh, tables_fit}
use Rattle.table.proofs.Laws.Fitting.{limits, Room, room_of}
use Rattle.words.specs.LentMemory.{lent_memory, sizes_of}
use Rattle.words.specs.declared.Sizes.{Sizes}
use Rattle.record.specs.declared.Refusal.{Refusal}
use Rattle.record.specs.declared.Refusal.TheVariants.{BadSizes}
use Rattle.fresh.specs.Fresh.{Made, fresh_sizes, fresh_of, fresh_fits, TablesLeft, tables_left, fresh_tables, list_left, fresh_list}

-- what a fill of a list's first elements leaves of them
pub filled : {A : Type 0} (part l : List A) (n : ℕ) (x : A) → n ≤ length l → part ≡ replicate (length (take n l)) x → part ≡ replicate n x
filled part l n x h e = e ∙ ap (λ m. replicate m x) (length-take-le n l h)

-- so the list has those laid over it
pub filled_over : {A : Type 0} (part l : List A) (n : ℕ) (x : A) → n ≤ length l → part ≡ replicate (length (take n l)) x
    → part ++ drop n l ≡ over (replicate n x) l
filled_over part l n x h e =
    ap (λ p. p ++ drop n l) (filled part l n x h e) ∙ ap (λ m. replicate n x ++ drop m l) (sym (length-replicate n x))

pub links_laid : (l zeros heads : List ℕ) (nodes processes word : ℕ) → word ≡ link_word tail_node false → 2 ≤ nodes
    → zeros ≡ replicate nodes 0 → heads ≡ replicate 2 word
    → heads ++ drop 2 (zeros ++ drop nodes l) ≡ over (fresh_memory nodes processes).links l
unfolding fresh_memory
links_laid l zeros heads zero processes word e h z k = absurd (not-suc-le-zero h)
links_laid l zeros heads (suc zero) processes word e h z k = absurd (not-suc-le-zero (le_of_suc-le-suc h))
links_laid l zeros heads (suc (suc n)) processes word e h z k =
    let f : n ≡ suc (suc n) - 2 = omega arith in
    rw (z, k, e)
    (ap (λ (m : ℕ). 2 ∷ 2 ∷ (replicate n 0 ++ drop (suc (suc m)) l)) (sym (length-replicate {A = ℕ} n 0))
    ∙ ap (λ (m : ℕ). over (2 ∷ 2 ∷ replicate m 0) l) f)

-- ---- what the test of the tables tells, with the count of a fresh list

module _ (a l d : List ℕ) (nodes processes : ℕ) (fits : Bool) where
  abbrev asked : Memory
  asked = lent_memory a l d (record { nodes = nodes; processes = processes; count = 2 })

  module _ (told : fits ≡ tables_fit asked) where
    room : fits ≡ true → Room asked
    room fit = room_of asked (sym told ∙ fit)

    pub two_nodes : fits ≡ true → 2 ≤ nodes
    two_nodes fit = (limits asked (sym told ∙ fit)).two

    pub addresses_long : fits ≡ true → nodes ≤ length a
    unfolding lengths
    addresses_long fit = (room fit).long.addresses

    pub links_long : fits ≡ true → nodes ≤ length l
    unfolding lengths
    links_long fit = (room fit).long.links

    pub deleters_long : fits ≡ true → nodes ≤ length d
    unfolding lengths
    deleters_long fit = (room fit).long.deleters

    -- their first words are as many
    pub addresses_part : fits ≡ true → nodes ≡ length (take nodes a)
    addresses_part fit = sym (length-take-le nodes a (addresses_long fit))

    pub deleters_part : fits ≡ true → nodes ≡ length (take nodes d)
    deleters_part fit = sym (length-take-le nodes d (deleters_long fit))

    -- the words laid over tables that fit are those of a fresh list
    pub words_laid : (a' l' d' : List ℕ) → fits ≡ true
        → a' ≡ over (replicate nodes 0) a → ((p : ℕ) → l' ≡ over (fresh_memory nodes p).links l) → d' ≡ over (replicate nodes 0) d
        → tables_left (lent_memory a' l' d' (fresh_sizes nodes processes)) (Ok (record { nodes = nodes; processes = processes; count = 2 }))
        ≡ fresh_tables (lent_memory a l d (fresh_sizes nodes processes))
    unfolding fresh_memory fresh_tables
    words_laid a' l' d' fit e f g = rw (sym told ∙ fit, e, f processes, g)

    -- tables that do not are left as they are
    pub tables_refused : fits ≡ false
        → tables_left (lent_memory a l d (fresh_sizes nodes processes)) (Err BadSizes) ≡ fresh_tables (lent_memory a l d (fresh_sizes nodes processes))
    unfolding fresh_memory fresh_tables
    tables_refused unfit = rw (sym told ∙ unfit)

-- what the test of the tables tells of what is lent, and of what is refused
pub ruleset tables_told = (two_nodes, addresses_long, links_long, deleters_long, addresses_part, deleters_part, tables_refused)

-- ---- the row beside the tables

-- which answer there is tells whether the tables fit
answered : (fits : Bool) (x laid kept : TablesLeft) → x ≡ cond fits laid kept → x.answer ≡ cond fits laid.answer kept.answer
answered true x laid kept e = λ j. (e j).answer
answered false x laid kept e = λ j. (e j).answer

answer_fresh : (fits : Bool) (sizes z : Sizes) → Ok sizes ≡ cond fits (Ok z) (Err BadSizes) → fits ≡ true
answer_fresh true sizes z e = refl
answer_fresh false sizes z e = absurd (let z : ◌≡◌ {A = ℕ} 0 1 = cc in omega arith)

answer_refused : (fits : Bool) (refusal : Refusal) (z : Sizes) → Err refusal ≡ cond fits (Ok z) (Err BadSizes) → fits ≡ false
answer_refused true refusal z e = absurd (let z : ◌≡◌ {A = ℕ} 0 1 = cc in omega arith)
answer_refused false refusal z e = refl

module _ (m : Memory) (row : List Record) where
  pub row_refused : length row < m.processes → list_left (state_of m row) (Err BadSizes) ≡ fresh_list (state_of m row)
  unfolding fresh_list
  row_refused short = rw (lt-leb m.processes (length row) short)

  module _ (m' : Memory) (answer : Made) (long : m.processes ≤ length row) (made : tables_left m' answer ≡ fresh_tables m) where
    told : answer ≡ cond (fresh_fits m) (Ok (sizes_of (fresh_of m))) (Err BadSizes)
    unfolding fresh_tables
    told = answered (fresh_fits m) _ _ _ made

    pub list_laid : (sizes : Sizes) → answer ≡ Ok sizes
        → list_left (state_of m' (over (replicate m.processes fresh_record) row)) answer ≡ fresh_list (state_of m row)
    unfolding fresh_list fresh
    list_laid sizes is =
        rw (le-leb m.processes (length row) long, answer_fresh (fresh_fits m) sizes _ (sym is ∙ told), sym made)

    pub list_refused : (refusal : Refusal) → answer ≡ Err refusal → list_left (state_of m' row) answer ≡ fresh_list (state_of m row)
    unfolding fresh_list fresh_tables
    list_refused refusal is =
        let unfit = answer_refused (fresh_fits m) refusal _ (sym is ∙ told) in
        let left : tables_left m' answer ≡ tables_left m (Err BadSizes) = made ∙ rw unfit in
        rw (le-leb m.processes (length row) long, unfit) (ap (λ (x : TablesLeft). list_left (state_of x.memory row) x.answer) left)
