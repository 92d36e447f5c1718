-- Where reading the chain into a buffer stands, how it goes on and how it ends. Rests on Walks.
use mathlib.Core.Path.{◌≡◌, refl, sym, ◌∙◌, ap}
use mathlib.Core.Bool.{Bool, true, false}
use mathlib.Core.List.{List, [], ◌∷◌, ◌++◌, map}
use Prim.Native.Nat.{ℕ, zero, suc, ◌+◌, ◌≤◌, ◌<◌}
use native.Mathlib.Nat.{zero-add, add-zero}
use native.Mathlib.Numerals.{add-one}
use native.Mathlib.Omega.{arith}
use lib.ListN.{length, get_or, set, take, drop, length-map, length-drop, length-set}
use lib.Seq.{length-take-le, take_all, take-add, drop-drop, get_or-drop, paste-suc}
use Rattle.record.specs.Record.{head_node, address}
use Rattle.record.specs.declared.Node.{Node}
use Rattle.record.specs.declared.Address.{Address}
use Rattle.table.specs.Words.{Memory, addresses≔, links≔, address_at}
use Rattle.table.specs.Events.{tables_fit}
use Rattle.table.specs.Chain.{last_of, nodes_after, chain, chain_addresses}
use Rattle.words.specs.declared.Sizes.{Sizes}
use Rattle.words.specs.LentMemory.{lent_memory, sized}
use Rattle.chain.specs.declared.Ahead.{Ahead}
use Rattle.chain.specs.declared.Ahead.TheVariants.{Next}
use Rattle.std.specs.Prelude.{Ok, Err}
use Rattle.record.specs.declared.Refusal.TheVariants.{BadSizes}
use Rattle.chain.specs.Walking.{ahead_from}
use Rattle.chain.specs.Keys.{BufferLeft, buffer_left, numbers, read_keys, keys_of}
use Rattle.chain.proofs.Walks.{Stops, told_next, goes_to, ends_at}

-- ---- lists: what is known of l where a part of it begins with x

module _ {A : Type 0} where
  below_length : (i : ℕ) (l : List A) (x : A) (xs : List A) → drop i l ≡ x ∷ xs → i < length l
  below_length i l x xs e = let h : length (drop i l) ≡ suc (length xs) = ap length e in omega (arith, length-drop i l)

  take_one_more : (i : ℕ) (l : List A) (x : A) (xs : List A) → drop i l ≡ x ∷ xs → take (i + 1) l ≡ take i l ++ (x ∷ [])
  take_one_more i l x xs e = take-add i 1 l ∙ ap (λ r. take i l ++ take 1 r) e

  drop_one_more : (i : ℕ) (l : List A) (x : A) (xs : List A) → drop i l ≡ x ∷ xs → drop (i + 1) l ≡ xs
  drop_one_more i l x xs e = sym (drop-drop 1 i l) ∙ ap (λ r. drop 1 r) e

drop_map : {A B : Type 0} (f : A → B) (i : ℕ) (l : List A) → drop i (map f l) ≡ map f (drop i l)
drop_map f zero l = refl
drop_map f (suc i) [] = refl
drop_map f (suc i) (x ∷ xs) = drop_map f i xs

map_map : {A B C : Type 0} (g : B → C) (f : A → B) (l : List A) → map g (map f l) ≡ map (λ x. g (f x)) l
map_map g f [] = refl
map_map g f (x ∷ xs) = ap (λ ys. g (f x) ∷ ys) (map_map g f xs)

last_of_more : (n : Node) (xs : List Node) (x : Node) → last_of n (xs ++ (x ∷ [])) ≡ x
last_of_more n [] x = refl
last_of_more n (y ∷ ys) x = last_of_more y ys x

-- ---- where the reading stands

-- the chain's addresses as the buffer gets them: one for each node
abbrev keys_on : Memory → List ℕ
keys_on m = numbers (chain_addresses m)

keys_on_lem : (m : Memory) → keys_on m ≡ map (λ n. address_at m n) (chain m)
unfolding chain_addresses
keys_on_lem m = map_map (λ (a : Address). a.0) (λ n. address (address_at m n)) (chain m)

keys_long : (m : Memory) → length (keys_on m) ≡ length (chain m)
keys_long m = ap length (keys_on_lem m) ∙ length-map (chain m) (λ n. address_at m n)

-- so many addresses of the chain are in the buffer, whose words were before; the walk stands on the node that has the last of them
pub record ReadAlong (m : Memory) (before buffer : List ℕ) (from : Node) (read : ℕ) : Type 0 where
  pub passed : read ≤ length (chain m)
  pub words : buffer ≡ take read (keys_on m) ++ drop read before
  pub stands : from ≡ last_of head_node (take read (chain m))
  pub rest : nodes_after m from ≡ drop read (chain m)

along_start : (m : Memory) (before : List ℕ) → ReadAlong m before before head_node 0
unfolding chain
along_start m before = record { passed = omega arith; words = refl; stands = refl; rest = refl }

-- the word written is the next of the buffer
one_word_more : (keys before : List ℕ) (read : ℕ) (x : ℕ) (xs : List ℕ) → read < length before → drop read keys ≡ x ∷ xs →
    set (take read keys ++ drop read before) read x ≡ take (read + 1) keys ++ drop (read + 1) before
one_word_more keys before read x xs room e =
    let is : get_or keys read 0 ≡ x = simp add-zero at (sym (get_or-drop read keys 0 0) ∙ ap (λ l. get_or l 0 0) e) in
    rw (add-one, ← is) (simp zero-add at (paste-suc before 0 keys read 0 (omega arith) (below_length read keys x xs e)))

module _ (m : Memory) (before buffer : List ℕ) (from : Node) (read : ℕ) (w : ReadAlong m before buffer from read) (x : Ahead)
    (told : x ≡ ahead_from m from) where
  along_on : (next : Node) (a : Address) → x ≡ Next next a → read < length before → ReadAlong m before (set buffer read a.0) next (read + 1)
  along_on next a is room =
      let left = nodes_after m next in
      let named : address_at m next ≡ a.0 = ap (λ (a : Address). a.0) (sym (told_next m from x told next a is).1) in
      let part : drop read (chain m) ≡ next ∷ left = sym w.rest ∙ goes_to m from x told next a is in
      let keys : drop read (keys_on m) ≡ a.0 ∷ map (λ n. address_at m n) left
      = ap (drop read) (keys_on_lem m) ∙ drop_map (λ n. address_at m n) read (chain m) ∙ ap (map (λ n. address_at m n)) part ∙ rw named in
      record {
        passed = let h = below_length read (chain m) next _ part in omega arith;
        words = ap (λ b. set b read a.0) w.words ∙ one_word_more (keys_on m) before read a.0 _ room keys;
        stands = sym (ap (last_of head_node) (take_one_more read (chain m) next _ part) ∙ last_of_more head_node (take read (chain m)) next);
        rest = sym (drop_one_more read (chain m) next _ part);
      }

  -- what was read is all that there was room for
  ends : ((A : Type 0) → (l : List A) → length l ≡ length (chain m) → take (length before) l ≡ take read l)
      → buffer_left buffer (Ok (read, x)) ≡ read_keys m before
  unfolding read_keys
  ends all =
      let long : length (take read (keys_on m)) ≡ read = length-take-le read (keys_on m) (omega (arith, keys_long m, w.passed)) in
      rw (all ℕ (keys_on m) (keys_long m), long, all Node (chain m) refl, told, w.words, w.stands)

  along_full : read ≡ length before → buffer_left buffer (Ok (read, x)) ≡ read_keys m before
  along_full full = ends (λ A l same. rw (sym full))

  along_ends : read ≤ length before → Stops x → buffer_left buffer (Ok (read, x)) ≡ read_keys m before
  along_ends room stops =
      let none : drop read (chain m) ≡ [] = sym w.rest ∙ ends_at m from x told stops in
      let short : length (drop read (chain m)) ≡ 0 = ap length none in
      let most : length (chain m) ≤ read = omega (arith, length-drop read (chain m)) in
      ends (λ A l same. take_all (length before) l (omega arith) ∙ sym (take_all read l (omega arith)))

-- ---- the same of every memory that has the lent words

abbrev pub lent_in : (addresses links : List ℕ) → Sizes → Memory → Memory
lent_in addresses links sizes m = sized sizes (links≔ links (addresses≔ addresses m))

module _ (addresses links : List ℕ) (sizes : Sizes) (before : List ℕ) where
  abbrev Lent : Memory → Memory
  Lent = lent_in addresses links sizes

  pub record ReadSoFar (buffer : List ℕ) (from : Node) (read : ℕ) : Type 0 where
    pub room : read ≤ length before
    pub long : length buffer ≡ length before
    pub along : (m : Memory) → ReadAlong (Lent m) before buffer from read

  pub read_start : ReadSoFar before head_node 0
  read_start = record { room = omega arith; long = refl; along = λ m. along_start (Lent m) before }

  module _ (buffer : List ℕ) (from : Node) (read : ℕ) (w : ReadSoFar buffer from read) (x : Ahead)
      (told : (m : Memory) → x ≡ ahead_from (Lent m) from) where
    pub read_on_lem : (next : Node) (a : Address) → x ≡ Next next a → read < length before → ReadSoFar (set buffer read a.0) next (read + 1)
    read_on_lem next a is room = record {
      room = omega arith;
      long = length-set buffer read a.0 ∙ w.long;
      along = λ m. along_on (Lent m) before buffer from read (w.along m) x (told m) next a is room;
    }

    pub read_full : read ≡ length before → (m : Memory) → buffer_left buffer (Ok (length buffer, x)) ≡ read_keys (Lent m) before
    read_full full m =
        let all : length buffer ≡ read = w.long ∙ sym full in rw all (along_full (Lent m) before buffer from read (w.along m) x (told m) full)

    pub read_ends : Stops x → (m : Memory) → buffer_left buffer (Ok (read, x)) ≡ read_keys (Lent m) before
    read_ends stops m = along_ends (Lent m) before buffer from read (w.along m) x (told m) w.room stops

-- ---- what the test of the tables tells

module _ (addresses links deleters : List ℕ) (sizes : Sizes) (buffer : List ℕ) (fit : Bool) where
  abbrev lent : Memory
  lent = lent_memory addresses links deleters sizes

  module _ (told : fit ≡ tables_fit lent) where
    pub keys_read : (x : BufferLeft) → fit ≡ true
        → ((m : Memory) → x ≡ read_keys (lent_in addresses links sizes m) buffer) → x ≡ keys_of lent buffer
    unfolding keys_of
    keys_read x fits e = rw (sym told, fits) (e lent)

    pub keys_refused : fit ≡ false → buffer_left buffer (Err BadSizes) ≡ keys_of lent buffer
    unfolding keys_of
    keys_refused unfit = rw (sym told, unfit)
