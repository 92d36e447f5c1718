-- What has to be known of a history for it to have an order: what is held at each moment, which operation changes that at which event, and
-- for every other operation answered true or false a moment that agrees with its answer. Rests on History.
use mathlib.Core.Path.{◌≡◌}
use mathlib.Core.Logic.{◌≢◌, ◌⊎◌, ◌↔◌}
use mathlib.Core.Bool.{true}
use mathlib.Core.Option.{some}
use Prim.Native.Nat.{ℕ, suc, ◌≤◌, ◌<◌}
use Rattle.record.specs.Record.{false_answer, true_answer, fail_answer}
use Rattle.record.specs.declared.Address.{Address}
use Rattle.table.specs.History.{Kind, insert, delete, find, Answer, Operation, History}

-- the answer v leaves the set as it is, and is right where In says whether the address is in it
abbrev pub AnswerTells : Kind → (v : ℕ) (In : Type 0) → Type 0
AnswerTells insert v In = (v ≡ false_answer) × In
AnswerTells delete v In = (v ≡ false_answer) × (In → ⊥)
AnswerTells find v In = ((v ≡ true_answer) × In) ⊎ ((v ≡ false_answer) × (In → ⊥))

-- a moment between request and answer that agrees with the answer
pub record Witness (H : History) (held : ℕ → Address → Type 0) (r : ℕ) (o : Operation) (v : Answer) : Type 0 where
  pub moment : ℕ
  pub begun : r < moment
  pub ended : moment ≤ v.time
  pub there : moment ≤ H.events
  pub tells : AnswerTells o.kind v.value (held moment o.address)

-- ---- changes, at event t

module _ (held : ℕ → Address → Type 0) (t : ℕ) (o : Operation) where
  -- an insert that adds exactly its address
  pub record Adds : Type 0 where
    pub kind : o.kind ≡ insert
    pub free : held t o.address → ⊥
    pub adds : (a : Address) → held (suc t) a ↔ ((a.0 ≡ o.address.0) ⊎ held t a)

  -- a delete that removes exactly its address
  pub record Removes : Type 0 where
    pub kind : o.kind ≡ delete
    pub taken : held t o.address
    pub removes : (a : Address) → held (suc t) a ↔ ((a.0 ≢ o.address.0) × held t a)

module _ (H : History) (held : ℕ → Address → Type 0) (t : ℕ) where
  -- the operation that event r requested takes effect: it is current, and where it is answered, then true
  pub record Changer (r : ℕ) (o : Operation) : Type 0 where
    pub asked : H.asked r ≡ some o
    pub begun : r ≤ t
    pub ended : (v : Answer) → o.answer ≡ some v → (t < v.time) × (v.value ≡ true_answer)
    pub does : Adds held t o ⊎ Removes held t o

  pub data Change : Type 0 where
    still : ((a : Address) → held (suc t) a ↔ held t a) → Change
    by : (r : ℕ) (o : Operation) → Changer r o → Change

-- the change is by the operation that event r requested
abbrev pub IsBy : {H : History} {held : ℕ → Address → Type 0} {t : ℕ} → Change H held t → ℕ → Type 0
IsBy (still same) r = ⊥
IsBy (by r' o c) r = r' ≡ r

-- ---- what a machine supplies

pub record Supplies (H : History) : Type 1 where
  pub held : ℕ → Address → Type 0
  pub begins : (a : Address) → (H.start a ≡ true) ↔ held 0 a
  pub finishes : (a : Address) → held H.events a ↔ H.finish a
  pub change : (t : ℕ) → t < H.events → Change H held t
  -- no operation takes effect twice
  pub once : (t t' r : ℕ) (l : t < H.events) (l' : t' < H.events) → IsBy (change t l) r → IsBy (change t' l') r → t ≡ t'
  -- an operation answered true or false took effect, or changed nothing and has a witness
  pub answered : (r : ℕ) (o : Operation) (v : Answer) → H.asked r ≡ some o → o.answer ≡ some v → v.value ≢ fail_answer
      → ((t : ℕ) × (l : t < H.events) × IsBy (change t l) r) ⊎ Witness H held r o v
