-- A node is struck at most once in a run, by a delete that has it in its record; and a delete answered true was requested before the strike of its
-- node and answered after it. Rests on Winners.
use Rattle.table.proofs.Common.{◌≡◌, ℕ, suc, ◌≤◌, ◌<◌, arith, dec_lt, Memory, Answer}
use Rattle.table.proofs.Laws.Numbered.{Used, asked_in, Marked, Plain}
use Rattle.table.proofs.Invariant.Moments.{marked_later, later, rank_held, rank_now}
use Rattle.table.proofs.Invariant.Known.{SawHeld}
use Rattle.table.proofs.Invariant.Played.{Played, memory_at, record_then, process_at, asked_at}
use Rattle.table.proofs.Invariant.OpenOperations.{course, orderly}
use Rattle.table.proofs.Invariant.HeldChanges.{TakesHeld}
use Rattle.table.proofs.Invariant.HeldByPlace.{StruckBy, Changes, keeps_all, inserted, struck, changes}
use Rattle.table.proofs.Invariant.Winners.{Won, won_at, won_saw, won_marked, Strikes, strike_at}

module _ (ρ : Played) where
  abbrev M : ℕ → Memory
  M = memory_at ρ

  pub struck_by : {t n : ℕ} (c : Changes ρ t) → Strikes ρ c n → (r : ℕ) × StruckBy ρ t r n
  struck_by (keeps_all h) z = absurd z
  struck_by (inserted r x) z = absurd z
  struck_by (struck r n x) z = (r, rw z at x)

  -- what is struck stays struck
  pub marked_since : {t r n : ℕ} → StruckBy ρ t r n → (w : ℕ) → suc t ≤ w → Marked (M w) n
  marked_since {t} {r} {n} s w l = marked_later (later (course ρ w) (suc t) l) n used s.takes.marked
    where
      used : Used (M (suc t)) n
      used = ((course ρ (suc t)).keeps t (omega arith)).used n ((orderly ρ t).used n s.takes.held.on)

  -- a moment at which n is plain is not after its strike
  pub plain_till : {t r n : ℕ} → StruckBy ρ t r n → (w : ℕ) → Plain (M w) n → w ≤ t
  plain_till {t} s w plain = elim (dec_lt t w) [ yes l ↦ absurd (omega (arith, marked_since s w l)) | no l ↦ omega arith ]

  pub struck_at_once : {t t' r r' n : ℕ} → StruckBy ρ t r n → StruckBy ρ t' r' n → t ≡ t'
  struck_at_once {t} {t'} s s' = omega (arith, plain_till s t' s'.takes.held.plain, plain_till s' t s.takes.held.plain)

  -- ---- a delete answered true

  -- the strike of its node, of the address that it asked for
  pub record StrikeOf (r n : ℕ) (a : Answer) : Type 0 where
    pub at_event : ℕ
    pub marker : ℕ
    pub strike : StruckBy ρ at_event marker n
    pub after : r < at_event
    pub before : at_event < a.time
    pub takes : TakesHeld (M at_event) (M (suc at_event)) n (asked_at ρ r)

  pub strike_of : {T r n : ℕ} {a : Answer} → Won ρ T r n a → StrikeOf r n a
  strike_of {T} {r} {n} {a} wn = record {
    at_event = z.0;
    marker = s.0;
    strike = s.1;
    after = omega (arith, saw.since.after, z.1);
    before = z.2;
    takes = rw same_address at s.1.takes;
  }
    where
      saw : SawHeld M r a.time (asked_in (record_then ρ a.time (process_at ρ r))) n
      saw = won_saw ρ wn

      z : (t : ℕ) × (saw.w ≤ t) × (t < a.time) × Strikes ρ (changes ρ t) n
      z = strike_at ρ saw.w a.time n saw.since.upto saw.plain (won_marked ρ wn)

      s : (r' : ℕ) × StruckBy ρ z.0 r' n
      s = struck_by (changes ρ z.0) z.3

      same_address : asked_at ρ s.0 ≡ asked_at ρ r
      same_address = omega (
        arith,
        rank_held (M z.0) (asked_at ρ s.0) n s.1.takes.held,
        rank_now (course ρ z.0) saw.w z.1 saw.on,
        saw.named,
        (won_at ρ wn).0.busy.named,
      )
