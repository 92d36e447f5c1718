-- The number's last digits, all of them at the start, and one less each turn. Rests on Decimal and Puts.
use Rattle.std.proofs.Common.{ℕ, suc, ◌≡◌, ◌-◌, ◌++◌, List, length, drop, refl, ap, sym, ◌∙◌, arith}
use Rattle.std.proofs.Math.ListN.{length-set}
use Rattle.text.specs.Text.{decimal}
use Rattle.text.specs.Put.{put}
use Rattle.text.specs.Digits.{last_digits}
use Rattle.text.proofs.Decimal.{decimal_is_last, decimal_length}
use Rattle.text.proofs.Puts.{spell_more}
use Rattle.text.proofs.put_decimal.Goals as goal

pub loop-i-init : goal.loop-i-init
loop-i-init c =
    let a = c.args in
    let k : c.places-count.result ≡ length (decimal a.n) = c.places-count.ensures in
    record {
      within = omega arith;
      few = omega (arith, decimal_length a.n);
      part_is = refl;
      spelt = rw k (ap (λ (l : List ℕ). l ++ drop (length (decimal a.n)) a.part.now) (sym (decimal_is_last a.n (omega arith))));
    }

pub loop-i-preserved : goal.loop-i-preserved
loop-i-preserved c =
    let l = c.loop-i in
    let i : l.i ≡ suc (l.i - 1) = omega arith in
    record {
      within = omega arith;
      few = l.invariant.few;
      part_is = simp length-set l.invariant.part_is;
      spelt = spell_more l.part (l.i - 1) l.rest (omega arith) ∙ rw (← i) l.invariant.spelt;
    }

pub returns-clause-result_after : goal.returns-clause-result_after
unfolding last_digits
returns-clause-result_after c =
    let l = c.loop-i in
    let k = c.places-count.ensures in
    let i : 0 ≡ l.i = omega arith in
    let e = ap (λ (m : ℕ). last_digits m l.rest ++ drop m l.part) i ∙ l.invariant.spelt in
    λ j. put (e j) (k j)
