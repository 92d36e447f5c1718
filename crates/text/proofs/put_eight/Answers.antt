-- The bytes of the word, the first lowest, are the digits. Rests on Decimal.
use Rattle.std.proofs.Common.{ℕ, List, ◌++◌, drop, ap, ◌∙◌}
use Rattle.text.specs.Digits.{last_digits}
use Rattle.text.specs.Put.{put}
use Rattle.text.proofs.Decimal.{eight_bytes}
use Rattle.text.proofs.put_eight.Goals as goal

pub returns : goal.returns
unfolding last_digits
returns c =
    ap (λ (bytes : List ℕ). put (bytes ++ drop 8 c.args.part.now) 8)
    (c.copy_from_slice.ensures.after ∙ c.to_le_bytes.ensures ∙ eight_bytes c.args.n c.spelt-text.result c.spelt-text.ensures)
