-- What a writer took of some bytes: from the front, as many as it took; all of them where that is told. Rests on what a writer holds.
use Rattle.std.specs.Prelude.{◌≡◌, Bool, true, List, [], ◌++◌, ℕ, Option}
use Rattle.std.specs.Io.KnownBytes.{Appends}

pub record Written (before after : Option (List ℕ)) (bytes : List ℕ) (all : Bool) : Type 0 where
  pub taken : List ℕ
  pub left : List ℕ
  pub parts : taken ++ left ≡ bytes
  pub grows : Appends before after taken
  pub whole : all ≡ true → left ≡ []
