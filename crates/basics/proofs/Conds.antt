-- How `search` goes down the conds of a definition from what the code's tests told. Rests on the kit's tests alone.
use mathlib.Core.Path.{◌≡◌}
use mathlib.Core.Bool.{Bool, true, false, cond}
use borrow.Author.Tests.{lt-ltb, le-ltb, le-leb, lt-leb, eq-eqb, ne_eqb}

pub cond_yes : {A : Type 0} (b : Bool) (x y z : A) → b ≡ true → z ≡ x → z ≡ cond b x y
cond_yes b x y z e h = rw e h

pub cond_no : {A : Type 0} (b : Bool) (x y z : A) → b ≡ false → z ≡ y → z ≡ cond b x y
cond_no b x y z e h = rw e h

pub ruleset conds = (cond_yes, cond_no, lt-ltb, le-ltb, le-leb, lt-leb, eq-eqb, ne_eqb)
