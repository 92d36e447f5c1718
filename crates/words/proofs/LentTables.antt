-- Tables that are the same as before stay so, one event after another. Rests on LentMemory.
use mathlib.Core.Path.{◌≡◌, refl, ◌∙◌}
use Rattle.words.specs.LentMemory.{SameTables}
use Rattle.words.specs.declared.Tables.{Tables}

pub same_still : (t : Tables) → SameTables t t
same_still t = record {
  addresses = refl;
  addresses_long = refl;
  links = refl;
  links_long = refl;
  deleters = refl;
  deleters_long = refl;
}

pub same_later : (old between new : Tables) → SameTables old between → SameTables between new → SameTables old new
same_later old between new x y = record {
  addresses = y.addresses ∙ x.addresses;
  addresses_long = y.addresses_long ∙ x.addresses_long;
  links = y.links ∙ x.links;
  links_long = y.links_long ∙ x.links_long;
  deleters = y.deleters ∙ x.deleters;
  deleters_long = y.deleters_long ∙ x.deleters_long;
}
