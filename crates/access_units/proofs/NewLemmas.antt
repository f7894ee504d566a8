-- What an acceptor stands for to which nothing was fed.
use Rattle.std.proofs.Common.{◌≡◌, ℕ, List, [], ◌++◌, None, refl}
use Rattle.access_units.specs.AccessUnits.{access_units, grouped}
use Rattle.access_units.specs.Contents.{AreTold, sets_behind}
use Rattle.access_units.specs.Known.{IsKnownTo}
use Rattle.access_units.specs.Pictures.{ArePictures}
use Rattle.access_units.specs.Sets.{no_sets}
use Rattle.access_units.specs.declared.sets.KnownSets.{KnownSets}

pub none_told : (text : List ℕ) → AreTold text []
unfolding AreTold
none_told text = tt

pub no_units : access_units [] None ≡ [] ++ ([] ++ [])
unfolding grouped
no_units = refl

pub sets_of_none : (table : KnownSets) → IsKnownTo table no_sets → IsKnownTo table (sets_behind [])
unfolding sets_behind
sets_of_none table known = known

pub no_pictures : ArePictures [] []
unfolding ArePictures
no_pictures = tt
