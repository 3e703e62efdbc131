-- `dplaces::table` gives the list that the rule gives, by one computation over the whole table.
-- Assumes nothing.
use mathlib.Core.Path.{refl}
use Rattle.channel.specs.Places.{d_places}
use Rattle.dplaces.specs.DPlaces.{all_places}
use Rattle.dplaces.proofs.table.Goals as goal

pub invariant_of-result : goal.invariant_of-result
unfolding all_places d_places
invariant_of-result c = record { whole = refl }
