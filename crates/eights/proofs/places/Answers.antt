-- `eights::places` meets its contract, whichever way the places are found.
-- Assumes nothing.
use mathlib.Core.Path.{◌∙◌}
use Rattle.placing.proofs.PlacingLaws.{byte_places}
use Rattle.eights.proofs.places.Goals as goal

pub returns-in-Some : goal.returns-in-Some
returns-in-Some c = let a = c.args in c.part.ensures ∙ byte_places a.k a.j c.size-n.result c.requires c.size-n.ensures
