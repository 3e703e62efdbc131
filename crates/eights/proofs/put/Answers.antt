-- `eights::put` meets its contract: the places of a byte lie in a frame, rise, and are one to eight.
-- Assumes nothing.
use native.Mathlib.Omega.{arith}
use Rattle.eights.proofs.EightLaws.{eight_of_lem}
use Rattle.eights.proofs.put.Goals as goal

pub at_places-requires : goal.at_places-requires
at_places-requires c = let e = eight_of_lem c.args.k c.args.j c.requires.0 in rw c.places.ensures (e.below, omega (arith, e.few, c.requires.1))
