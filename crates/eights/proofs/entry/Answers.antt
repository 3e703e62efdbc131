-- `eights::entry` meets its contract: the places of a byte lie in a frame, rise, and are one to eight.
-- Assumes nothing.
use Rattle.eights.proofs.EightLaws.{eight_of_lem}
use Rattle.eights.proofs.entry.Goals as goal

pub entry_of-requires : goal.entry_of-requires
entry_of-requires c = let e = eight_of_lem c.args.k c.args.j c.requires in rw c.places.ensures (e.below, e.rise, e.some, e.few)
