-- `crc::masks_of` meets its contract: the masks are those of the places behind the ones that are left.
-- Assumes nothing.
use Rattle.crc.proofs.ParityLaws.{Behind}
use Rattle.crc.proofs.masks_of.Given as goal

abbrev pub invariant-loop-place : goal.invariant-loop-place
invariant-loop-place l = Behind l.places l.place-iterator.iter.rest.now l.x2 l.x1 l.x0 l.taps
