-- `scatter::at_places` meets its contract: what is left to be put, into the octets so far, gives what is wanted.
-- Assumes nothing.
use mathlib.Core.Path.{◌≡◌}
use Prim.Native.Nat.{◌-◌, ◌≤◌}
use lib.ListN.{length, drop}
use Rattle.bits.specs.Bit.{bit_at}
use Rattle.scatter.specs.Scatter.{put_places}
use Rattle.scatter.proofs.at_places.Given as goal

abbrev pub invariant-loop-j : goal.invariant-loop-j
invariant-loop-j l = (l.j ≤ length l.places) × (length l.octets ≡ length l.initial.octets) × (put_places l.octets (drop l.j l.places) (bit_at l.from) l.j ≡ put_places l.initial.octets l.places (bit_at l.from) 0)

abbrev pub decreases-loop-j : goal.decreases-loop-j
decreases-loop-j l = length l.places - l.j
