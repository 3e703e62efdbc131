-- `timeslot::put_back` meets its contract. The invariant: the first j bytes are put.
-- Assumes nothing.
use mathlib.Core.Path.{◌≡◌}
use Prim.Native.Nat.{◌*◌, ◌-◌, ◌≤◌}
use lib.ListN.{length}
use Rattle.timeslot.specs.Share.{PutTo}
use Rattle.timeslot.proofs.put_back.Given as goal

abbrev pub invariant-loop-j : goal.invariant-loop-j
invariant-loop-j l = (l.j ≤ l.whole) × (length l.timeslot ≡ length l.initial.timeslot) × PutTo l.initial.timeslot l.k l.bytes (8 * l.j) l.timeslot

abbrev pub decreases-loop-j : goal.decreases-loop-j
decreases-loop-j l = l.whole - l.j
