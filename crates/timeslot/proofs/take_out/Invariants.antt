-- `timeslot::take_out` meets its contract. The invariant: the first j bytes are filled.
-- Assumes nothing.
use mathlib.Core.Path.{◌≡◌}
use Prim.Native.Nat.{◌-◌, ◌≤◌}
use lib.ListN.{length}
use Rattle.bits.specs.Bit.{octet_of, bits_from}
use Rattle.lanes.specs.Lanes.{FilledTo}
use Rattle.timeslot.specs.Timeslot.{channel_bit}
use Rattle.timeslot.proofs.take_out.Given as goal

abbrev pub invariant-loop-j : goal.invariant-loop-j
invariant-loop-j l = (l.j ≤ l.whole) × (length l.buffer ≡ length l.initial.buffer) × FilledTo (octet_of (bits_from (channel_bit l.timeslot l.k) (length l.timeslot) 0)) l.j l.initial.buffer l.buffer

abbrev pub decreases-loop-j : goal.decreases-loop-j
decreases-loop-j l = l.whole - l.j
