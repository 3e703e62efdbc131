-- `tails::tail_at` meets its contract: all bits passed are ones.
-- Assumes nothing.
use mathlib.Core.Path.{◌≡◌}
use mathlib.Core.Bool.{true}
use Prim.Native.Nat.{ℕ, ◌-◌, ◌≤◌, ◌<◌}
use Rattle.bits.specs.Bit.{bit_at}
use Rattle.tails.proofs.tail_at.Given as goal

abbrev pub invariant-loop-end : goal.invariant-loop-end
invariant-loop-end l = (l.q ≤ l.end) × ((i : ℕ) → l.q ≤ i → i < l.end → bit_at l.capture.bytes.now i ≡ true)

abbrev pub decreases-loop-end : goal.decreases-loop-end
decreases-loop-end l = l.n - l.end
