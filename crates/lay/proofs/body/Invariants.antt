-- `lay::body` meets its contract: each byte between the first and the last shows its eight bits of the frame.
-- Assumes nothing.
use Prim.Native.Nat.{ℕ, ◌+◌, ◌*◌, ◌-◌, ◌<◌}
use lib.ListN.{get_or}
use Rattle.bits.specs.Bit.{bit_at}
use Rattle.put.specs.Put.{Shows}
use Rattle.lay.proofs.body.Given as goal

abbrev pub invariant-loop-j : goal.invariant-loop-j
invariant-loop-j l = (m : ℕ) → m < l.j → (get_or l.byte-items m 0 < 256) × Shows (get_or l.byte-items m 0) (bit_at l.o) (8 * (m + 1) - l.r)
