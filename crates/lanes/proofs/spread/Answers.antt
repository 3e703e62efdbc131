-- `lanes::spread` meets its contract.
-- Assumes nothing.
use Prim.Native.Nat.{◌+◌, ◌*◌, ◌/◌, ◌%◌}
use native.Mathlib.Omega.{arith}
use lib.Bits.{and_le_r}
use Rattle.lanes.specs.Lanes.{ones}
use Rattle.lanes.proofs.GatherLaws.{spread-is}
use Rattle.lanes.proofs.spread.Goals as goal

pub returns : goal.returns
returns c = let v = c.args.v in (λ g a h. spread-is v g a (omega arith) h, and_le_r ((v / 16 + v % 16 * 4294967296) * 134480385 / 8) ones)
