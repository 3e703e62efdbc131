-- `bits::top` meets its contract: what is shifted down and up again is still an octet.
-- Assumes nothing.
use Prim.Native.Nat.{◌-◌}
use native.Mathlib.Omega.{arith}
use Rattle.bits.proofs.BitLaws.{cut_lt}
use Rattle.bits.proofs.top.Goals as goal

pub returns : goal.returns
returns c = cut_lt c.args.x (8 - c.args.k) (omega arith) (omega arith)
