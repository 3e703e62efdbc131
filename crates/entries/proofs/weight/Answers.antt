-- `entries::weight` meets its contract.
-- Assumes nothing.
use mathlib.Core.Path.{◌∙◌}
use Prim.Native.Nat.{◌^◌}
use native.Mathlib.Nat.{one-mul}
use native.Mathlib.Omega.{arith}
use lib.Dec.{lit<}
use lib.Pow.{shl_exact}
use Rattle.entries.proofs.weight.Goals as goal

pub returns : goal.returns
returns c = shl_exact {a = 1} 1 c.args.k 32 (lit< tt) (omega arith) ∙ one-mul (2 ^ c.args.k)
