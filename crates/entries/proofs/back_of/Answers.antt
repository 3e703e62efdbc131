-- `entries::back_of` meets its contract: the parts do not run into each other.
-- Assumes nothing.
use mathlib.Core.Path.{◌≡◌}
use Prim.Native.Nat.{ℕ, ◌-◌, ◌^◌, ◌≤◌}
use native.Mathlib.Omega.{arith}
use lib.Pow.{pow_mono, pow_pos}
use Rattle.entries.proofs.back_of.Goals as goal

-- a mask of some bits of an octet is a byte
mask-small : (x y e r : ℕ) → x ≡ 2 ^ (8 - e) → y ≡ 2 ^ (8 - e - r) → x - y ≤ 255
mask-small x y e r ex ey = omega (arith, ex, ey, pow_mono {i = 8 - e} {j = 8} (omega arith), pow_pos (8 - e - r))

pub overflow_sub-result : goal.overflow_sub-result
overflow_sub-result c = rw (c.weight-2.ensures, c.weight.ensures) (pow_mono (omega arith))

pub overflow_mul-result : goal.overflow_mul-result
overflow_mul-result c = let small = mask-small c.weight.result c.weight-2.result c.args.e c.args.r c.weight.ensures c.weight-2.ensures in omega arith

pub overflow_add-result-2 : goal.overflow_add-result-2
overflow_add-result-2 c = let small = mask-small c.weight.result c.weight-2.result c.args.e c.args.r c.weight.ensures c.weight-2.ensures in omega arith

pub returns : goal.returns
returns c = let small = mask-small c.weight.result c.weight-2.result c.args.e c.args.r c.weight.ensures c.weight-2.ensures in (rw (c.weight-2.ensures, c.weight.ensures), omega arith)
