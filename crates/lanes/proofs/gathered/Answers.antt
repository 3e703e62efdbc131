-- `lanes::gathered` meets its contract.
-- Assumes nothing.
use Prim.Native.Nat.{ℕ, ◌+◌, ◌*◌, ◌/◌, ◌%◌, ◌^◌, ◌<◌, ◌≤◌}
use mathlib.Core.Path.{ap, ◌∙◌}
use native.Mathlib.Nat.{mul-le-mul_right}
use native.Mathlib.Omega.{arith}
use lib.Bits.{bit_and, and_le_l}
use lib.Pow.{shr_le}
use Rattle.lanes.specs.Lanes.{ones}
use Rattle.lanes.proofs.GatherLaws.{gather, shift_up, gathered-is}
use Rattle.lanes.proofs.gathered.Goals as goal

-- what is masked and shifted down is no more than it was
below : (w d : ℕ) → bit_and w (ones * 2 ^ d % 18446744073709551616) / 2 ^ d ≤ w
below w d = let m = ones * 2 ^ d % 18446744073709551616 in omega (arith, and_le_l w m, shr_le (bit_and w m) d)

-- the product has room
product : (m : ℕ) → m < 2 ^ 64 → (m % 4294967296 * 16 + m / 4294967296) * 134480385 < 2 ^ 64
product m h =
    let folded : m % 4294967296 * 16 + m / 4294967296 ≤ 73014444015 = omega arith in
    omega (arith, mul-le-mul_right 134480385 folded)

pub overflow_add-folded : goal.overflow_add-folded
overflow_add-folded c = omega (arith, below c.args.w c.args.d)

pub overflow_mul-result : goal.overflow_mul-result
overflow_mul-result c = let a = c.args in record { fits = product (bit_and a.w (ones * 2 ^ a.d % 18446744073709551616) / 2 ^ a.d) (omega (arith, below a.w a.d)) }

pub returns : goal.returns
returns c f a e = ap (λ m. gather (bit_and c.args.w m / 2 ^ c.args.d)) (shift_up ones c.args.d (omega arith) (omega arith)) ∙ gathered-is f c.args.d a c.args.w (omega arith) e
