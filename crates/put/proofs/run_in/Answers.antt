-- `put::run_in` meets its contract: what the mask takes out, and what it lets in.
-- Assumes nothing.
use mathlib.Core.Path.{◌≡◌}
use Prim.Native.Nat.{ℕ, ◌+◌, ◌-◌, ◌/◌, ◌^◌, ◌<◌, ◌≤◌}
use native.Mathlib.Omega.{arith}
use lib.Bits.{bit_and}
use Rattle.put.specs.Put.{put_run}
use Rattle.put.proofs.RunPutLaws.{mask_falls, mask_is, run_masked, run_lt}
use Rattle.put.proofs.run_in.Goals as goal

-- the byte that is put together
made : (y a c x : ℕ) → a + c ≤ 8 → y < 256 → x < 256
    → y - bit_and y (256 / 2 ^ a - 256 / 2 ^ (a + c)) + bit_and (x / 2 ^ a) (256 / 2 ^ a - 256 / 2 ^ (a + c)) ≡ put_run y a c (x / 2 ^ (8 - c))
made y a c x l hy hx = run_masked y a c x l hy hx (256 / 2 ^ a - 256 / 2 ^ (a + c)) (mask_is a c l)

pub overflow_sub-mask : goal.overflow_sub-mask
overflow_sub-mask c = mask_falls c.args.a c.args.c

pub overflow_add-result : goal.overflow_add-result
overflow_add-result c = let a = c.args in omega (arith, made a.y a.a a.c a.x (omega arith) (omega arith) (omega arith), run_lt a.y a.a a.c a.x (omega arith) (omega arith) (omega arith))

pub overflow_cast-result-3 : goal.overflow_cast-result-3
overflow_cast-result-3 c = let a = c.args in omega (arith, made a.y a.a a.c a.x (omega arith) (omega arith) (omega arith), run_lt a.y a.a a.c a.x (omega arith) (omega arith) (omega arith))

pub returns : goal.returns
returns c = let a = c.args in made a.y a.a a.c a.x (omega arith) (omega arith) (omega arith)
