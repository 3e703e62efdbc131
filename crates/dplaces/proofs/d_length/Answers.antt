-- `dplaces::d_length` meets its contract.
-- Assumes nothing.
use native.Mathlib.Omega.{arith}
use Rattle.dplaces.proofs.DPlaceLaws.{d_count_le}
use Rattle.dplaces.proofs.d_length.Goals as goal

pub overflow_add-result : goal.overflow_add-result
overflow_add-result c = omega (arith, d_count_le c.args.k)
