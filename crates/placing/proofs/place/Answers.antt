-- `placing::place` meets its contract: every D place lies in a frame, so it fits a byte.
-- Assumes nothing.
use Prim.Native.Nat.{◌-◌}
use native.Mathlib.Omega.{arith}
use Rattle.dplaces.proofs.DPlaceLaws.{places_below, d_length_lem}
use Rattle.placing.proofs.place.Goals as goal

pub overflow_cast-result : goal.overflow_cast-result
overflow_cast-result c = let a = c.args in omega (arith, c.place_of.ensures, places_below a.k (a.d - 1) (omega (arith, d_length_lem a.k)))
