-- `dplaces::PlaceTable::of` meets its contract: every kind's part ends in the table.
-- Assumes nothing.
use mathlib.Core.Path.{ap}
use native.Mathlib.Omega.{arith}
use lib.ListN.{length}
use Rattle.dplaces.proofs.DPlaceLaws.{all-length, part_end, kind-part}
use Rattle.dplaces.proofs.PlaceTable.of.Goals as goal

pub overflow_add-result : goal.overflow_add-result
overflow_add-result c = omega (arith, part_end c.args.k)

pub slice_bounds-result-end : goal.slice_bounds-result-end
slice_bounds-result-end c = omega (arith, part_end c.args.k, ap length c.args.self.whole, all-length)

pub returns : goal.returns
returns c = let a = c.args in kind-part a.k a.self.places.now _ _ a.self.whole c.d_from-from.ensures c.d_count.ensures
