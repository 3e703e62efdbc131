-- `dplaces::PlaceTable::part` meets its contract: every kind's part ends in the table.
-- Assumes nothing.
use mathlib.Core.Path.{◌≡◌, ap}
use Prim.Native.Nat.{◌+◌, ◌-◌}
use native.Mathlib.Omega.{arith}
use lib.ListN.{length}
use Rattle.dplaces.proofs.DPlaceLaws.{all-length, part_end, part-is}
use Rattle.dplaces.proofs.PlaceTable.part.Goals as goal

pub overflow_add-from : goal.overflow_add-from
overflow_add-from c = omega (arith, part_end c.args.k)

pub overflow_add-result : goal.overflow_add-result
overflow_add-result c = omega (arith, part_end c.args.k)

pub slice_bounds-result-end : goal.slice_bounds-result-end
slice_bounds-result-end c = omega (arith, part_end c.args.k, ap length c.args.self.whole, all-length)

pub returns : goal.returns
returns c =
    let a = c.args in
    let from = c.d_from in
    let e : from.result + a.behind + a.count - (from.result + a.behind) ≡ a.count = omega arith in
    rw (e, from.ensures) (part-is a.k a.self.places.now a.behind a.count a.self.whole c.requires)
