-- `dbits::quick_byte` meets its contract: the numbers of an entry are small enough.
-- Assumes nothing.
use Prim.Native.Nat.{◌+◌, ◌*◌, ◌%◌}
use native.Mathlib.Omega.{arith}
use lib.Bits.{and_le_l}
use lib.ListN.{get_or}
use Rattle.dbits.proofs.QuickLaws.{small_product}
use Rattle.dbits.proofs.quick_byte.Goals as goal

pub overflow_add-result : goal.overflow_add-result
overflow_add-result c =
    let o = c.args.o.now in
    let e = c.args.e in
    let a = e.m % 256 in
    let upper = small_product (get_or o a 0) e.f (omega arith) e.small.1 in
    let lower = small_product (get_or o (a + 1) 0) e.h (omega arith) e.small.2 in
    omega (arith, upper, lower, and_le_l (get_or o (a + 1) 0 * e.h) e.m)
