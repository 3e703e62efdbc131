-- `dput::quick_put` meets its contract: no bit is lost by the shifts.
-- Assumes nothing.
use Prim.Native.Nat.{◌/◌, ◌%◌, ◌<◌}
use native.Mathlib.Omega.{arith}
use lib.ListN.{get_or}
use Rattle.entries.specs.Entry.{back}
use Rattle.dput.proofs.RestLaws.{shift_exact, cut_exact}
use Rattle.dput.proofs.quick_put.Goals as goal

pub returns : goal.returns
unfolding back
returns c =
    let a = c.args in
    let m = a.e.m in
    let x = get_or a.o.now (m % 256) 0 in
    let hx : x < 256 = omega arith in
    let hs : m / 65536 % 16 < 16 = omega arith in
    let hb : a.b < 256 = omega arith in
    (rw ((cut_exact x (m / 65536 % 16) hx hs).0, shift_exact a.b (m / 65536 % 16) hb hs), hb)
