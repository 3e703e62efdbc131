-- `timeslot::put_byte` meets its contract.
-- Assumes nothing.
use Prim.Native.Nat.{◌*◌}
use native.Mathlib.Omega.{arith}
use lib.ListN.{get_or}
use Rattle.bits.specs.Bit.{bit_at}
use Rattle.timeslot.specs.Timeslot.{octet_with}
use Rattle.timeslot.proofs.ByteLaws.{eight_of_lem, eight_with, byte_shows}
use Rattle.timeslot.proofs.put_byte.Goals as goal

pub returns : goal.returns
returns c t bytes v put =
    let a = c.args in
    let now = a.timeslot.now in
    let eight = eight_of_lem now a.j a.c c.load-w.result (λ i. omega (arith, c.slice_known-1.given i)) c.requires.2 c.load-w.ensures in
    let made = c.with_bits.ensures (λ i. get_or now i 0) (bit_at bytes) (8 * a.j) eight (byte_shows bytes a.j a.v v) in
    c.store.ensures (octet_with t a.k bytes) t (eight_with t bytes now a.k a.j c.with_bits.result put made) put
