-- `timeslot::take_out` meets its contract. The invariant: the first j bytes are filled.
-- Assumes nothing.
use mathlib.Core.Path.{◌≡◌, refl, ◌∙◌}
use Prim.Native.Nat.{◌+◌, ◌/◌}
use native.Mathlib.Omega.{arith}
use lib.ListN.{length, length-set}
use Rattle.bits.specs.Bit.{octet_of, bits_from}
use Rattle.lanes.proofs.LaneLaws.{filled_next}
use Rattle.timeslot.specs.Timeslot.{channel_bit, bytes_for, taken_out}
use Rattle.timeslot.proofs.ByteLaws.{share_whole, share_left}
use Rattle.timeslot.proofs.take_out.Goals as goal

pub loop-j-init : goal.loop-j-init
loop-j-init c = (omega arith, refl, refl)

pub byte_of-requires : goal.byte_of-requires
byte_of-requires c = (omega arith, omega arith, share_whole (length c.args.timeslot.now) c.loop-j.j (omega arith), omega arith)

pub loop-j-preserved : goal.loop-j-preserved
loop-j-preserved c =
    let a = c.args in
    let l = c.loop-j in
    let f = octet_of (bits_from (channel_bit a.timeslot.now a.k) (length a.timeslot.now) 0) in (
      omega arith,
      length-set l.buffer l.j c.byte_of.result ∙ l.invariant.1,
      filled_next f l.j a.buffer.now l.buffer c.byte_of.result l.invariant.2 c.byte_of.ensures (omega arith),
    )

pub byte_of-requires-then-bits-ne0 : goal.byte_of-requires-then-bits-ne0
byte_of-requires-then-bits-ne0 c = (omega arith, omega arith, share_left (length c.args.timeslot.now), omega arith)

pub returns-then-bits-ne0 : goal.returns-then-bits-ne0
unfolding taken_out
returns-then-bits-ne0 c =
    let a = c.args in
    let l = c.loop-j in
    let f = octet_of (bits_from (channel_bit a.timeslot.now a.k) (length a.timeslot.now) 0) in
    let whole = length a.timeslot.now / 8 in
    let all : l.j ≡ whole = omega arith in
    let needed : whole + 1 ≡ bytes_for (length a.timeslot.now) = omega arith in
    rw needed at (filled_next f whole a.buffer.now l.buffer c.byte_of-then-bits-ne0.result (rw all at l.invariant.2) c.byte_of-then-bits-ne0.ensures (omega arith))

pub returns-else-bits-ne0 : goal.returns-else-bits-ne0
unfolding taken_out
returns-else-bits-ne0 c =
    let a = c.args in
    let l = c.loop-j in
    let needed : l.j ≡ bytes_for (length a.timeslot.now) = omega arith in
    rw needed at l.invariant.2
