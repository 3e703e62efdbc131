-- `dput::with_byte` meets its contract: the bits of one byte.
-- Assumes nothing.
use mathlib.Core.Path.{◌≡◌}
use Prim.Native.Nat.{◌-◌}
use native.Mathlib.Nat.{zero-add}
use native.Mathlib.Omega.{arith}
use lib.ListN.{length, take, drop, length-drop}
use lib.Seq.{take_all}
use Rattle.bits.specs.Bit.{bit_at}
use Rattle.channel.specs.Places.{d_places}
use Rattle.dput.proofs.RestLaws.{byte_turn, byte-front}
use Rattle.dput.proofs.with_byte.Goals as goal

pub returns : goal.returns
returns c =
    let a = c.args in
    let d = a.d.now in
    let all : take (length d - a.i) (drop a.i d) ≡ drop a.i d = take_all (length d - a.i) (drop a.i d) (omega (arith, length-drop a.i d)) in
    byte_turn a.o c.put.result (d_places a.plan.now.kind) (bit_at d) (bit_at (drop a.i d)) a.i (λ k m. rw (zero-add k) (byte-front d a.i k)) (rw all at c.put.ensures)
