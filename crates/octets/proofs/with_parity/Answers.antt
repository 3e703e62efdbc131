-- `octets::with_parity` meets its contract: the parity is that of the packed field.
-- Assumes nothing.
use mathlib.Core.Path.{◌∙◌, ap}
use mathlib.Core.Bool.{Bool, not}
use Rattle.bits.specs.Bit.{bit_at}
use Rattle.channel.specs.Coding.{bits_at}
use Rattle.bits.specs.Put.{put_bit}
use Rattle.fields.proofs.PackedLaws.{odd-packed}
use Rattle.octets.specs.Built.{with_parity}
use Rattle.octets.proofs.with_parity.Goals as goal

pub returns : goal.returns
unfolding with_parity
returns c =
    let a = c.args in
    c.put_bit.ensures
    ∙ ap (λ (b : Bool). put_bit a.o a.p (not b)) (odd-packed c.packed.result c.odd_ones-odd.result (bits_at (bit_at a.o) a.places.now) c.odd_ones-odd.ensures c.packed.ensures)
