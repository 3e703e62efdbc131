-- `crc::right_by` meets its contract: three parities, one for each coefficient of the remainder.
-- Assumes nothing.
use Prim.Native.Nat.{◌%◌, ◌^◌}
use Rattle.std.proofs.Common.{arith}
use Rattle.bits.specs.Bit.{bit_at}
use Rattle.word.specs.Words.{octets_in}
use Rattle.word.proofs.OctetLaws.{held, held_low}
use Rattle.crc.proofs.RightLaws.{right_odd}
use Rattle.crc.proofs.right_by.Goals as goal

pub returns : goal.returns
returns c =
    let w = c.args.w in
    let t = c.args.taps.now in
    rw (c.odd_under.ensures, c.odd_under-2.ensures, c.odd_under-3.ensures) (record {
      octets = λ ps m. right_odd (bit_at (octets_in w)) w.a w.b (w.c % 2 ^ 32) ps t (held w (omega arith) (omega arith)) m;
      holds = λ o ps h m. right_odd (bit_at o) w.a w.b (w.c % 2 ^ 32) ps t (held_low _ _ _ _ h) m;
    })
