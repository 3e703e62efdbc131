-- `wrongs::four_wrongs` meets its contract: each wrong CRC is its bit.
-- Assumes nothing.
use native.Mathlib.Omega.{arith}
use Rattle.bits.specs.Bit.{bit_at}
use Rattle.word.specs.Words.{octets_in}
use Rattle.wrongs.proofs.WrongLaws.{four_wrongs_lem}
use Rattle.wrongs.proofs.four_wrongs.Goals as goal

pub returns : goal.returns
returns c =
    let w1 = c.one_wrong-w1.ensures in
    let w2 = c.one_wrong-w2.ensures in
    let w3 = c.one_wrong-w3.ensures in
    let w4 = c.one_wrong-w4.ensures in
    (omega (arith, w1.0, w2.0, w3.0, w4.0), four_wrongs_lem (bit_at (octets_in c.args.w)) _ c.args.lists.now _ _ _ _ c.told-lists w1.1 w2.1 w3.1 w4.1)
