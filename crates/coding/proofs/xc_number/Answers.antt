-- `coding::xc_number` meets its contract: two bits and four, and their parity.
-- Assumes nothing.
use native.Mathlib.Omega.{arith}
use Rattle.bits.specs.Bit.{bit_at}
use Rattle.word.specs.Words.{octets_in}
use Rattle.coding.proofs.CodingLaws.{xc_packed, xc_of}
use Rattle.coding.proofs.xc_number.Goals as goal

pub returns : goal.returns
returns c =
    let g = bit_at (octets_in c.args.w) in
    let a = c.field in
    let b = c.field-2 in
    rw c.then_some.ensures (xc_of g _ (omega (arith, a.ensures.0, b.ensures.0)) (xc_packed g a.result b.result a.ensures.1 b.ensures.1) c.odd_ones.result c.odd_ones.ensures)
