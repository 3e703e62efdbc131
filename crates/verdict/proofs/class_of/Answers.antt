-- `verdict::class_of` meets its contract: by two fields of the first word.
-- Assumes nothing.
use native.Mathlib.Omega.{arith}
use Rattle.bits.specs.Bit.{bit_at}
use Rattle.word.specs.Words.{octets_in}
use Rattle.verdict.proofs.VerdictLaws.{class_is}
use Rattle.verdict.proofs.class_of.Goals as goal

pub returns : goal.returns
returns c =
    let high = c.field.ensures in
    let low = c.field-2.ensures in
    (omega (arith, high.0, low.0), class_is (bit_at (octets_in c.args.w)) c.field.result c.field-2.result high.1 low.1)
