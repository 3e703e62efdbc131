-- `word::Words::field` meets its contract: of the octets that the words have.
-- Assumes nothing.
use native.Mathlib.Omega.{arith}
use Rattle.bits.specs.Bit.{bit_at}
use Rattle.word.specs.Words.{octets_in}
use Rattle.word.proofs.OctetLaws.{held}
use Rattle.word.proofs.Words.field.Goals as goal

pub returns : goal.returns
returns c =
    let w = c.args.self in
    let f = c.field_of.ensures in
    (f.0, f.1 (bit_at (octets_in w)) (held w (omega arith) (omega arith)).first)
