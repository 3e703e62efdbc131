-- `coding::om_xc` meets its contract: by the number of XC1..XC5.
-- Assumes nothing.
use mathlib.Core.Path.{◌∙◌}
use Rattle.bits.specs.Bit.{bit_at}
use Rattle.word.specs.Words.{octets_in}
use Rattle.coding.proofs.CodingLaws.{om_coded}
use Rattle.coding.proofs.om_xc.Goals as goal

pub returns : goal.returns
returns c = c.eq.ensures ∙ om_coded (bit_at (octets_in c.args.w)) c.xc_number.result c.xc_number.ensures
