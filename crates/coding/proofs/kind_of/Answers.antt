-- `coding::kind_of` meets its contract: the kind of the pattern that holds.
-- Assumes nothing.
use Rattle.bits.specs.Bit.{bit_at}
use Rattle.channel.specs.declared.Pattern.TheVariants.{Hr, Low}
use Rattle.word.specs.Words.{octets_in}
use Rattle.coding.proofs.CodingLaws.{kind_in_lem}
use Rattle.coding.proofs.kind_of.Goals as goal

pub returns-in-Hr : goal.returns-in-Hr
returns-in-Hr c =
    let w = c.words_of-w in
    rw w.ensures.octets at (kind_in_lem c.args.t (bit_at (octets_in w.result)) Hr c.hr_kind.result (rw c.in-Hr.is at c.in_ok-pattern_of.ensures) c.hr_kind.ensures)

pub returns-in-Low : goal.returns-in-Low
returns-in-Low c =
    let w = c.words_of-w in
    rw w.ensures.octets at (kind_in_lem c.args.t (bit_at (octets_in w.result)) Low c.low_kind.result (rw c.in-Low.is at c.in_ok-pattern_of.ensures) (c.low_kind.ensures c.args.t.direction))
