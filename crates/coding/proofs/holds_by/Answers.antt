-- `coding::holds_by` meets its contract: of the words of both.
-- Assumes nothing.
use Rattle.coding.proofs.holds_by.Goals as goal

pub returns : goal.returns
returns c = λ zeros ones f. c.fixed.ensures.octets zeros ones (rw (c.words_of.ensures.octets, c.words_of-2.ensures.octets) f)
