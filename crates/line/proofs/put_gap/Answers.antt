-- `line::put_gap` meets its contract.
-- Assumes nothing.
use Rattle.text.proofs.TextLaws.{put-put}
use Rattle.line.proofs.put_gap.Goals as goal

pub returns-clause-put : goal.returns-clause-put
returns-clause-put c = put-put c.put.ensures.put (put-put c.put_number.ensures.put (put-put c.put_number-2.ensures.put c.put-2.ensures.put))
