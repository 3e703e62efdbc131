-- `line::put_number` meets its contract.
-- Assumes nothing.
use Rattle.text.proofs.TextLaws.{put-put}
use Rattle.line.proofs.put_number.Goals as goal

pub returns-clause-put : goal.returns-clause-put
returns-clause-put c = put-put c.put.ensures.put c.put_decimal.ensures.put
