-- `drawing::put_heading` meets its contract.
-- Assumes nothing.
use Rattle.text.proofs.TextLaws.{put-put}
use Rattle.drawing.proofs.put_heading.Goals as goal

pub returns-clause-put : goal.returns-clause-put
returns-clause-put c =
    let body = rw c.body.ensures at c.put_decimal.ensures.put in
    let up = rw c.least_tail.ensures at c.put_decimal-2.ensures.put in
    let down = rw c.least_tail-2.ensures at c.put_decimal-3.ensures.put in
    put-put (put-put (put-put (put-put (put-put (put-put c.put.ensures.put body) c.put-2.ensures.put) up) c.put-3.ensures.put) down) c.put-4.ensures.put
