-- `put::all_of` meets its contract.
-- Assumes nothing.
use Rattle.put.proofs.RunPutLaws.{ones_show, zeros_show}
use Rattle.put.proofs.all_of.Goals as goal

pub returns-then-b : goal.returns-then-b
returns-then-b c = rw c.if-b.true (ones_show 0)

pub returns-else-b : goal.returns-else-b
returns-else-b c = rw c.if-b.false (zeros_show 0)
