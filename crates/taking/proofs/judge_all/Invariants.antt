-- `taking::judge_all` meets its contract: the invariant is that the records before those left are taken.
-- Assumes nothing.
use lib.ListN.{length}
use Rattle.item.specs.Item.{cursor_of}
use Rattle.taken.proofs.JudgeLaws.{Judging}
use Rattle.taking.proofs.judge_all.Given as goal

abbrev pub invariant-loop-rest : goal.invariant-loop-rest
invariant-loop-rest l = Judging l.t l.bits (cursor_of l.initial.cursor) l.records l.rest l.items (cursor_of l.cursor)

abbrev pub decreases-loop-rest : goal.decreases-loop-rest
decreases-loop-rest l = length l.rest
