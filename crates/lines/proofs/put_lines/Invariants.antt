-- `lines::put_lines` meets its contract. The loop's invariant: the lines of the records before the rest are put, and the rest are the records of the
-- items whose lines are not.
-- Assumes nothing.
use lib.ListN.{length}
use Rattle.text.specs.Text.{Same}
use Rattle.lines.proofs.RecordLaws.{AllLeft}
use Rattle.lines.proofs.put_lines.Given as goal

abbrev pub invariant-loop-kind : goal.invariant-loop-kind
invariant-loop-kind l =
    AllLeft l.page l.initial.text.bytes.now l.initial.text.end l.text.bytes.now l.text.end l.rest × Same l.initial.text.bytes l.text.bytes

abbrev pub decreases-loop-kind : goal.decreases-loop-kind
decreases-loop-kind l = length l.rest
