-- `listing::list` meets its contract. The loop's invariant: the lines of the pages so far are put, and are those of a stretch from the beginning to the cursor.
-- Assumes nothing.
use mathlib.Core.Path.{◌≡◌}
use Prim.Native.Nat.{◌-◌}
use lib.ListN.{length}
use Rattle.text.specs.Text.{Same}
use Rattle.listing.proofs.ListLaws.{Ongoing}
use Rattle.listing.proofs.list.Given as goal

abbrev pub invariant-loop-table : goal.invariant-loop-table
invariant-loop-table l =
    Ongoing l.capture l.direction l.cursor l.initial.text.bytes.now l.initial.text.end l.text.bytes.now l.text.end × (length l.buffer ≡ 4096)
    × Same l.initial.text.bytes l.text.bytes

abbrev pub decreases-loop-table : goal.decreases-loop-table
decreases-loop-table l = l.n - l.cursor.position
