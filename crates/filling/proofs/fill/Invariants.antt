-- `filling::fill` meets its contract: the invariant is that the items done are a stretch from the cursor, with their records in front.
-- Assumes nothing.
use Prim.Native.Nat.{◌-◌, ◌≤◌}
use Rattle.reading.proofs.FillLaws.{Filling}
use Rattle.channel.specs.Frames.{rules}
use Rattle.channel.specs.Record.{record_of}
use Rattle.capture.specs.Capture.{capture_of}
use Rattle.item.specs.Item.{cursor_of}
use Rattle.filling.proofs.fill.Given as goal

abbrev pub invariant-loop-page : goal.invariant-loop-page
invariant-loop-page l = record {
  filling : Filling rules record_of (capture_of l.capture) (cursor_of l.fn.c) l.most l.initial.buffer l.buffer l.page.bytes l.page.items (cursor_of l.page.cursor);
  within : l.page.cursor.position ≤ l.capture.bits;
}

abbrev pub decreases-loop-page : goal.decreases-loop-page
decreases-loop-page l = l.most - l.page.items
