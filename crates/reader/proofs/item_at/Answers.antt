-- `reader::item_at` meets its contract: the frame that is due, or the gap.
-- Assumes nothing.
use Rattle.capture.specs.Capture.{capture_of}
use Rattle.reader.proofs.ItemLaws.{item-gap}
use Rattle.reader.proofs.item_at.Goals as goal

pub returns : goal.returns
returns c =
    let a = c.args in
    let end = c.gap_end-end in
    item-gap (capture_of a.capture.now) a.c end.result c.in_default.ensures c.requires end.ensures
