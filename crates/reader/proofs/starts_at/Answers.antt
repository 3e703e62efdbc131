-- `reader::starts_at` meets its contract: by the frame that is seen in context 0.
-- Assumes nothing.
use Rattle.capture.specs.Capture.{capture_of}
use Rattle.reader.proofs.GapLaws.{start_seen}
use Rattle.reader.proofs.starts_at.Goals as goal

pub returns : goal.returns
returns c =
    let seen = c.frame_at-seen in
    rw c.is_some.ensures (start_seen (capture_of c.args.capture.now) c.args.q seen.result seen.ensures)
