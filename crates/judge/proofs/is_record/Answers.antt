-- `judge::is_record` meets its contract.
-- Assumes nothing.
use mathlib.Core.Path.{sym, ◌∙◌}
use Rattle.reading.specs.Reading.{frame}
use Rattle.item.specs.Item.{frame_of}
use Rattle.channel.specs.Record.{record_of}
use Rattle.numbers.proofs.SizeLaws.{record_length}
use Rattle.judge.proofs.SoundLaws.{begins_with}
use Rattle.judge.proofs.is_record.Goals as goal

pub returns : goal.returns
returns c =
    let x = frame (frame_of c.args.f.now) in
    let s = c.starts_with in
    begins_with (record_of x) _ c.args.part.now c.frame_size.result s.result (record_length x ∙ sym c.frame_size.ensures) (rw c.put_frame.ensures at s.ensures.value)
