-- `record::put_frame` meets its contract: what the calls put are the parts of the record.
-- Assumes nothing.
use Rattle.std.proofs.Common.{◌∙◌}
use Rattle.record.proofs.RecordLaws.{frame-put}
use Rattle.record.proofs.put_frame.Goals as goal

pub returns : goal.returns
returns c =
    rw (c.put_front.ensures, c.number.ensures, c.control_byte.ensures, c.extended_byte.ensures, c.requires.1) at c.put_d.ensures ∙ frame-put c.args.frame.now c.args.out.now c.requires.0
