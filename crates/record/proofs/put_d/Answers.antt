-- `record::put_d` meets its contract: the part from byte 12 on takes as many bytes as the kind has.
-- Assumes nothing.
use Rattle.std.proofs.Common.{◌+◌, ◌-◌, arith}
use Rattle.record.proofs.RecordLaws.{d-put}
use Rattle.record.proofs.put_d.Goals as goal

pub returns : goal.returns
returns c =
    let n = c.d_length-n in
    let d = c.d_bytes-bytes in
    d-put c.args.out.now c.copy_from_slice.new.self d.result _ n.result (12 + n.result - 12) _ (omega arith) c.copy_from_slice.ensures.after n.ensures d.ensures
