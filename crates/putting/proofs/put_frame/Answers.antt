-- `putting::put_frame` meets its contract.
-- Assumes nothing.
use Rattle.putting.proofs.FrameLaws.{frame-put}
use Rattle.putting.proofs.put_frame.Goals as goal

pub returns : goal.returns
returns c =
    let a = c.args in
    frame-put a.f.now c.body-body.result a.buffer.now c.body.new.s c.tail.new.s c.body-body.ensures c.body.ensures c.tail.ensures
