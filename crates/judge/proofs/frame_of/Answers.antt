-- `judge::frame_of` meets its contract.
-- Assumes nothing.
use Rattle.apart.proofs.FrontLaws.{record_none}
use Rattle.judge.proofs.frame_of.Goals as goal

pub returns-in_err-f : goal.returns-in_err-f
returns-in_err-f c =
    let a = c.args in
    rw c.from_residual.ensures (record_none a.part.now c.in_err-f.ensures.0 a.t, tt)
