-- `put::put_top` meets its contract: a run inside one byte.
-- Assumes nothing.
use native.Mathlib.Omega.{arith}
use Rattle.bits.specs.Put.{put_bits}
use Rattle.put.proofs.RunPutLaws.{top-put}
use Rattle.put.proofs.put_top.Goals as goal

pub returns-then-c-eq0 : goal.returns-then-c-eq0
unfolding put_bits
returns-then-c-eq0 c = λ g a h. rw c.if-c-eq0.true

pub returns : goal.returns
returns c = λ g a h.
    let b = c.args in
    rw c.run_in.ensures (top-put b.s.now b.p b.c b.x g a (omega arith) (omega arith) (omega arith) h)
