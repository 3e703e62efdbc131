-- `put::put_bit` meets its contract: a run of one bit.
-- Assumes nothing.
use Rattle.bits.specs.Put.{put_bits}
use Rattle.put.proofs.put_bit.Goals as goal

pub returns : goal.returns
unfolding put_bits
returns c = c.put_top.ensures (λ _. c.args.b) 0 c.all_of.ensures
