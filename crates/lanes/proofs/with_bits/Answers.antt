-- `lanes::with_bits` meets its contract.
-- Assumes nothing.
use native.Mathlib.Omega.{arith}
use Rattle.lanes.proofs.GatherLaws.{put-eight, put-fits}
use Rattle.lanes.proofs.with_bits.Goals as goal

pub overflow_add-result : goal.overflow_add-result
overflow_add-result c = let a = c.args in record { fits = put-fits a.w c.spread.result a.d (omega arith) c.spread.ensures.1 (omega arith) }

pub returns : goal.returns
returns c f g b e shows = let a = c.args in put-eight f a.d b a.w (omega arith) e g c.spread.result c.spread.ensures.1 (c.spread.ensures.0 g b shows)
