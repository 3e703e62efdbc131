-- `dput::with_odd` meets its contract: each turn puts a byte, and leaves the bytes behind it.
-- Assumes nothing.
use mathlib.Core.Path.{◌≡◌, ◌∙◌}
use native.Mathlib.Omega.{arith}
use Rattle.dplaces.proofs.DPlaceLaws.{d_length_lem}
use Rattle.dput.proofs.with_odd.Goals as goal

pub with_byte-next-requires : goal.with_byte-next-requires
with_byte-next-requires c = let p = c.args.plan.now in (c.requires, omega (arith, p.planned.within, d_length_lem p.kind))

pub loop-i-preserved : goal.loop-i-preserved
loop-i-preserved c = c.with_byte-next.ensures ∙ c.loop-i.invariant

pub returns : goal.returns
returns c = let l = c.loop-i in let e : l.i ≡ c.args.plan.now.to = omega (arith, c.args.plan.now.planned.from_to) in rw e at l.invariant
