-- `scatter::run_at` meets its contract: the places passed are a run.
-- Assumes nothing.
use native.Mathlib.Omega.{arith}
use native.Mathlib.Nat.{le_antisymm}
use native.Mathlib.Numerals.{add-one}
use Rattle.scatter.proofs.RunAtLaws.{run_first, run_more}
use Rattle.scatter.proofs.run_at.Goals as goal

pub loop-r-init : goal.loop-r-init
loop-r-init c = (run_first c.args.places.now c.args.j c.requires, omega arith, (omega arith, omega arith, omega arith, omega arith))

pub loop-r-preserved : goal.loop-r-preserved
loop-r-preserved c =
    let l = c.loop-r in
    let next = c.loop-r-test.true in
    (run_more c.args.places.now c.args.j l.r _ l.invariant.0 l.invariant.2 next c.if-places-j.false, rw add-one next, l.invariant.2)

pub returns : goal.returns
returns c = rw (le_antisymm c.loop-r.invariant.1 c.loop-r-test.false) at c.loop-r.invariant.0
