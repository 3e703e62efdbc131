-- `scatter::run_at` meets its contract: the places passed are a run.
-- Assumes nothing.
use Prim.Native.Nat.{◌-◌, ◌≤◌}
use Rattle.scatter.proofs.RunAtLaws.{Room}
use Rattle.scatter.specs.Scatter.{RunAt}
use Rattle.scatter.proofs.run_at.Given as goal

abbrev pub invariant-loop-r : goal.invariant-loop-r
invariant-loop-r l = RunAt l.places l.j l.r × (l.r ≤ l.most) × Room l.places l.j l.most

abbrev pub decreases-loop-r : goal.decreases-loop-r
decreases-loop-r l = l.most - l.r
