-- `plans::Plan::new` meets its contract: an entry for each D byte, and between which bytes those stand that have none.
-- Assumes nothing.
use Rattle.channel.specs.Places.{d_places}
use Rattle.plans.proofs.PlanLaws.{Planning}
use Rattle.plans.proofs.one_kind.Plan.new.Given as goal

abbrev pub invariant-loop-j : goal.invariant-loop-j
invariant-loop-j l = Planning (d_places l.k) l.entries l.from l.to l.j
