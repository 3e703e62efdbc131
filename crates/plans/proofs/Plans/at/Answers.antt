-- `plans::Plans::at` meets its contract: the plan at a kind's place is that of the kind.
-- Assumes nothing.
use Rattle.plans.proofs.PlanLaws.{kept_kind}
use Rattle.plans.proofs.Plans.at.Goals as goal

pub returns : goal.returns
returns c =
    let a = c.args in
    let p = c.in-Some.plan in
    kept_kind a.self.now.made.plans a.k p _ a.self.now.kept c.requires (rw c.place_of.ensures at c.index-made-place_of.is) c.in-Some.is
