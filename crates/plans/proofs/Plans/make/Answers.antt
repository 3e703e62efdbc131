-- `plans::Plans::make` meets its contract: a plan is kept at its kind's place.
-- Assumes nothing.
use mathlib.Core.Path.{◌∙◌, ap}
use lib.ListN.{length, length-set}
use Rattle.plans.proofs.PlanLaws.{kept_next}
use Rattle.plans.proofs.Plans.make.Goals as goal

pub invariant_of-self : goal.invariant_of-self
invariant_of-self c =
    let now = c.args.self.now in
    let kept = c.keep.ensures in
    record {
      room = ap length kept ∙ length-set _ _ _ ∙ now.room;
      kept = rw (kept, c.place_of-at.ensures) (kept_next now.made.plans c.args.k c.new-plan.result now.room c.new-plan.ensures now.kept);
    }
