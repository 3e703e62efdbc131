-- `plans::Plan::new` meets its contract: an entry for each D byte, and between which bytes those stand that have none.
-- Assumes nothing.
use native.Mathlib.Omega.{arith}
use Rattle.channel.specs.Places.{d_places}
use Rattle.dplaces.proofs.DPlaceLaws.{d_length_lem, d_count_le}
use Rattle.plans.proofs.PlanLaws.{planning_entry, planning_none, planning_all}
use Rattle.plans.proofs.one_kind.Plan.new.Goals as goal
use Rattle.plans.proofs.one_kind.Plan.new.Goals.{in-Some, in_default}

pub loop-j-preserved : goal.loop-j-preserved
loop-j-preserved c =
    let l = c.loop-j in
    let ps = d_places c.args.k in
    elim c.match-entry.branch [
      | in-Some w ↦ rw (w.entries-is, c.odd_bytes.ensures, w.in-Some.is) (planning_entry ps l.entries l.from l.to l.j w.in-Some.e (omega (arith, c.d_length-j-end.ensures, d_count_le c.args.k)) w.in-Some.ensures l.invariant)
      | in_default w ↦ rw (w.entries-is, c.odd_bytes.ensures, w.in_default.is) (planning_none ps l.entries l.from l.to l.j l.invariant)
    ]

pub invariant_of-result : goal.invariant_of-result
invariant_of-result c =
    let l = c.loop-j in
    record { planned = planning_all (d_places c.args.k) l.entries l.from l.to l.j (omega (arith, c.d_length-j-end.ensures, d_length_lem c.args.k)) l.invariant }
