-- `octets::octets_by` meets its contract.
-- Assumes nothing.
use Rattle.octets.proofs.StepLaws.{built_from}
use Rattle.octets.proofs.octets_by.Goals as goal

pub returns : goal.returns
returns c =
    let a = c.args in
    built_from a.part.now a.plan.now.kind c.fixed-fixed.result c.with_control-coded.result c.with_extended-extended.result c.with_d-full.result c.with_parities.result c.requires
    c.fixed-fixed.ensures c.with_control-coded.ensures c.with_extended-extended.ensures c.with_d-full.ensures c.with_parities.ensures
