-- `dput::with_d` meets its contract: the bytes up to those that have no entry, those, and the bytes behind them.
-- Assumes nothing.
use mathlib.Core.Path.{◌∙◌}
use native.Mathlib.Omega.{arith}
use Rattle.channel.specs.Places.{d_places}
use Rattle.dplaces.proofs.DPlaceLaws.{d_length_lem, d_count_le}
use Rattle.dput.proofs.RestLaws.{plan_back, rest_all}
use Rattle.dput.proofs.with_d.Goals as goal

pub by_entries-requires : goal.by_entries-requires
by_entries-requires c =
    let p = c.args.plan.now in
    let long = d_length_lem p.kind in
    (omega arith, omega (arith, p.planned.from_to, p.planned.within, d_count_le p.kind), omega (arith, c.requires, p.planned.from_to, p.planned.within))

pub by_entries-requires-2 : goal.by_entries-requires-2
by_entries-requires-2 c =
    let p = c.args.plan.now in
    let n = c.d_length.ensures in
    (omega (arith, p.planned.within, d_length_lem p.kind), omega (arith, d_count_le p.kind), omega (arith, c.requires))

pub returns : goal.returns
returns c =
    let a = c.args in
    let p = a.plan.now in
    let ps = d_places p.kind in
    let n = c.d_length in
    let long = d_length_lem p.kind in
    let first = c.by_entries.ensures ps (plan_back ps p.entries p.from p.to 0 _ p.planned (omega (arith, p.planned.from_to, p.planned.within)) (λ j x y u v. omega arith)) in
    let last = c.by_entries-2.ensures ps (plan_back ps p.entries p.from p.to _ _ p.planned (omega (arith, n.ensures)) (λ j x y u v. omega arith)) in
    rest_all ps a.d.now a.o c.by_entries-2.new.o n.result (omega (arith, n.ensures)) (last ∙ c.with_odd-octets.ensures ∙ first)
