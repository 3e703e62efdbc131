-- `masks::Masks::make` meets its contract: the masks of one list are stored among those that are there.
-- Assumes nothing.
use Rattle.std.proofs.Common.{◌≡◌, None, arith, rules, get_or, ◌<◌, length, length-set}
use Rattle.masks.proofs.KeptLaws.{kept_set, more_set, same_set}
use Rattle.masks.proofs.Masks.make.Goals as goal

pub invariant_of-self : goal.invariant_of-self
invariant_of-self c =
    let lists = c.args.self.now.lists in
    let i = c.number-i.result in
    record { kept = kept_set _ i _ (kept_set lists i (get_or lists i None) c.args.self.now.kept (c.args.self.now.kept i)) (search rules) }

pub returns-then-is_none : goal.returns-then-is_none
returns-then-is_none c =
    let lists = c.args.self.now.lists in
    let i = c.number-i.result in
    let long : length lists ≡ 13 = search rules in
    let small : i < 13 = search rules in
    rw (← c.number-i.ensures) (more_set lists _ i _ (same_set lists i) (rw (length-set lists i (get_or lists i None)) (omega arith)) (rw c.if-is_none.true at c.is_none.ensures))
