-- `verdict::lower_verdict` meets its contract: the lists of a mode are those of the definition.
-- Assumes nothing.
use Rattle.std.proofs.Common.{◌≡◌, arith}
use Rattle.verdict.specs.declared.Mode.TheVariants.{M475, M515, M590}
use Rattle.channel.specs.Checks.{checks}
use Rattle.masks.specs.Kept.{covered}
use Rattle.verdict.proofs.lower_verdict.Goals as goal

pub returns-in-Some-M475 : goal.returns-in-Some-M475
unfolding covered checks
returns-in-Some-M475 c = let e : c.in-Some-M475.field-0 ≡ M475 = rw c.in-Some-M475.is at c.in-Some-M475.field-0-is in rw (c.in-Some-M475.is, e) (omega (arith, c.four_wrongs.ensures.1))

pub returns-in-Some-M515 : goal.returns-in-Some-M515
unfolding covered checks
returns-in-Some-M515 c = let e : c.in-Some-M515.field-0 ≡ M515 = rw c.in-Some-M515.is at c.in-Some-M515.field-0-is in rw (c.in-Some-M515.is, e) (omega (arith, c.four_wrongs-in-Some-M515.ensures.1))

pub returns-in-Some-M590 : goal.returns-in-Some-M590
unfolding covered checks
returns-in-Some-M590 c = let e : c.in-Some-M590.field-0 ≡ M590 = rw c.in-Some-M590.is at c.in-Some-M590.field-0-is in rw (c.in-Some-M590.is, e) (omega (arith, c.one_wrong.ensures.1))
