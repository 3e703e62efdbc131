-- `tails::first_zero` meets its contract, by one test of every byte and every bit.
-- Assumes nothing.
use native.Mathlib.Omega.{arith}
use Rattle.tails.proofs.TailLaws.{counted_high, counted_none, counted-first, shifted_positive}
use Rattle.tails.proofs.first_zero.Goals as goal

pub nonzero_rem-zeros : goal.nonzero_rem-zeros
nonzero_rem-zeros c = shifted_positive c.args.r c.requires

pub returns-then-zeros-eq0 : goal.returns-then-zeros-eq0
returns-then-zeros-eq0 c = counted_none c.args.x c.args.r (omega (arith, c.ranges.x)) c.requires (omega arith)

pub overflow_sub-result : goal.overflow_sub-result
overflow_sub-result c = counted_high c.args.x c.args.r (omega (arith, c.ranges.x)) c.requires

pub overflow_cast-result : goal.overflow_cast-result
overflow_cast-result c = omega (arith, (counted-first c.args.x c.args.r (omega (arith, c.ranges.x)) c.requires (λ e. omega arith)).within)

pub returns : goal.returns
returns c = counted-first c.args.x c.args.r (omega (arith, c.ranges.x)) c.requires (λ e. omega arith)
