-- `crc::masks_of` meets its contract: the masks are those of the places behind the ones that are left.
-- Assumes nothing.
use mathlib.Core.Path.{◌∙◌, ap}
use Prim.Native.Nat.{ℕ, ◌<◌}
use Rattle.std.specs.declared.iter.Rev.{Rev}
use Rattle.std.proofs.Common.{Iter}
use Rattle.crc.proofs.ParityLaws.{behind_none, behind_below, behind_more, behind_all, behind_bits}
use Rattle.crc.proofs.masks_of.Goals as goal
use Rattle.crc.proofs.masks_of.Goals.{In-Some}

-- what `with_tap` asks
below : (c : In-Some) → c.in-Some.place.now < 160
below c = behind_below _ _ _ _ _ _ _ _ c.in-Some.ensures.steps c.loop-place.invariant c.requires

pub loop-place-init : goal.loop-place-init
loop-place-init c = behind_none _ _ (ap (λ (r : Rev (Iter ℕ)). r.iter.rest.now) c.into_iter-place-iterator.ensures.into_iter_gives ∙ ap (λ (r : Iter ℕ). r.rest.now) c.rev-place-items.ensures.source ∙ c.iter.ensures.rest)

pub with_tap-taps-requires : goal.with_tap-taps-requires
with_tap-taps-requires c = (below (goal.at.with_tap-taps-requires c).In-Some, (behind_bits _ _ _ _ _ _ c.loop-place.invariant).0)

pub with_tap-taps-requires-in-loop-place : goal.with_tap-taps-requires-in-loop-place
with_tap-taps-requires-in-loop-place c = (below (goal.at.with_tap-taps-requires-in-loop-place c).In-Some, (behind_bits _ _ _ _ _ _ c.loop-place.invariant).1)

pub with_tap-taps-requires-in-loop-place-2 : goal.with_tap-taps-requires-in-loop-place-2
with_tap-taps-requires-in-loop-place-2 c = (below (goal.at.with_tap-taps-requires-in-loop-place-2 c).In-Some, (behind_bits _ _ _ _ _ _ c.loop-place.invariant).2)

pub loop-place-preserved : goal.loop-place-preserved
loop-place-preserved c =
    behind_more _ _ _ _ _ _ _ _ c.in-Some.ensures.steps c.loop-place.invariant _ c.with_tap-taps.ensures c.with_tap-taps-in-loop-place.ensures c.with_tap-taps-in-loop-place-2.ensures

pub returns : goal.returns
returns c = behind_all _ _ _ _ _ _ c.in-None.ensures.steps.0 c.loop-place.invariant
