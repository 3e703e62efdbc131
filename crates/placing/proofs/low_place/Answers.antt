-- `placing::low_place` meets its contract: its three stretches.
-- Assumes nothing.
use mathlib.Core.Path.{refl}
use Prim.Native.Nat.{◌+◌, ◌-◌, ◌/◌}
use native.Mathlib.Omega.{arith}
use Rattle.channel.specs.declared.Kind.TheVariants.{Lower}
use Rattle.channel.specs.Places.{d_places}
use Rattle.placing.proofs.PlacingLaws.{Stretch, stretch}
use Rattle.placing.proofs.low_place.Goals as goal

first : Stretch Lower (λ d. d + 8) 1 7
unfolding d_places
first = stretch Lower _ _ 7 refl

second : Stretch Lower (λ d. d + 14) 8 2
unfolding d_places
second = stretch Lower _ _ 2 refl

third : Stretch Lower (λ d. d + 16 + (d - 9) / 7) 10 117
unfolding d_places
third = stretch Lower _ _ 117 refl

pub returns-then-d-lt8 : goal.returns-then-d-lt8
returns-then-d-lt8 c = omega (arith, first c.args.d (omega arith) (omega arith))

pub returns-then-d-lt10 : goal.returns-then-d-lt10
returns-then-d-lt10 c = omega (arith, second c.args.d (omega arith) (omega arith))

pub returns-else-d-lt10 : goal.returns-else-d-lt10
returns-else-d-lt10 c = omega (arith, third c.args.d (omega arith) (omega arith))
