-- `placing::place_670` meets its contract: its four stretches.
-- Assumes nothing.
use mathlib.Core.Path.{refl}
use Prim.Native.Nat.{◌+◌, ◌-◌, ◌/◌}
use native.Mathlib.Omega.{arith}
use Rattle.channel.specs.declared.Kind.TheVariants.{Amr670}
use Rattle.channel.specs.Places.{d_places}
use Rattle.placing.proofs.PlacingLaws.{Stretch, stretch}
use Rattle.placing.proofs.place_670.Goals as goal

first : Stretch Amr670 (λ d. d + 8) 1 7
unfolding d_places
first = stretch Amr670 _ _ 7 refl

second : Stretch Amr670 (λ d. d + 12) 8 4
unfolding d_places
second = stretch Amr670 _ _ 4 refl

third : Stretch Amr670 (λ d. d + 13 + (d - 12) / 7) 12 21
unfolding d_places
third = stretch Amr670 _ _ 21 refl

fourth : Stretch Amr670 (λ d. d + 16 + (d - 33) / 15) 33 105
unfolding d_places
fourth = stretch Amr670 _ _ 105 refl

pub returns-then-d-lt8 : goal.returns-then-d-lt8
returns-then-d-lt8 c = omega (arith, first c.args.d (omega arith) (omega arith))

pub returns-then-d-lt12 : goal.returns-then-d-lt12
returns-then-d-lt12 c = omega (arith, second c.args.d (omega arith) (omega arith))

pub returns-then-d-lt33 : goal.returns-then-d-lt33
returns-then-d-lt33 c = omega (arith, third c.args.d (omega arith) (omega arith))

pub returns-else-d-lt33 : goal.returns-else-d-lt33
returns-else-d-lt33 c = omega (arith, fourth c.args.d (omega arith) (omega arith))
