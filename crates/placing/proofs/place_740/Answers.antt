-- `placing::place_740` meets its contract: its four stretches.
-- Assumes nothing.
use mathlib.Core.Path.{refl}
use Prim.Native.Nat.{◌+◌}
use native.Mathlib.Omega.{arith}
use Rattle.channel.specs.declared.Kind.TheVariants.{Amr740}
use Rattle.channel.specs.Places.{d_places}
use Rattle.placing.proofs.PlacingLaws.{Stretch, stretch}
use Rattle.placing.proofs.place_740.Goals as goal

first : Stretch Amr740 (λ d. d + 2) 1 5
unfolding d_places
first = stretch Amr740 _ _ 5 refl

second : Stretch Amr740 (λ d. d + 3) 6 7
unfolding d_places
second = stretch Amr740 _ _ 7 refl

third : Stretch Amr740 (λ d. d + 7) 13 4
unfolding d_places
third = stretch Amr740 _ _ 4 refl

fourth : Stretch Amr740 (λ d. d + 8) 17 135
unfolding d_places
fourth = stretch Amr740 _ _ 135 refl

pub returns-then-d-lt6 : goal.returns-then-d-lt6
returns-then-d-lt6 c = omega (arith, first c.args.d (omega arith) (omega arith))

pub returns-then-d-lt13 : goal.returns-then-d-lt13
returns-then-d-lt13 c = omega (arith, second c.args.d (omega arith) (omega arith))

pub returns-then-d-lt17 : goal.returns-then-d-lt17
returns-then-d-lt17 c = omega (arith, third c.args.d (omega arith) (omega arith))

pub returns-else-d-lt17 : goal.returns-else-d-lt17
returns-else-d-lt17 c = omega (arith, fourth c.args.d (omega arith) (omega arith))
