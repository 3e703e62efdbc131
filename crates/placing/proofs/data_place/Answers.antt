-- `placing::data_place` meets its contract: its two stretches.
-- Assumes nothing.
use mathlib.Core.Path.{refl}
use Prim.Native.Nat.{◌+◌, ◌-◌, ◌/◌}
use native.Mathlib.Omega.{arith}
use Rattle.channel.specs.declared.Kind.TheVariants.{Data}
use Rattle.channel.specs.Places.{d_places}
use Rattle.placing.proofs.PlacingLaws.{Stretch, stretch}
use Rattle.placing.proofs.data_place.Goals as goal

first : Stretch Data (λ d. d + 13) 1 2
unfolding d_places
first = stretch Data _ _ 2 refl

second : Stretch Data (λ d. d + 15 + (d - 2) / 7) 3 124
unfolding d_places
second = stretch Data _ _ 124 refl

pub returns-then-d-lt3 : goal.returns-then-d-lt3
returns-then-d-lt3 c = omega (arith, first c.args.d (omega arith) (omega arith))

pub returns-else-d-lt3 : goal.returns-else-d-lt3
returns-else-d-lt3 c = omega (arith, second c.args.d (omega arith) (omega arith))
