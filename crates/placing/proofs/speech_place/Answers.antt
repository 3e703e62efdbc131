-- `placing::speech_place` meets its contract: its two stretches.
-- Assumes nothing.
use mathlib.Core.Path.{refl}
use Prim.Native.Nat.{◌+◌, ◌/◌}
use native.Mathlib.Omega.{arith}
use Rattle.channel.specs.declared.Kind.TheVariants.{Speech}
use Rattle.channel.specs.Places.{d_places}
use Rattle.placing.proofs.PlacingLaws.{Stretch, stretch}
use Rattle.placing.proofs.speech_place.Goals as goal

first : Stretch Speech (λ d. d + 21 + (d + 4) / 7) 1 44
unfolding d_places
first = stretch Speech _ _ 44 refl

second : Stretch Speech (λ d. d + 25 + d / 7) 45 68
unfolding d_places
second = stretch Speech _ _ 68 refl

pub returns-then-d-lt45 : goal.returns-then-d-lt45
returns-then-d-lt45 c = omega (arith, first c.args.d (omega arith) (omega arith))

pub returns-else-d-lt45 : goal.returns-else-d-lt45
returns-else-d-lt45 c = omega (arith, second c.args.d (omega arith) (omega arith))
