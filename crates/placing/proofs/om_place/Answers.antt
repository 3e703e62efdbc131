-- `placing::om_place` meets its contract: its one stretch.
-- Assumes nothing.
use mathlib.Core.Path.{refl}
use Prim.Native.Nat.{◌+◌, ◌/◌}
use native.Mathlib.Omega.{arith}
use Rattle.channel.specs.declared.Kind.TheVariants.{Om}
use Rattle.channel.specs.Places.{d_places}
use Rattle.placing.proofs.PlacingLaws.{Stretch, stretch}
use Rattle.placing.proofs.om_place.Goals as goal

whole : Stretch Om (λ d. d + 21 + (d + 4) / 7) 1 120
unfolding d_places
whole = stretch Om _ _ 120 refl

pub returns : goal.returns
returns c = omega (arith, whole c.args.d (omega arith) (omega arith))
