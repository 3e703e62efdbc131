-- `serving::close` meets its contract, as the check finds alone; and its steps are those that `ListMir` writes out.
-- Assumes nothing.
use Rattle.std.proofs.Common.{◌≡◌, refl}
use Rattle.serving.proofs.ListMir.{closes}
use Rattle.serving.proofs.close.Code as code

pub steps : code.function ≡ closes
steps = refl
