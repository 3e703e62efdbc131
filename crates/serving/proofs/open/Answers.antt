-- `serving::open` meets its contract, as the check finds alone; and its steps are those that `ListMir` writes out.
-- Assumes nothing.
use Rattle.std.proofs.Common.{◌≡◌, refl}
use Rattle.serving.proofs.ListMir.{opens}
use Rattle.serving.proofs.open.Code as code

pub steps : code.function ≡ opens
steps = refl
