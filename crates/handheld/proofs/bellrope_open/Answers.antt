-- `handheld::bellrope_open` meets its contract, as the check finds alone; and its steps are those that `walks` writes out.
-- Assumes nothing.
use Rattle.std.proofs.Common.{◌≡◌, refl}
use Rattle.walks.proofs.CallMir.{opens}
use Rattle.handheld.proofs.bellrope_open.Code as code

pub steps : code.function ≡ opens
steps = refl
