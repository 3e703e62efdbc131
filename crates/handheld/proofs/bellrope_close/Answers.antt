-- `handheld::bellrope_close` meets its contract, as the check finds alone; and its steps are those that `walks` writes out.
-- Assumes nothing.
use Rattle.std.proofs.Common.{◌≡◌, refl}
use Rattle.walks.proofs.CallMir.{closes}
use Rattle.handheld.proofs.bellrope_close.Code as code

pub steps : code.function ≡ closes
steps = refl
