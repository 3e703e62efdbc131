-- `handheld::session_page` meets its contract, as the check finds alone; and its steps are those that `walks` writes out.
-- Assumes nothing.
use Rattle.std.proofs.Common.{◌≡◌, refl}
use Rattle.walks.proofs.CallMir.{with_none}
use Rattle.handheld.proofs.session_page.Code as code

pub steps : code.function ≡ with_none
steps = refl
