-- `handheld::bellrope_session_page` meets its contract, as the check finds alone; and its steps are those that `walks` writes out.
-- Assumes nothing.
use Rattle.std.proofs.Common.{◌≡◌, refl}
use Rattle.walks.proofs.CallMir.{pages}
use Rattle.handheld.proofs.session_page.Symbol.{name as #page}
use Rattle.handheld.proofs.bellrope_session_page.Code as code

pub steps : code.function ≡ pages #page
steps = refl
