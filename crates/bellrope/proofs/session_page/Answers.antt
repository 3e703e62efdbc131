-- `bellrope::session_page` meets its contract, as the check finds alone; and its steps are those that `walks` writes out.
-- Assumes nothing.
use Rattle.std.proofs.Common.{◌≡◌, refl}
use Rattle.dplaces.proofs.table.Symbol.{name as #table}
use Rattle.walks.proofs.CallMir.{with_table}
use Rattle.bellrope.proofs.session_page.Code as code

pub steps : code.function ≡ with_table #table
steps = refl
