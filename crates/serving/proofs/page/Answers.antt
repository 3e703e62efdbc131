-- `serving::page` meets its contract, as the check finds alone; and its steps are those that `ListMir` writes out.
-- Assumes nothing.
use Rattle.std.proofs.Common.{◌≡◌, refl}
use Rattle.serving.proofs.ListMir.{pages}
use Rattle.serving.proofs.page.Code as code

pub steps : code.function ≡ pages
steps = refl
