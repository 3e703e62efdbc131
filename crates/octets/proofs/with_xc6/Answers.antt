-- `octets::with_xc6` meets its contract.
-- Assumes nothing.
use native.Mathlib.Omega.{arith}
use lib.ListN.{take}
use Rattle.channel.specs.Places.{xc_places}
use Rattle.fields.proofs.BelowLaws.{listed_below}
use Rattle.octets.proofs.with_xc6.Goals as goal

pub with_parity-requires : goal.with_parity-requires
with_parity-requires c = (listed_below 160 (take 5 xc_places) tt, omega arith, omega arith)
