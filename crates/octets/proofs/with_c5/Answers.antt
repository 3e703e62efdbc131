-- `octets::with_c5` meets its contract.
-- Assumes nothing.
use native.Mathlib.Omega.{arith}
use lib.ListN.{take}
use Rattle.channel.specs.declared.Pattern.TheVariants.{Hr}
use Rattle.channel.specs.Places.{c_places}
use Rattle.fields.proofs.BelowLaws.{listed_below}
use Rattle.octets.proofs.with_c5.Goals as goal

pub with_parity-requires : goal.with_parity-requires
with_parity-requires c = (listed_below 160 (take 4 (c_places Hr)) tt, omega arith, omega arith)
