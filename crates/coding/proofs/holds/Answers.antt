-- `coding::holds` meets its contract: which bits are fixed, and the fixed ones, are those of the definition, by computing them at every place.
-- Assumes nothing.
use mathlib.Core.Path.{refl}
use Rattle.channel.specs.declared.Pattern.TheVariants.{Hr, Low, P670, P740}
use Rattle.channel.specs.Places.{zeros_of, ones_of}
use Rattle.coding.proofs.holds.Goals as goal

pub returns-in-Hr : goal.returns-in-Hr
returns-in-Hr c =
    rw c.in-Hr.is (c.holds_by.ensures (zeros_of Hr) (ones_of Hr) (record { mask_is = refl; fixed_is = refl; inside = refl; apart = refl }))

pub returns-in-Low : goal.returns-in-Low
returns-in-Low c =
    rw c.in-Low.is (c.holds_by-in-Low.ensures (zeros_of Low) (ones_of Low) (record { mask_is = refl; fixed_is = refl; inside = refl; apart = refl }))

pub returns-in-P670 : goal.returns-in-P670
returns-in-P670 c =
    rw c.in-P670.is (c.holds_by-in-P670.ensures (zeros_of P670) (ones_of P670) (record { mask_is = refl; fixed_is = refl; inside = refl; apart = refl }))

pub returns-in-P740 : goal.returns-in-P740
returns-in-P740 c =
    rw c.in-P740.is (c.holds_by-in-P740.ensures (zeros_of P740) (ones_of P740) (record { mask_is = refl; fixed_is = refl; inside = refl; apart = refl }))
