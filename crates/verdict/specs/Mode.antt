-- The numbers of the modes of kind 6.
-- Assumes nothing.
use Rattle.std.specs.Prelude.{ℕ, Option, None, Some}
use Rattle.verdict.specs.declared.Mode.{Mode}
use Rattle.verdict.specs.declared.Mode.TheVariants.{M475, M515, M590}

-- 1 for 4,75, 2 for 5,15, 3 for 5,90, 0 for none
abbrev pub mode_number : Option Mode → ℕ
mode_number None = 0
mode_number (Some M475) = 1
mode_number (Some M515) = 2
mode_number (Some M590) = 3
