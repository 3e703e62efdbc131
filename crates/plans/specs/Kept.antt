-- The plans that are made, each at its kind's place.
-- Assumes nothing.
use Rattle.std.specs.Prelude.{◌≡◌, List, ℕ, suc, get_or}
use Rattle.std.specs.declared.option.Option.{Option}
use Rattle.std.specs.declared.option.Option.TheVariants.{None, Some}
use Rattle.channel.specs.Kinds.{kind_no}
use Rattle.plans.specs.declared.one_kind.Plan.{Plan}

-- a plan that is kept is that of the kind whose number the place has
abbrev pub Kept : List (Option Plan) → Type 0
Kept made = (i : ℕ) (p : Plan) → get_or made i None ≡ Some p → kind_no p.kind ≡ suc i
