-- Which plans are made, and which stay made.
-- Assumes nothing.
use Rattle.std.specs.Prelude.{◌≡◌, ◌-◌, IsSome, get_or}
use Rattle.std.specs.declared.option.Option.{Option}
use Rattle.std.specs.declared.option.Option.TheVariants.{None}
use Rattle.std.specs.Borrow.{MutBor, Fml}
use Rattle.std.specs.Io.BufRead.{Rests}
use Rattle.channel.specs.declared.Kind.{Kind}
use Rattle.channel.specs.Kinds.{kind_no}
use Rattle.plans.specs.declared.one_kind.Plan.{Plan}
use Rattle.plans.specs.declared.Plans.{Plans}
use Rattle.plans.specs.contracts.Plans.{the_row}

-- what stands at a kind's place: its plan, or none
abbrev pub plan_of : Plans → Kind → Option Plan
plan_of plans k = get_or plans.made.plans (kind_no k - 1) None

-- the plan of a kind is made
abbrev pub Made : Plans → Kind → Type 0
Made plans k = IsSome (plan_of plans k)

-- the plans that were made are what they were, and so is what is lent of the table
pub record StillMade (before after : Plans) : Type 0 where
  pub still : (o : Kind) → Made before o → plan_of after o ≡ plan_of before o
  pub same_table : after.table ≡ before.table

-- plans of which that of a kind is made, if it was not, and those that were made are what they were
pub record MadeMore (k : Kind) (before after : Plans) : Type 0 where
  pub here : Made after k
  pub others : StillMade before after

-- the same of plans of which one is lent, once it is given back
abbrev pub RestsMade : MutBor Plans → Kind → Fml
RestsMade plans k = Rests the_row plans (MadeMore k plans.now)
