-- The plan that the record of an item wants.
-- Assumes nothing.
use Rattle.std.specs.Prelude.{⊤}
use Rattle.item.specs.declared.Item.{Item}
use Rattle.item.specs.declared.Item.TheVariants as of
use Rattle.plans.specs.declared.Plans.{Plans}
use Rattle.plans.specs.Made.{Made}

-- it is made: that of a frame's kind; a gap wants none
abbrev pub MadeFor : Item → Plans → Type 0
MadeFor (of.Frame f) plans = Made plans f.kind
MadeFor (of.Gap start length) plans = ⊤
