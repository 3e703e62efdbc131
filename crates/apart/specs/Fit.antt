-- The items that records can tell apart: what a reading or writing has (document 01, "Records and calls").
-- Assumes nothing.
use Rattle.std.specs.Prelude.{List, [], ◌∷◌, ◌<◌}
use Rattle.reading.specs.Reading.{Item, gap, frame}
use Rattle.channel.specs.declared.Terms.{Terms}
use Rattle.channel.specs.Frames.{Frame}
use Rattle.channel.specs.Sound.{FitFrame}

-- an item that terms allow; start and length of a gap fit four bytes
abbrev pub Fit : Terms → Item Frame → Type 0
Fit t (gap start length) = (start < 4294967296) × (length < 4294967296)
Fit t (frame f) = FitFrame t f

-- each of some items
abbrev pub AllFit : Terms → List (Item Frame) → Type 0
AllFit t [] = Unit {0}
AllFit t (x ∷ xs) = Fit t x × AllFit t xs
