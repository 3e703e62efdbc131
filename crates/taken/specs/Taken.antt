-- Records taken one by one, and what decides behind them (document 01, "Records and calls": Writing and the table of numbers).
-- Assumes nothing.
use Rattle.std.specs.Prelude.{◌≡◌, ◌⊎◌, List, [], ◌∷◌, map, ℕ, ◌<◌}
use Rattle.reading.specs.Reading.{Cursor, Item, frame, over}
use Rattle.channel.specs.declared.Terms.{Terms}
use Rattle.channel.specs.Verdict.{Context}
use Rattle.channel.specs.Frames.{Frame, rules}
use Rattle.channel.specs.Sound.{SoundAs, Unsound, sound_number}

-- frames as items
abbrev pub items : List Frame → List (Item Frame)
items fs = map frame fs

-- the records in front of some bytes are taken one after the other, as those of frames: each is sound, and neither 6 nor 4 is given at the cursor
-- that the one before it left; what is behind them is left
abbrev pub Taken : Terms → ℕ → Cursor Context → List ℕ → List Frame → List ℕ → Type 0
Taken terms bits c bytes [] left = bytes ≡ left
Taken terms bits c bytes (f ∷ fs) left = (rest : List ℕ) × SoundAs terms bytes f rest × (sound_number terms bits c f ≡ 0) × Taken terms bits (over rules c (frame f)) rest fs left

-- what decides there: nothing is left (0), the record there is unsound (5), or it is sound and refused by 6 or 4
abbrev pub Decides : Terms → ℕ → Cursor Context → List ℕ → ℕ → Type 0
Decides terms bits c [] number = number ≡ 0
Decides terms bits c (b ∷ bs) number =
    ((number ≡ 5) × Unsound terms (b ∷ bs))
    ⊎ ((f : Frame) × (rest : List ℕ) × SoundAs terms (b ∷ bs) f rest × (number ≡ sound_number terms bits c f) × (0 < number))
