-- Records that were judged one by one.
-- Assumes nothing.
use Rattle.std.specs.Prelude.{◌≡◌, ◌⊎◌, List, [], ℕ, length}
use Rattle.reading.specs.Reading.{Cursor, over_all}
use Rattle.channel.specs.declared.Terms.{Terms}
use Rattle.channel.specs.Verdict.{Context}
use Rattle.channel.specs.Frames.{Frame, rules}
use Rattle.channel.specs.Sound.{SoundAs, Unsound, sound_number}
use Rattle.taken.specs.Taken.{items, Taken, Decides}

-- a record in front of some bytes is not taken at a cursor, by its number: it is unsound (5), or sound and refused by 6 or 4
abbrev pub Fails : Terms → ℕ → Cursor Context → List ℕ → ℕ → Type 0
Fails terms bits c bytes number =
    ((number ≡ 5) × Unsound terms bytes)
    ⊎ ((f : Frame) × (rest : List ℕ) × SoundAs terms bytes f rest × (number ≡ sound_number terms bits c f))

-- the records in front are taken, and the number decides behind them; how many they are, and the cursor moved on over them
pub record JudgedAs (terms : Terms) (bits : ℕ) (c : Cursor Context) (bytes : List ℕ) (number count : ℕ) (cursor : Cursor Context) : Type 0 where
  pub frames : List Frame
  pub left : List ℕ
  pub taken : Taken terms bits c bytes frames left
  pub decides : Decides terms bits (over_all rules c (items frames)) left number
  pub counted : count ≡ length frames
  pub moved : cursor ≡ over_all rules c (items frames)

-- bytes whose records are all taken, before the end of a buffer of some bits
pub record AllTaken (bits : ℕ) (bytes : List ℕ) : Type 0 where
  pub terms : Terms
  pub cursor : Cursor Context
  pub frames : List Frame
  pub whole : Taken terms bits cursor bytes frames []
