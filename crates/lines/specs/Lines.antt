-- The lines of the listing (document 01, "The listing program"), and the records that they are made of.
-- Assumes nothing.
use Rattle.std.specs.Prelude.{◌≡◌, List, [], ◌∷◌, ◌++◌, ℕ, ◌+◌, ◌≤◌, ◌<◌, length}
use Rattle.reading.specs.Reading.{Item, gap, frame}
use Rattle.channel.specs.Kinds.{kind_no}
use Rattle.channel.specs.Frames.{Frame}
use Rattle.channel.specs.Record.{record_of, records}
use Rattle.text.specs.Text.{Put}
use Rattle.line.specs.Line.{spaced}

-- the line of an item: `G start length` or `F kind start tail verdict`
abbrev pub line_of : Item Frame → List ℕ
line_of (gap start span) = 71 ∷ spaced (start ∷ span ∷ [])
line_of (frame f) = 70 ∷ spaced (kind_no f.kind ∷ f.start ∷ f.tail ∷ f.verdict ∷ [])

-- the lines of some items, in order
abbrev pub lines_of : List (Item Frame) → List ℕ
lines_of [] = []
lines_of (x ∷ xs) = line_of x ++ lines_of xs

-- the sizes of records by their kinds, a gap first
abbrev pub sizes : List ℕ
sizes = 9 ∷ 26 ∷ 28 ∷ 27 ∷ 28 ∷ 28 ∷ 28 ∷ 30 ∷ 31 ∷ []

-- the numbers of an item fit four bytes
abbrev pub Fits : Item Frame → Type 0
Fits (gap start span) = (start < 4294967296) × (span < 4294967296)
Fits (frame f) = (f.start < 4294967296) × (f.tail < 4294967296)

abbrev pub AllFit : List (Item Frame) → Type 0
AllFit [] = Unit {0}
AllFit (x ∷ xs) = Fits x × AllFit xs

-- bytes that are the record of an item
pub record Recorded (bytes : List ℕ) : Type 0 where
  pub item : Item Frame
  pub fits : Fits item
  pub is : bytes ≡ record_of item

-- the line that is put is that of the item that the bytes are the record of
abbrev pub Lined : List ℕ → List ℕ → ℕ → List ℕ → ℕ → Type 0
Lined bytes before at after end = (x : Item Frame) → Fits x → bytes ≡ record_of x → Put before at (line_of x) after end

-- bytes that are records, and a buffer of some length that has room for their lines from a place on, and for the longest line behind them
pub record Records (bytes : List ℕ) (at long : ℕ) : Type 0 where
  pub items : List (Item Frame)
  pub fit : AllFit items
  pub are : bytes ≡ records items
  pub room : at + length (lines_of items) + 86 ≤ long

-- the lines that are put are those of the items that the bytes are the records of, in order
abbrev pub AllLined : List ℕ → List ℕ → ℕ → List ℕ → ℕ → Type 0
AllLined bytes before at after end = (xs : List (Item Frame)) → AllFit xs → bytes ≡ records xs → Put before at (lines_of xs) after end
