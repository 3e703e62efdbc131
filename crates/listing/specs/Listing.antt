-- The text of a listing (document 01, "The listing program").
-- Assumes nothing.
use Rattle.std.specs.Prelude.{◌≡◌, cond, List, [], ◌∷◌, ℕ, zero, suc, ◌*◌, ltb, length}
use Rattle.reading.specs.Reading.{Item, Reading}
use Rattle.channel.specs.Frames.{Capture, capture_of, Frame, rules, beginning}
use Rattle.call.specs.Call.{terms_by}
use Rattle.text.specs.Text.{Put}
use Rattle.line.specs.Line.{refusal_line}
use Rattle.lines.specs.Lines.{lines_of}

-- the number of the refusal, or 0: 1 for a direction above 1, else 2 for a capture over 65,536 bytes
abbrev pub number_of : List ℕ → ℕ → ℕ
number_of capture direction = cond (ltb 1 direction) 1 (cond (ltb 65536 (length capture)) 2 0)

-- the capture that is read: all bits of its bytes, n being eight times its length, with profile 0
abbrev pub whole_of : List ℕ → ℕ → Capture
whole_of capture direction = capture_of capture (8 * length capture) (terms_by (record { direction = direction; profile = 0 }))

-- by the number: one line for each item of the reading from the beginning, in order; on a refusal only its line
abbrev pub TextBy : ℕ → List ℕ → ℕ → List ℕ → Type 0
TextBy zero capture direction text = (xs : List (Item Frame)) × Reading rules (whole_of capture direction) beginning xs × (text ≡ lines_of xs)
TextBy (suc number) capture direction text = text ≡ refusal_line (suc number)

-- the text for a capture and its direction
abbrev pub Text : List ℕ → ℕ → List ℕ → Type 0
Text capture direction text = TextBy (number_of capture direction) capture direction text

-- the text for some input: one byte of direction, then the capture; `R 1` without a direction byte
abbrev pub Listing : List ℕ → List ℕ → Type 0
Listing [] text = text ≡ refusal_line 1
Listing (direction ∷ capture) text = Text capture direction text

-- such a text is put into a buffer at a place, and ends at another; all other bytes are as they were
pub record Listed (Is : List ℕ → Type 0) (before : List ℕ) (at : ℕ) (after : List ℕ) (end : ℕ) : Type 0 where
  pub text : List ℕ
  pub is : Is text
  pub put : Put before at text after end
