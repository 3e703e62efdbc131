-- Which records are taken, and by which number one is refused (document 01, the table of numbers: 5, 6 and 4 of writing, in that order).
-- Assumes nothing.
use Rattle.std.specs.Prelude.{◌≡◌, true, not, cond, List, ◌++◌, ℕ, ◌≤◌, ◌<◌, eqb, ltb}
use Rattle.reading.specs.Reading.{Cursor, frame}
use Rattle.channel.specs.declared.Terms.{Terms}
use Rattle.channel.specs.Kinds.{body_of, least_tail}
use Rattle.channel.specs.Coding.{word_at, is_body}
use Rattle.channel.specs.Verdict.{Context, verdict_of, allowed}
use Rattle.channel.specs.Frames.{Frame, behind}
use Rattle.channel.specs.Record.{record_of}

-- a frame that terms allow: its body is no longer than its kind has it, fixed bits and coding hold, start and tail fit four bytes
pub record FitFrame (t : Terms) (f : Frame) : Type 0 where
  pub cut : f.body ≡ word_at f.body 0 (body_of f.kind)
  pub holds : is_body t.direction f.body f.kind ≡ true
  pub start_fits : f.start < 4294967296
  pub tail_fits : f.tail < 4294967296

-- the record in front of some bytes is sound, that of f: f is a frame that the terms allow (its fixed bits and coding hold, start and tail fit their four
-- bytes), its tail is no shorter than the least, and the bytes begin with its record
pub record SoundAs (t : Terms) (bytes : List ℕ) (f : Frame) (rest : List ℕ) : Type 0 where
  pub fit : FitFrame t f
  pub least : least_tail t.direction f.kind ≤ f.tail
  pub front : bytes ≡ record_of (frame f) ++ rest

-- number 5: it is the record of no such frame. So it is where the kind is unknown or that of a gap, where the record is cut short, where a bit is set
-- that must be zero, where control or extended is no coding of that kind in that direction, and where the tail is below the least
abbrev pub Unsound : Terms → List ℕ → Type 0
Unsound t bytes = (f : Frame) (rest : List ℕ) → SoundAs t bytes f rest → ⊥

-- the number of a sound record at a cursor, before the end of a buffer of some bits: 6 where its start isn't the cursor's position, its verdict isn't
-- the one due in that context, or rule 2 has no such frame there; 4 where the frame would end past the buffer; else 0
abbrev pub sound_number : Terms → ℕ → Cursor Context → Frame → ℕ
sound_number t bits c f =
    cond (not (eqb f.start c.position)) 6
    (cond (not (eqb f.verdict (verdict_of t c.context f.body f.kind))) 6
    (cond (not (allowed t c.context f.body f.kind)) 6
    (cond (ltb bits (behind f)) 4 0)))
