-- The item and the cursor of the code, as the reading rules have them.
-- Assumes nothing.
use Rattle.std.specs.Prelude.{ℕ}
use Rattle.reading.specs.Reading as reading
use Rattle.bits.specs.Bit.{bit_at}
use Rattle.channel.specs.Kinds.{body_of}
use Rattle.channel.specs.Coding.{word_at}
use Rattle.channel.specs.Verdict.{Context}
use Rattle.channel.specs.Frames.{Frame}
use Rattle.item.specs.declared.Frame as code
use Rattle.item.specs.declared.Item.{Item}
use Rattle.item.specs.declared.Item.TheVariants as of
use Rattle.item.specs.declared.Cursor.{Cursor}

-- a frame of the code: its body is the first bits of its twenty octets
abbrev pub frame_of : code.Frame → Frame
frame_of f = record { kind = f.kind; start = f.start; body = word_at (bit_at f.octets) 0 (body_of f.kind); tail = f.tail; verdict = f.verdict }

-- the item of the code
abbrev pub item_of : Item → reading.Item Frame
item_of (of.Frame f) = reading.frame (frame_of f)
item_of (of.Gap start length) = reading.gap start length

-- where an item starts
abbrev pub start_of : Item → ℕ
start_of (of.Frame f) = f.start
start_of (of.Gap start length) = start

-- the length of a frame's tail, or of a gap
abbrev pub span_of : Item → ℕ
span_of (of.Frame f) = f.tail
span_of (of.Gap start length) = length

-- the cursor of the code
abbrev pub cursor_of : Cursor → reading.Cursor Context
cursor_of c = record { position = c.position; context = c.context }
