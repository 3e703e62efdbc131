-- What a call brings as numbers, and what it answers (document 01, "Records and calls").
-- Assumes nothing.
use Rattle.std.specs.Prelude.{cond, ℕ, eqb, Result, Ok, Err}
use Rattle.reading.specs.Reading.{Cursor}
use Rattle.channel.specs.declared.Direction.{Direction}
use Rattle.channel.specs.declared.Direction.TheVariants.{Uplink, Downlink}
use Rattle.channel.specs.declared.Terms.{Terms}
use Rattle.channel.specs.Verdict.{Context}
use Rattle.call.specs.declared.TermNumbers.{TermNumbers}
use Rattle.call.specs.declared.CursorNumbers.{CursorNumbers}
use Rattle.call.specs.declared.PageRequest.{PageRequest}
use Rattle.call.specs.declared.WriteRequest.{WriteRequest}
use Rattle.call.specs.declared.Answer.{Answer}
use Rattle.call.specs.declared.Refusal.{Refusal}
use Rattle.call.specs.declared.Refusal.TheVariants.{NotARequest, TooLong, WrongCursor, NoRoom, Unsound, NotDue, NoChannel, Full, KeyPresent, NoSession}

-- what is asked of a page, by the numbers of the call: n, direction, profile, position, context, most
abbrev pub page_request : ℕ → ℕ → ℕ → ℕ → ℕ → ℕ → PageRequest
page_request n d f p x m = record { n = n; terms = record { direction = d; profile = f }; cursor = record { position = p; context = x }; most = m }

-- what is asked of writing, by the numbers of the call: direction, profile, position, context
abbrev pub write_request : ℕ → ℕ → ℕ → ℕ → WriteRequest
write_request d f p x = record { terms = record { direction = d; profile = f }; cursor = record { position = p; context = x } }

-- direction: 0 uplink, 1 downlink
abbrev pub direction_of : ℕ → Direction
direction_of d = cond (eqb d 0) Uplink Downlink

-- what is agreed of a capture, by its numbers
abbrev pub terms_by : TermNumbers → Terms
terms_by t = record { direction = direction_of t.direction; profile = t.profile }

-- a cursor by its numbers
abbrev pub cursor_by : CursorNumbers → Cursor Context
cursor_by c = record { position = c.position; context = c.context }

-- the numbers of the cursor that is answered
abbrev pub next : Answer → CursorNumbers
next a = record { position = a.position; context = a.context }

-- the number of a refusal (document 01's table, and document 02)
abbrev pub number_of : Refusal → ℕ
number_of NotARequest = 1
number_of TooLong = 2
number_of WrongCursor = 3
number_of NoRoom = 4
number_of Unsound = 5
number_of NotDue = 6
number_of NoChannel = 7
number_of Full = 8
number_of KeyPresent = 9
number_of NoSession = 10

-- the number of what may be refused: 0 where it is not
abbrev pub number_in : {A : Type 0} → Result A Refusal → ℕ
number_in (Ok _) = 0
number_in (Err why) = number_of why

-- a call that is not refused: number 0 and index 0, items and bytes, and the cursor moved on
abbrev pub answered_by : ℕ → ℕ → Cursor Context → Answer
answered_by items bytes c = record { number = 0; index = 0; items = items; bytes = bytes; position = c.position; context = c.context }

-- a refusal: its number, the index of the record refused, 0 items, 0 bytes, and the cursor as given
abbrev pub refused_at : ℕ → ℕ → CursorNumbers → Answer
refused_at number index c = record { number = number; index = index; items = 0; bytes = 0; position = c.position; context = c.context }

-- a refusal that is of no record: index 0
abbrev pub refused : ℕ → CursorNumbers → Answer
refused number c = refused_at number 0 c
