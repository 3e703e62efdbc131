-- What is seen at a place: the frame that is due, a start of a run, the end of a gap, the item (document 01, "Reading rules").
-- Assumes nothing.
use Rattle.std.specs.Prelude.{◌≡◌, ◌⊎◌, Bool, true, false, List, ℕ, ◌≤◌, ◌<◌, Option, Some, None, ⊤}
use Rattle.reading.specs.Reading.{Cursor, Starts, Obeys}
use Rattle.bits.specs.Bit.{twenty, bits_from}
use Rattle.channel.specs.Verdict.{Context}
use Rattle.channel.specs.Frames.{Capture, Frame, Due, rules}
use Rattle.item.specs.declared.Frame as code
use Rattle.item.specs.declared.Item.{Item}
use Rattle.item.specs.declared.Item.TheVariants as of
use Rattle.item.specs.Item.{frame_of, item_of}

-- the twenty octets from a place on, with zeros for the bits from n on
abbrev pub octets_at : Capture → ℕ → List ℕ
octets_at w p = twenty (bits_from w.bits w.n p)

-- a frame is due at p in context x, and its octets are those from p on; or no frame is due
abbrev pub Seen : Capture → Context → ℕ → Option code.Frame → Type 0
Seen w x p (Some f) = Due w x p (frame_of f) × (f.octets ≡ octets_at w p)
Seen w x p None = (f : Frame) → Due w x p f → ⊥

-- whether a frame starts a run at p
abbrev pub Starting : Capture → ℕ → Bool → Type 0
Starting w p true = (f : Frame) × Starts rules w p f
Starting w p false = (f : Frame) → Starts rules w p f → ⊥

-- the first place from p on where a frame starts a run, or n
pub record GapEnd (w : Capture) (p r : ℕ) : Type 0 where
  pub from : p ≤ r
  pub within : r ≤ w.n
  pub none_starts : (q : ℕ) → p ≤ q → q < r → (f : Frame) → Starts rules w q f → ⊥
  pub stops : (r ≡ w.n) ⊎ ((f : Frame) × Starts rules w r f)

-- what the rules do not speak of: the octets of a frame are those from its start on
abbrev pub Beside : Capture → Item → Type 0
Beside w (of.Frame f) = f.octets ≡ octets_at w f.start
Beside w (of.Gap start length) = ⊤

-- the item at a cursor: it obeys the rules, and every other number of it is settled
pub record ItemAt (w : Capture) (c : Cursor Context) (i : Item) : Type 0 where
  pub obeys : Obeys rules w c (item_of i)
  pub beside : Beside w i
