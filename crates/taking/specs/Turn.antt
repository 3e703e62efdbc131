-- One record taken or refused.
-- Assumes nothing.
use Rattle.std.specs.Prelude.{◌≡◌, List, ℕ, Result, Ok, Err}
use Rattle.reading.specs.Reading.{Cursor}
use Rattle.channel.specs.declared.Terms.{Terms}
use Rattle.channel.specs.Verdict.{Context}
use Rattle.channel.specs.Sound.{SoundAs, sound_number}
use Rattle.call.specs.declared.Refusal.{Refusal}
use Rattle.call.specs.Call.{number_of}
use Rattle.item.specs.declared.Frame as code
use Rattle.item.specs.Item.{frame_of}
use Rattle.taken.specs.Judged.{Fails}

-- the record in front of some bytes is taken at a cursor, as that of a frame, or it is refused
abbrev pub Turn : Terms → ℕ → Cursor Context → List ℕ → Result code.Frame Refusal → Type 0
Turn t bits c bytes (Ok f) = ((rest : List ℕ) × SoundAs t bytes (frame_of f) rest) × (sound_number t bits c (frame_of f) ≡ 0)
Turn t bits c bytes (Err why) = Fails t bits c bytes (number_of why)
