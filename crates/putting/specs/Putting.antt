-- A buffer that the bits of frames are put in.
-- Assumes nothing.
use Rattle.std.specs.Prelude.{◌≡◌, List, [], ℕ, ◌*◌, length}
use Rattle.reading.specs.Reading.{Cursor}
use Rattle.bits.specs.Put.{put_bits}
use Rattle.channel.specs.declared.Terms.{Terms}
use Rattle.channel.specs.Verdict.{Context}
use Rattle.channel.specs.Frames.{Frame}
use Rattle.taken.specs.Taken.{Taken}
use Rattle.putting.specs.FrameBits.{all_bits}

-- the buffer after has the bits of the frames whose records these bytes are
abbrev pub PutAs : List ℕ → List ℕ → List ℕ → Type 0
PutAs bytes before after =
    (terms : Terms) (c : Cursor Context) (fs : List Frame) → Taken terms (8 * length before) c bytes fs [] → after ≡ put_bits before c.position (all_bits fs)
