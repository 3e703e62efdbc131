-- A record as the code judges it.
-- Assumes nothing.
use Rattle.std.specs.Prelude.{◌≡◌, Bool, true, false, List, ◌++◌, ℕ, Option, Some, None}
use Rattle.channel.specs.declared.Terms.{Terms}
use Rattle.channel.specs.Frames.{Frame}
use Rattle.channel.specs.Sound.{SoundAs, Unsound}
use Rattle.item.specs.declared.Frame as code
use Rattle.item.specs.Item.{frame_of}
use Rattle.parse.specs.Parsed.{record_from}

-- bytes begin with some others, or do not
abbrev pub BeginsWith : List ℕ → List ℕ → Bool → Type 0
BeginsWith front bytes true = (rest : List ℕ) × (bytes ≡ front ++ rest)
BeginsWith front bytes false = (rest : List ℕ) → bytes ≡ front ++ rest → ⊥

-- the record in front of some bytes is sound, that of a frame, or is not
abbrev pub SoundBy : Terms → List ℕ → Frame → Bool → Type 0
SoundBy t bytes f true = (rest : List ℕ) × SoundAs t bytes f rest
SoundBy t bytes f false = Unsound t bytes

-- a record judged: the frame by its bytes, whose sound record it is; or none, where it is unsound
abbrev pub Judged : Terms → List ℕ → Option code.Frame → Type 0
Judged t bytes (Some f) = (record_from bytes ≡ Some f) × ((rest : List ℕ) × SoundAs t bytes (frame_of f) rest)
Judged t bytes None = Unsound t bytes
