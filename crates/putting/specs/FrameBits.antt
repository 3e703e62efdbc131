-- The bits of frames, one behind the other.
-- Assumes nothing.
use Rattle.std.specs.Prelude.{Bool, true, List, [], ◌∷◌, ◌++◌, map, replicate}
use Rattle.bits.specs.Bit.{count}
use Rattle.channel.specs.Kinds.{body_of}
use Rattle.channel.specs.Frames.{Frame}

-- the bits of a frame: its body, and the ones of its tail
abbrev pub bits_of : Frame → List Bool
bits_of f = map f.body (count (body_of f.kind) 0) ++ replicate f.tail true

-- the bits of frames, one behind the other
abbrev pub all_bits : List Frame → List Bool
all_bits [] = []
all_bits (f ∷ fs) = bits_of f ++ all_bits fs
