-- The capture of the code, as the definitions have it.
-- Assumes nothing.
use Rattle.channel.specs.Frames as channel
use Rattle.capture.specs.declared.Capture.{Capture}

-- the bits of its bytes that are read, and what is agreed
abbrev pub capture_of : Capture → channel.Capture
capture_of w = channel.capture_of w.bytes.now w.bits w.terms
