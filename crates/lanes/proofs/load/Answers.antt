-- `lanes::load` meets its contract: the octets stand in front of zeros.
-- Assumes nothing.
use mathlib.Core.Path.{◌≡◌, ◌∙◌}
use mathlib.Core.List.{◌++◌}
use native.Mathlib.Omega.{arith}
use lib.ListN.{drop, replicate}
use Rattle.std.specs.Int.{w64, from_le_bytes}
use Rattle.lanes.proofs.LaneLaws.{lanes_read}
use Rattle.lanes.proofs.load.Goals as goal

pub returns : goal.returns
returns c =
    let a = c.args in
    let octets = c.copy_from_slice.new.self in
    let read : c.from_le_bytes.result ≡ from_le_bytes w64 (octets ++ drop a.c (replicate 8 0)) = c.from_le_bytes.ensures in
    read ∙ lanes_read a.s.now octets a.at a.c (omega arith) (omega arith) c.copy_from_slice.ensures.after
