-- `putting::put_all` meets its contract: the invariant is that the frames before those left are put.
-- Assumes nothing.
use mathlib.Core.Path.{◌≡◌}
use mathlib.Core.List.{List, []}
use Prim.Native.Nat.{◌*◌}
use lib.ListN.{length}
use Rattle.reading.specs.Reading.{Cursor}
use Rattle.channel.specs.declared.Terms.{Terms}
use Rattle.channel.specs.Verdict.{Context}
use Rattle.channel.specs.Frames.{Frame}
use Rattle.taken.specs.Taken.{Taken}
use Rattle.putting.proofs.FrameLaws.{Putting}
use Rattle.putting.proofs.put_all.Given as goal

abbrev pub invariant-loop-rest : goal.invariant-loop-rest
invariant-loop-rest l = (length l.buffer ≡ length l.initial.buffer)
    × ((t : Terms) (c : Cursor Context) (fs : List Frame) → Taken t (8 * length l.initial.buffer) c l.records fs [] → Putting t (8 * length l.initial.buffer) c l.records fs l.initial.buffer l.rest l.buffer)

abbrev pub decreases-loop-rest : goal.decreases-loop-rest
decreases-loop-rest l = length l.rest
