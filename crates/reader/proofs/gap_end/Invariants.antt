-- `reader::gap_end` meets its contract: nothing starts at the places passed, because the first nine bits do not stand there, another fixed bit differs,
-- or no frame is seen.
-- Assumes nothing.
use mathlib.Core.Path.{◌≡◌}
use Prim.Native.Nat.{◌-◌, ◌≤◌}
use Rattle.capture.specs.Capture.{capture_of}
use Rattle.reader.proofs.GapLaws.{Passed}
use Rattle.reader.proofs.gap_end.Given as goal

abbrev pub invariant-loop-place : goal.invariant-loop-place
invariant-loop-place l = l.q ≡ l.initial.q

abbrev pub invariant-places : goal.invariant-places
invariant-places l = (l.from ≤ l.q) × (l.q ≤ l.n) × Passed (capture_of l.capture) l.from l.q

abbrev pub decreases-places : goal.decreases-places
decreases-places l = l.n - l.q
