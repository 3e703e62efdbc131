-- `dput::with_odd` meets its contract: each turn puts a byte, and leaves the bytes behind it.
-- Assumes nothing.
use Rattle.channel.specs.Places.{d_places}
use Rattle.dput.specs.Back.{Rest}
use Rattle.dput.proofs.with_odd.Given as goal

abbrev pub invariant-loop-i : goal.invariant-loop-i
invariant-loop-i l = Rest (d_places l.plan.kind) l.d l.initial.i l.initial.octets l.i l.octets
