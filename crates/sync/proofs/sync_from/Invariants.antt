-- `sync::sync_from` meets its contract: no place of the bytes passed has eight zeros and a one, the one that is answered has.
-- Assumes nothing.
use Prim.Native.Nat.{◌*◌}
use Rattle.sync.proofs.SyncLaws.{Before}
use Rattle.sync.proofs.sync_from.Given as goal

abbrev pub invariant-loop-i : goal.invariant-loop-i
invariant-loop-i l = Before l.s l.q (8 * l.i)
