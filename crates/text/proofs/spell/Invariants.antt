-- `text::spell` meets its contract. The loop's invariant: the digits behind from stand, and those of the rest are due in front of them.
-- Assumes nothing.
use mathlib.Core.Path.{◌≡◌}
use Prim.Native.Nat.{◌≤◌}
use lib.ListN.{length}
use Rattle.text.proofs.TextLaws.{Spelled}
use Rattle.text.proofs.spell.Given as goal

abbrev pub invariant-loop-rest : goal.invariant-loop-rest
invariant-loop-rest l = Spelled l.n l.from l.rest l.digits × (length l.digits ≡ 20) × (l.from ≤ 19)

abbrev pub decreases-loop-rest : goal.decreases-loop-rest
decreases-loop-rest l = l.rest
