-- `placing::eight` meets its contract. The loop's invariant: the first i places are filled in, the others are still zero.
-- Assumes nothing.
use mathlib.Core.Path.{◌≡◌}
use mathlib.Core.List.{map, ◌++◌}
use Prim.Native.Nat.{◌+◌, ◌*◌}
use lib.ListN.{drop}
use Rattle.bits.specs.Bit.{count}
use Rattle.channel.specs.Places.{d_place}
use Rattle.placing.proofs.eight.Given as goal

abbrev pub invariant-loop-i : goal.invariant-loop-i
invariant-loop-i l = l.at-items ≡ map (λ i. d_place l.k (8 * l.j + i + 1)) (count l.i 0) ++ drop l.i l.initial.at-items
