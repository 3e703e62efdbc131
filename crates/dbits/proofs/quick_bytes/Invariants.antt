-- `dbits::quick_bytes` meets its contract. The loop's invariant: the first j bytes are filled, the others are still zero.
-- Assumes nothing.
use mathlib.Core.Path.{◌≡◌}
use mathlib.Core.List.{map, ◌++◌}
use lib.ListN.{drop, replicate}
use Rattle.bits.specs.Bit.{count}
use Rattle.plans.specs.Plan.{quick_at, entry_at}
use Rattle.dbits.proofs.quick_bytes.Given as goal

abbrev pub invariant-loop-j : goal.invariant-loop-j
invariant-loop-j l = l.out ≡ map (λ i. quick_at l.o (entry_at l.entries i)) (count l.j 0) ++ drop l.j (replicate 19 0)
