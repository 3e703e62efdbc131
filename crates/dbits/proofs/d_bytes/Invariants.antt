-- `dbits::d_bytes` meets its contract: by the entries, and the bytes that they do not make one by one.
-- Assumes nothing.
use Prim.Native.Nat.{◌*◌}
use lib.ListN.{drop}
use Rattle.bits.specs.Bit.{bit_at}
use Rattle.channel.specs.Places.{d_places}
use Rattle.channel.specs.Coding.{bits_at}
use Rattle.channel.specs.Control.{from_top}
use Rattle.dbits.proofs.QuickLaws.{Anew}
use Rattle.dbits.proofs.d_bytes.Given as goal

abbrev pub invariant-loop-j : goal.invariant-loop-j
invariant-loop-j l = Anew (λ i. from_top (drop (8 * i) (bits_at (bit_at l.o) (d_places l.plan.kind)))) l.initial.j l.j l.initial.out l.out
