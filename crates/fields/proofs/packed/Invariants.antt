-- `fields::packed` meets its contract: the number of all the bits is that of those that are left, behind the field so far.
-- Assumes nothing.
use mathlib.Core.Path.{◌≡◌}
use Prim.Native.Nat.{◌^◌, ◌<◌}
use lib.ListN.{drop}
use Rattle.bits.specs.Bit.{bit_at, number_from, number}
use Rattle.channel.specs.Coding.{bits_at}
use Rattle.fields.proofs.packed.Given as goal

abbrev pub invariant-loop-p : goal.invariant-loop-p
invariant-loop-p l = (l.field < 2 ^ l.p-index) × (number (bits_at (bit_at l.o) l.places) ≡ number_from l.field (bits_at (bit_at l.o) (drop l.p-index l.places)))
