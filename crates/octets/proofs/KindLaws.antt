-- A byte of a record holds the bits of extended, for each of the eight kinds.
-- Assumes nothing.
use mathlib.Core.List.{[]}
use lib.Dec.{lit≤}
use Rattle.channel.specs.declared.Kind.{Kind}
use Rattle.channel.specs.declared.Kind.TheVariants.{Speech, Om}
use Rattle.octets.specs.Built.{extended_places}
use Rattle.fields.proofs.BelowLaws.{listed_below}
use Rattle.record.proofs.KindLaws.{InByte, of-each}

-- the places of extended are those of a byte's bits
pub extended-few : (k : Kind) → InByte (extended_places k)
extended-few =
    let none : InByte [] = (listed_below 160 [] tt, lit≤ tt) in
    of-each (λ k. InByte (extended_places k)) (listed_below 160 (extended_places Speech) tt, lit≤ tt) none (listed_below 160 (extended_places Om) tt, lit≤ tt) none none none none none
