-- What holds of each of the eight kinds holds of any, and what holds of the places of control.
-- Assumes nothing.
use mathlib.Core.List.{List}
use Prim.Native.Nat.{ℕ, ◌≤◌}
use lib.Dec.{lit≤}
use lib.ListN.{length}
use Rattle.fields.specs.Below.{Below}
use Rattle.fields.proofs.BelowLaws.{listed_below}
use Rattle.channel.specs.declared.Kind.{Kind}
use Rattle.channel.specs.declared.Kind.TheVariants.{Speech, Data, Om, Configuration, NoSpeech, Lower, Amr670, Amr740}
use Rattle.channel.specs.Control.{control_places}

-- what holds of each of the eight kinds holds of any
pub of-each : (P : Kind → Type 0) → P Speech → P Data → P Om → P Configuration → P NoSpeech → P Lower → P Amr670 → P Amr740 → (k : Kind) → P k
of-each P a b c d e f g h Speech = a
of-each P a b c d e f g h Data = b
of-each P a b c d e f g h Om = c
of-each P a b c d e f g h Configuration = d
of-each P a b c d e f g h NoSpeech = e
of-each P a b c d e f g h Lower = f
of-each P a b c d e f g h Amr670 = g
of-each P a b c d e f g h Amr740 = h

-- places of the bits of a byte: all in a frame, eight at most
abbrev pub InByte : List ℕ → Type 0
InByte ps = Below 160 ps × (length ps ≤ 8)

-- the places of control are such
pub control-few : (k : Kind) → InByte (control_places k)
control-few =
    let speech : InByte (control_places Speech) = (listed_below 160 (control_places Speech) tt, lit≤ tt) in
    let hr : InByte (control_places Data) = (listed_below 160 (control_places Data) tt, lit≤ tt) in
    let low : InByte (control_places Lower) = (listed_below 160 (control_places Lower) tt, lit≤ tt) in
    let amr : InByte (control_places Amr670) = (listed_below 160 (control_places Amr670) tt, lit≤ tt) in
    of-each (λ k. InByte (control_places k)) speech hr hr hr low low amr amr
