-- The octets of a frame, by the bytes of its record (document 01, "Records and calls", "Writing"): what a record does not hold, fixed bits and
-- parities, follows from its kind.
-- Assumes nothing.
use Rattle.std.specs.Prelude.{not, List, [], ◌∷◌, ◌++◌, ℕ, take, get_or}
use Rattle.bits.specs.Bit.{bit_at, twenty}
use Rattle.scatter.specs.Scatter.{put_places}
use Rattle.bits.specs.Put.{put_bit}
use Rattle.channel.specs.declared.Pattern.{Pattern}
use Rattle.channel.specs.declared.Pattern.TheVariants.{Hr}
use Rattle.channel.specs.declared.Kind.{Kind}
use Rattle.channel.specs.declared.Kind.TheVariants.{Speech, Data, Om, Configuration, NoSpeech, Lower, Amr670, Amr740}
use Rattle.channel.specs.Kinds.{pattern_of}
use Rattle.channel.specs.Places.{elem, ones_of, c_places, xc_places, crc_places, d_places}
use Rattle.channel.specs.Coding.{bits_at, odd}
use Rattle.channel.specs.Control.{control_places}

-- the fixed bits of a pattern, every other bit zero
unfoldable pub fixed_octets : Pattern → List ℕ
fixed_octets t = twenty (λ i. elem i (ones_of t))

-- the places that extended holds: XC1..XC5 and CRC2..CRC0 of kind 1, XC1..XC5 of kind 3
abbrev pub extended_places : Kind → List ℕ
extended_places Speech = take 5 xc_places ++ crc_places
extended_places Data = []
extended_places Om = take 5 xc_places
extended_places Configuration = []
extended_places NoSpeech = []
extended_places Lower = []
extended_places Amr670 = []
extended_places Amr740 = []

-- a parity bit: it makes the number of ones odd
unfoldable pub with_parity : List ℕ → ℕ → List ℕ → List ℕ
with_parity ps p o = put_bit o p (not (odd (bits_at (bit_at o) ps)))

-- C5, of C1..C4
abbrev pub with_c5 : List ℕ → List ℕ
with_c5 o = with_parity (take 4 (c_places Hr)) (get_or (c_places Hr) 4 0) o

-- XC6, of XC1..XC5
abbrev pub with_xc6 : List ℕ → List ℕ
with_xc6 o = with_parity (take 5 xc_places) (get_or xc_places 5 0) o

-- the parities of a kind
abbrev pub with_parities : Kind → List ℕ → List ℕ
with_parities Speech o = with_xc6 (with_c5 o)
with_parities Data o = with_c5 o
with_parities Om o = with_xc6 (with_c5 o)
with_parities Configuration o = with_c5 o
with_parities NoSpeech o = o
with_parities Lower o = o
with_parities Amr670 o = o
with_parities Amr740 o = o

-- the octets by control, extended and the bytes of D bits: fixed bits, then those bytes' bits at their places, then the parities
unfoldable pub octets_by : Kind → ℕ → ℕ → List ℕ → List ℕ
octets_by k control extended d =
    with_parities k
    (put_places
    (put_places
    (put_places (fixed_octets (pattern_of k)) (control_places k) (bit_at (control ∷ [])) 0)
    (extended_places k) (bit_at (extended ∷ [])) 0)
    (d_places k) (bit_at d) 0)
