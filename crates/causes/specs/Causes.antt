-- The cases of number 5 in writing (document 01, the table of numbers), in its words and order, each a test on the bytes of a record alone.
-- A record ("Records and calls"): kind in byte 0, start in bytes 1 to 4, tail in 5 to 8, control in 9, extended in 10, verdict in 11, D bits from byte
-- 12 on. Bit 0 is the top bit of byte 0, so control is bits 72 to 79, extended is bits 80 to 87, and D1 is bit 96.
-- Assumes nothing.
use Rattle.std.specs.Prelude.{Bool, true, not, ◌&&◌, ◌||◌, List, [], ◌∷◌, ℕ, ◌+◌, ◌*◌, ◌-◌, eqb, ltb, length, get_or, Option, Some, None}
use Rattle.bits.specs.Bit.{bit_at, number, count}
use Rattle.channel.specs.declared.Direction.{Direction}
use Rattle.channel.specs.declared.Kind.{Kind}
use Rattle.channel.specs.declared.Kind.TheVariants.{Speech, Data, Om, Configuration, NoSpeech, Lower, Amr670, Amr740}
use Rattle.channel.specs.Kinds.{d_count, least_tail}
use Rattle.channel.specs.Places.{upto, elem}
use Rattle.channel.specs.Coding.{bits_at, all, c4_coded, speech_xc}
use Rattle.channel.specs.Control.{control_places}
use Rattle.channel.specs.Record.{number_at, d_length}
use Rattle.octets.specs.Built.{extended_places}
use Rattle.parse.specs.Parsed.{kind_by}

-- bits a to b as a number
abbrev pub field : List ℕ → ℕ → ℕ → ℕ
field bytes a b = number (bits_at (bit_at bytes) (upto a b))

-- of the m bits from bit a on, one behind the first n is set
abbrev pub set_behind : List ℕ → ℕ → ℕ → ℕ → Bool
set_behind bytes a n m = not (all (λ i. not (bit_at bytes i)) (count (m - n) (a + n)))

-- record cut short: it has fewer bytes than the total of its kind
abbrev pub cut_short : List ℕ → Kind → Bool
cut_short bytes k = ltb (length bytes) (12 + d_length k)

-- a bit set that must be zero: of control one behind the C bits that the kind has there, of extended one behind the XC and CRC bits that the kind has
-- there, or one of the padding behind the D bits
abbrev pub bit_set : List ℕ → Kind → Bool
bit_set bytes k =
    set_behind bytes 72 (length (control_places k)) 8
    || set_behind bytes 80 (length (extended_places k)) 8
    || set_behind bytes 96 (d_count k) (8 * d_length k)

-- control of the HR pattern: C1..C3 are of one type of frame, C4 is one in uplink, either in downlink
abbrev pub hr_control : Direction → List ℕ → ℕ → Bool
hr_control d bytes type = eqb (field bytes 72 74) type && c4_coded d (bit_at bytes 75)

-- control is a coding of the kind in the direction: HR as above; Low: C4 C5 = 00 is kind 5 and needs C1..C3 of 100 or 101, otherwise kind 6; kinds 7
-- and 8 take any C bits
abbrev pub control_coded : Direction → List ℕ → Kind → Bool
control_coded d bytes Speech = hr_control d bytes 0b000
control_coded d bytes Data = hr_control d bytes 0b001
control_coded d bytes Om = hr_control d bytes 0b010
control_coded d bytes Configuration = hr_control d bytes 0b111
control_coded d bytes NoSpeech = eqb (field bytes 75 76) 0b00 && elem (field bytes 72 74) (0b100 ∷ 0b101 ∷ [])
control_coded d bytes Lower = not (eqb (field bytes 75 76) 0b00)
control_coded d bytes Amr670 = true
control_coded d bytes Amr740 = true

-- extended is a coding of the kind in the direction: XC1..XC5 of speech read as a number are one of the direction's; kind 3 holds 248
abbrev pub extended_coded : Direction → List ℕ → Kind → Bool
extended_coded d bytes Speech = elem (field bytes 80 84) (speech_xc d)
extended_coded d bytes Data = true
extended_coded d bytes Om = eqb (get_or bytes 10 0) 248
extended_coded d bytes Configuration = true
extended_coded d bytes NoSpeech = true
extended_coded d bytes Lower = true
extended_coded d bytes Amr670 = true
extended_coded d bytes Amr740 = true

-- tail below the least
abbrev pub tail_below : Direction → List ℕ → Kind → Bool
tail_below d bytes k = ltb (number_at bytes 5) (least_tail d k)

-- one of the cases, by the kind that byte 0 names; where it names none that is the case: unknown kind, or gap
abbrev pub case_of : Direction → List ℕ → Option Kind → Bool
case_of d bytes None = true
case_of d bytes (Some k) = cut_short bytes k || bit_set bytes k || not (control_coded d bytes k) || not (extended_coded d bytes k) || tail_below d bytes k

-- one of the cases of number 5 holds
abbrev pub faulty : Direction → List ℕ → Bool
faulty d bytes = case_of d bytes (kind_by (get_or bytes 0 0))
