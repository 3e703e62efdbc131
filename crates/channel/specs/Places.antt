-- Where the fixed bits, C bits, XC bits, CRC bits and D bits stand (document 01, "Frames"; TS 48.061, 5.2.1 to 5.2.3).
-- A place is a bit of the frame in the order of sending, counted from 0 (5.2.5). Assumes nothing.
use Rattle.std.specs.Prelude.{Bool, true, false, cond, List, [], ◌∷◌, ◌++◌, map, ℕ, suc, ◌+◌, ◌*◌, ◌-◌, eqb, get_or}
use Rattle.bits.specs.Bit.{count}
use Rattle.channel.specs.declared.Pattern.{Pattern}
use Rattle.channel.specs.declared.Pattern.TheVariants.{Hr, Low, P670, P740}
use Rattle.channel.specs.declared.Kind.{Kind}
use Rattle.channel.specs.declared.Kind.TheVariants.{Speech, Data, Om, Configuration, NoSpeech, Lower, Amr670, Amr740}
use Rattle.channel.specs.Kinds.{pattern_of, body_of}

-- the numbers from a to b
abbrev pub upto : ℕ → ℕ → List ℕ
upto a b = count (suc b - a) a

-- bits a to b of octet o, all counted from 1 as in the drawings
abbrev pub octet : ℕ → ℕ → ℕ → List ℕ
octet o a b = upto (8 * (o - 1) + (a - 1)) (8 * (o - 1) + (b - 1))

-- bit 1 of each of some octets
abbrev pub bit1 : List ℕ → List ℕ
bit1 os = map (λ (o : ℕ). 8 * (o - 1)) os

-- the odd octets 7 to 19
abbrev pub odd7to19 : List ℕ
odd7to19 = 7 ∷ 9 ∷ 11 ∷ 13 ∷ 15 ∷ 17 ∷ 19 ∷ []

-- the fixed zeros of a pattern
abbrev pub zeros_of : Pattern → List ℕ
zeros_of Hr = octet 1 1 8 ++ octet 3 1 1
zeros_of Low = octet 1 1 8 ++ octet 4 1 1
zeros_of P670 = octet 1 1 8 ++ octet 6 1 1
zeros_of P740 = octet 1 1 2 ++ octet 2 1 1 ++ octet 4 1 1

-- the fixed ones of a pattern
abbrev pub ones_of : Pattern → List ℕ
ones_of Hr = octet 2 1 1 ++ octet 3 2 2 ++ bit1 (upto 4 20)
ones_of Low = bit1 (upto 2 3) ++ octet 4 2 2 ++ bit1 (upto 5 20)
ones_of P670 = bit1 (upto 2 5) ++ bit1 odd7to19
ones_of P740 = octet 1 3 3 ++ octet 3 1 1

-- C1..C5, or C1..C3
abbrev pub c_places : Pattern → List ℕ
c_places Hr = octet 2 2 6
c_places Low = octet 3 2 6
c_places P670 = octet 3 2 4
c_places P740 = octet 3 2 4

-- XC1..XC6 of HR speech and O&M
abbrev pub xc_places : List ℕ
xc_places = octet 2 7 8 ++ octet 3 3 6

-- CRC2, CRC1, CRC0 of HR speech
abbrev pub crc_places : List ℕ
crc_places = octet 10 2 4

-- C6..C9 of HR speech
abbrev pub c6_places : List ℕ
c6_places = octet 20 3 6

-- what a kind has besides fixed bits, C1..C5 and D bits; in kinds 5 to 8 CRC bits are D bits
abbrev pub besides : Kind → List ℕ
besides Speech = xc_places ++ crc_places ++ c6_places
besides Data = []
besides Om = xc_places
besides Configuration = []
besides NoSpeech = []
besides Lower = []
besides Amr670 = []
besides Amr740 = []

-- whether a number is in a list
abbrev pub elem : ℕ → List ℕ → Bool
elem i [] = false
elem i (j ∷ js) = cond (eqb i j) true (elem i js)

-- the places of a kind that are fixed, C, XC or kind 1's CRC
abbrev pub taken : Kind → List ℕ
taken k = zeros_of (pattern_of k) ++ ones_of (pattern_of k) ++ c_places (pattern_of k) ++ besides k

-- the numbers of a list that are not in another
abbrev pub without : List ℕ → List ℕ → List ℕ
without ts [] = []
without ts (i ∷ is) = let r = without ts is in cond (elem i ts) r (i ∷ r)

-- the places of the D bits: they fill the remaining places of the body in order
unfoldable pub d_places : Kind → List ℕ
d_places k = without (taken k) (upto 0 (body_of k - 1))

-- the place of a D bit by its number, from 1
abbrev pub d_place : Kind → ℕ → ℕ
d_place k i = get_or (d_places k) (i - 1) 0
