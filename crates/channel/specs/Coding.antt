-- Fixed bits and coding of a body (document 01, "Frames", the table of patterns, and "Coding"; TS 48.061, 5.2.4.1 and 5.2.4.2).
-- Assumes nothing.
use Rattle.std.specs.Prelude.{Bool, true, not, ◌&&◌, List, [], ◌∷◌, ◌++◌, map, ℕ, ◌+◌, ◌%◌, eqb, ltb, take, drop, get_or}
use Rattle.bits.specs.Bit.{to_n, number}
use Rattle.channel.specs.declared.Direction.{Direction}
use Rattle.channel.specs.declared.Direction.TheVariants.{Uplink, Downlink}
use Rattle.channel.specs.declared.Pattern.{Pattern}
use Rattle.channel.specs.declared.Pattern.TheVariants.{Hr, Low}
use Rattle.channel.specs.declared.Kind.{Kind}
use Rattle.channel.specs.declared.Kind.TheVariants.{Speech, Data, Om, Configuration, NoSpeech, Lower, Amr670, Amr740}
use Rattle.channel.specs.Kinds.{pattern_of}
use Rattle.channel.specs.Places.{upto, elem, zeros_of, ones_of, c_places, xc_places}

-- bits by their places
abbrev pub Word : Type 0
Word = ℕ → Bool

-- b bits from p on, and none behind them
abbrev pub word_at : (ℕ → Bool) → ℕ → ℕ → Word
word_at f p b i = ltb i b && f (p + i)

-- a word's bits at some places, in that order
abbrev pub bits_at : Word → List ℕ → List Bool
bits_at g ps = map g ps

-- a test holds at every place of a list
abbrev pub all : (ℕ → Bool) → List ℕ → Bool
all t [] = true
all t (p ∷ ps) = t p && all t ps

-- the number of ones among some bits
abbrev pub ones : List Bool → ℕ
ones [] = 0
ones (b ∷ bs) = to_n b + ones bs

-- the number of ones is odd
abbrev pub odd : List Bool → Bool
odd bs = eqb (ones bs % 2) 1

-- the fixed bits of a pattern hold
abbrev pub fixed : Word → Pattern → Bool
fixed g t = all (λ i. not (g i)) (zeros_of t) && all g (ones_of t)

-- C1..C3 as a number
abbrev pub c1to3 : Word → Pattern → ℕ
c1to3 g t = number (bits_at g (take 3 (c_places t)))

-- C4 and C5 of the Low pattern as a number
abbrev pub c4to5 : Word → ℕ
c4to5 g = number (bits_at g (drop 3 (c_places Low)))

-- C4 of the HR pattern
abbrev pub c4 : Word → Bool
c4 g = g (get_or (c_places Hr) 3 0)

-- C4 is one in uplink, either in downlink
abbrev pub c4_coded : Direction → Bool → Bool
c4_coded Uplink b = b
c4_coded Downlink b = true

-- HR: C1..C3 are of one type of frame, C4 is as the direction has it, C1..C5 have an odd number of ones
abbrev pub hr_coded : Direction → Word → ℕ → Bool
hr_coded d g type = eqb (c1to3 g Hr) type && c4_coded d (c4 g) && odd (bits_at g (c_places Hr))

-- XC1..XC6 have an odd number of ones, and XC1..XC5 read as a number are one of a list
abbrev pub xc_coded : Word → List ℕ → Bool
xc_coded g vs = odd (bits_at g xc_places) && elem (number (bits_at g (take 5 xc_places))) vs

-- XC1..XC5 of speech: uplink 0..3 and 8..15, downlink 0 and 2
abbrev pub speech_xc : Direction → List ℕ
speech_xc Uplink = upto 0 3 ++ upto 8 15
speech_xc Downlink = 0 ∷ 2 ∷ []

-- the coding of a kind holds
abbrev pub coded : Direction → Word → Kind → Bool
coded d g Speech = hr_coded d g 0b000 && xc_coded g (speech_xc d)
coded d g Data = hr_coded d g 0b001
coded d g Om = hr_coded d g 0b010 && xc_coded g (31 ∷ [])
coded d g Configuration = hr_coded d g 0b111
coded d g NoSpeech = eqb (c4to5 g) 0b00 && elem (c1to3 g Low) (0b100 ∷ 0b101 ∷ [])
coded d g Lower = not (eqb (c4to5 g) 0b00)
coded d g Amr670 = true
coded d g Amr740 = true

-- a word is the body of a frame of a kind: fixed bits and coding hold
abbrev pub is_body : Direction → Word → Kind → Bool
is_body d g k = fixed g (pattern_of k) && coded d g k
