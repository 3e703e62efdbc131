-- P1 to P12 of document 01, "Examples with numbers", and silence frames by their class (document 02, Ask 1), as one table.
-- Assumes nothing.
use Rattle.std.specs.Prelude.{◌≡◌, Bool, true, false, cond, List, [], ◌∷◌, ◌++◌, map, ℕ, replicate}
use Rattle.reading.specs.Reading.{Item, gap, frame, Reading}
use Rattle.bits.specs.Bit.{to_n}
use Rattle.channel.specs.declared.Direction.{Direction}
use Rattle.channel.specs.declared.Direction.TheVariants.{Uplink, Downlink}
use Rattle.channel.specs.Kinds.{kind_no}
use Rattle.channel.specs.Coding.{odd}
use Rattle.channel.specs.Crc.{leaves111}
use Rattle.channel.specs.Control.{control, extended}
use Rattle.channel.specs.Frames.{Capture, Frame, terms_of, capture_of, rules, beginning}

abbrev pub H : List ℕ
H = 0x00 ∷ 0x88 ∷ 0x44 ∷ replicate 6 0x80 ++ (0xF0 ∷ replicate 9 0x80) ++ (0xBF ∷ [])

abbrev pub Z : List ℕ
Z = 0x20 ∷ 0x00 ∷ 0x80 ∷ replicate 17 0x00

-- the twenty octets before Z in P12
abbrev pub S : List ℕ
S =
    0x00 ∷ 0x80 ∷ 0x90 ∷ 0x80 ∷ 0x80 ∷ 0x00 ∷ 0x80 ∷ 0x00 ∷ 0x80 ∷ 0x60
    ∷ 0x80 ∷ 0x00 ∷ 0x80 ∷ 0x00 ∷ 0x80 ∷ 0x00 ∷ 0x80 ∷ 0x00 ∷ 0x80 ∷ 0x00 ∷ []

-- a No_Speech frame of class 4 in downlink, D8 alone being one of D1..D51, by its tenth octet: D52..D54 stand in bits 2 to 5
abbrev pub silence : ℕ → List ℕ
silence tenth = 0x00 ∷ 0x80 ∷ 0xC2 ∷ 0x40 ∷ replicate 5 0x80 ++ (tenth ∷ replicate 9 0x80) ++ (0x83 ∷ [])

abbrev pub right4 : List ℕ
right4 = silence 0xA8

abbrev pub wrong4 : List ℕ
wrong4 = silence 0xA0

-- what an example asks: the CRC of covered bits, the parity bit of some bits, or the reading of the first n bits of some bytes, with profile 0 or another
pub data Question : Type 0 where
  crc : List Bool → Question
  parity : List Bool → Question
  reading : List ℕ → ℕ → Direction → Question
  profiled : ℕ → List ℕ → ℕ → Direction → Question

-- of some words those that, put behind given bits, pass a test
abbrev pub passing : (List Bool → Bool) → List Bool → List (List Bool) → List (List ℕ)
passing test bs [] = []
passing test bs (w ∷ ws) = let r = passing test bs ws in cond (test (bs ++ w)) (map to_n w ∷ r) r

-- the words of one bit, and those of three
abbrev pub one_bit : List (List Bool)
one_bit = (false ∷ []) ∷ (true ∷ []) ∷ []

abbrev pub three_bits : List (List Bool)
three_bits = map (λ w. false ∷ false ∷ w) one_bit ++ map (λ w. false ∷ true ∷ w) one_bit ++ map (λ w. true ∷ false ∷ w) one_bit ++ map (λ w. true ∷ true ∷ w) one_bit

-- an item as numbers: 0, start, length of a gap; kind, start, tail, verdict, control, extended of a frame
abbrev pub line : Item Frame → List ℕ
line (gap start length) = 0 ∷ start ∷ length ∷ []
line (frame f) = kind_no f.kind ∷ f.start ∷ f.tail ∷ f.verdict ∷ control f.body f.kind ∷ extended f.body f.kind ∷ []

-- the items of the reading of a capture from the beginning
abbrev pub ReadAs : Capture → List (List ℕ) → Type 0
ReadAs w answer = (xs : List (Item Frame)) × Reading rules w beginning xs × (map line xs ≡ answer)

-- an answer is the one: of all CRCs the only right one, of all parity bits the only right one, the items of the reading from the beginning
abbrev pub Holds : Question → List (List ℕ) → Type 0
Holds (crc bs) answer = passing leaves111 bs three_bits ≡ answer
Holds (parity bs) answer = passing odd bs one_bit ≡ answer
Holds (reading s n d) answer = ReadAs (capture_of s n (terms_of 0 d)) answer
Holds (profiled profile s n d) answer = ReadAs (capture_of s n (terms_of profile d)) answer

pub record Example : Type 0 where
  pub number : ℕ
  pub asks : Question
  pub answer : List (List ℕ)

abbrev pub AllHold : List Example → Type 0
AllHold [] = Unit {0}
AllHold (e ∷ es) = Holds e.asks e.answer × AllHold es

abbrev pub table : List Example
table =
    record { number = 1; asks = crc (replicate 44 false); answer = (1 ∷ 1 ∷ 1 ∷ []) ∷ [] }
    ∷ record { number = 2; asks = crc (replicate 43 false ++ (true ∷ [])); answer = (1 ∷ 0 ∷ 0 ∷ []) ∷ [] }
    ∷ record { number = 3; asks = crc (true ∷ replicate 43 false); answer = (0 ∷ 0 ∷ 1 ∷ []) ∷ [] }
    ∷ record { number = 4; asks = crc (replicate 44 true); answer = (0 ∷ 1 ∷ 0 ∷ []) ∷ [] }
    ∷ record { number = 5; asks = crc (true ∷ false ∷ []); answer = (0 ∷ 0 ∷ 1 ∷ []) ∷ [] }
    ∷ record { number = 6; asks = parity (false ∷ false ∷ false ∷ true ∷ []); answer = (0 ∷ []) ∷ [] }
    ∷ record { number = 6; asks = parity (replicate 4 true); answer = (1 ∷ []) ∷ [] }
    ∷ record { number = 7; asks = parity (replicate 5 false); answer = (1 ∷ []) ∷ [] }
    ∷ record { number = 7; asks = parity (replicate 5 true); answer = (0 ∷ []) ∷ [] }
    ∷ record { number = 8; asks = reading (0xFF ∷ H) 168 Downlink; answer = (0 ∷ 0 ∷ 8 ∷ []) ∷ (1 ∷ 8 ∷ 2 ∷ 0 ∷ 0x1F ∷ 0x07 ∷ []) ∷ [] }
    ∷ record { number = 9; asks = reading (0xFF ∷ H) 166 Downlink; answer = (0 ∷ 0 ∷ 8 ∷ []) ∷ (1 ∷ 8 ∷ 0 ∷ 0 ∷ 0x1F ∷ 0x07 ∷ []) ∷ [] }
    ∷ record { number = 10; asks = reading (0xFF ∷ H) 166 Uplink; answer = (0 ∷ 0 ∷ 166 ∷ []) ∷ [] }
    ∷ record { number = 11; asks = reading Z 160 Uplink; answer = (0 ∷ 0 ∷ 160 ∷ []) ∷ [] }
    ∷ record { number = 11; asks = reading Z 160 Downlink; answer = (0 ∷ 0 ∷ 160 ∷ []) ∷ [] }
    ∷ record { number = 12; asks = reading (S ++ Z) 320 Uplink; answer = (7 ∷ 0 ∷ 0 ∷ 0 ∷ 0x20 ∷ 0 ∷ []) ∷ (8 ∷ 160 ∷ 0 ∷ 1 ∷ 0 ∷ 0 ∷ []) ∷ [] }
    ∷ record { number = 12; asks = reading (S ++ Z) 320 Downlink; answer = (7 ∷ 0 ∷ 0 ∷ 0 ∷ 0x20 ∷ 0 ∷ []) ∷ (8 ∷ 160 ∷ 0 ∷ 1 ∷ 0 ∷ 0 ∷ []) ∷ [] }
    -- Ask 1: class 4 carries a CRC, which is right; is wrong, and starts no run; is wrong, and stays in one
    ∷ record { number = 13; asks = profiled 0b00010000 right4 160 Downlink; answer = (5 ∷ 0 ∷ 2 ∷ 0 ∷ 0x80 ∷ 0 ∷ []) ∷ [] }
    ∷ record { number = 14; asks = profiled 0b00010000 wrong4 160 Downlink; answer = (0 ∷ 0 ∷ 160 ∷ []) ∷ [] }
    ∷ record { number = 15; asks = profiled 0b00010000 (right4 ++ wrong4) 320 Downlink; answer = (5 ∷ 0 ∷ 2 ∷ 0 ∷ 0x80 ∷ 0 ∷ []) ∷ (5 ∷ 160 ∷ 2 ∷ 1 ∷ 0x80 ∷ 0 ∷ []) ∷ [] }
    -- every other class does, and class 4 does not
    ∷ record { number = 16; asks = profiled 0b11101111 wrong4 160 Downlink; answer = (5 ∷ 0 ∷ 2 ∷ 128 ∷ 0x80 ∷ 0 ∷ []) ∷ [] }
    ∷ []
