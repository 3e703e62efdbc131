-- P1 to P12, and the silence frames, hold: one table, one theorem, computed.
-- Assumes nothing.
use mathlib.Core.Path.{◌≡◌, refl}
use mathlib.Core.List.{List, [], ◌∷◌, map}
use Prim.Native.Nat.{ℕ, zero-le}
use Rattle.reading.specs.Reading.{Item}
use Rattle.reading.proofs.ReadingLaws.{read, exists}
use Rattle.channel.specs.Coding.{odd}
use Rattle.channel.specs.Crc.{leaves111, right}
use Rattle.channel.specs.Places.{d_places}
use Rattle.channel.specs.Checks.{checks}
use Rattle.channel.specs.Verdict.{verdict_of, starts}
use Rattle.channel.specs.Control.{control, extended}
use Rattle.channel.specs.Frames.{Capture, Frame, terms_of, capture_of, rules, beginning}
use Rattle.channel.specs.Examples.{Question, crc, parity, reading, profiled, ReadAs, passing, one_bit, three_bits, line, Holds, Example, AllHold, table}
use Rattle.channel.proofs.FrameLaws.{look_at, sound}

-- the items of a capture from the beginning
abbrev read_from : Capture → List (Item Frame)
read_from w = read rules w (sound w) beginning

read_as : (w : Capture) (answer : List (List ℕ)) → map line (read_from w) ≡ answer → ReadAs w answer
read_as w answer h = (read_from w, exists rules w (sound w) beginning zero-le, h)

-- what is computed for a question
abbrev computed : Question → List (List ℕ)
computed (crc bs) = passing leaves111 bs three_bits
computed (parity bs) = passing odd bs one_bit
computed (reading s n d) = map line (read_from (capture_of s n (terms_of 0 d)))
computed (profiled profile s n d) = map line (read_from (capture_of s n (terms_of profile d)))

holds : (q : Question) (answer : List (List ℕ)) → computed q ≡ answer → Holds q answer
holds (crc bs) answer h = h
holds (parity bs) answer h = h
holds (reading s n d) answer h = read_as (capture_of s n (terms_of 0 d)) answer h
holds (profiled profile s n d) answer h = read_as (capture_of s n (terms_of profile d)) answer h

-- each row is as computed
abbrev AllComputed : List Example → Type 0
AllComputed es = map (λ (e : Example). computed e.asks) es ≡ map (λ (e : Example). e.answer) es

all_hold : (es : List Example) → AllComputed es → AllHold es
all_hold [] h = tt
all_hold (e ∷ es) h = (holds e.asks e.answer (cc), all_hold es (cc))

table-computed : AllComputed table
unfolding read look_at sound verdict_of starts checks right d_places control extended
table-computed = refl

-- the examples hold
pub examples_hold : AllHold table
examples_hold = all_hold table table-computed
