-- The control and extended bytes of a frame's record (document 01, "Records and calls").
-- Assumes nothing.
use Rattle.std.specs.Prelude.{Bool, false, List, ◌++◌, ℕ, take, replicate}
use Rattle.bits.specs.Bit.{number}
use Rattle.channel.specs.declared.Pattern.TheVariants.{Hr, Low, P670, P740}
use Rattle.channel.specs.declared.Kind.{Kind}
use Rattle.channel.specs.declared.Kind.TheVariants.{Speech, Data, Om, Configuration, NoSpeech, Lower, Amr670, Amr740}
use Rattle.channel.specs.Places.{c_places, xc_places, crc_places, c6_places}
use Rattle.channel.specs.Coding.{Word, bits_at}

-- a byte with some bits from the top, the rest zero
abbrev pub from_top : List Bool → ℕ
from_top bs = number (take 8 (bs ++ replicate 8 false))

-- the places that control holds: HR C1..C4, then C6..C9 (kind 1); Low C1..C5; kinds 7, 8 C1..C3
abbrev pub control_places : Kind → List ℕ
control_places Speech = take 4 (c_places Hr) ++ c6_places
control_places Data = take 4 (c_places Hr)
control_places Om = take 4 (c_places Hr)
control_places Configuration = take 4 (c_places Hr)
control_places NoSpeech = c_places Low
control_places Lower = c_places Low
control_places Amr670 = c_places P670
control_places Amr740 = c_places P740

-- control, from the top; rest zero
unfoldable pub control : Word → Kind → ℕ
control g k = from_top (bits_at g (control_places k))

-- extended: XC1..XC5 and CRC2..CRC0; kind 3 holds 248; others 0
unfoldable pub extended : Word → Kind → ℕ
extended g Speech = from_top (bits_at g (take 5 xc_places ++ crc_places))
extended g Data = 0
extended g Om = 248
extended g Configuration = 0
extended g NoSpeech = 0
extended g Lower = 0
extended g Amr670 = 0
extended g Amr740 = 0
