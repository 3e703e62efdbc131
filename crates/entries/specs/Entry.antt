-- An entry: how two neighbouring octets make the byte of the bits at some places, and how it is put back into them.
-- Assumes nothing.
use Rattle.std.specs.Prelude.{◌≡◌, List, [], ◌∷◌, ℕ, suc, ◌+◌, ◌*◌, ◌-◌, ◌/◌, ◌%◌, ◌^◌, ◌<◌, length, get_or, set}
use Rattle.std.specs.Int.Bits.{bit_and}
use Rattle.bits.specs.Bit.{bit_at, number, count}
use Rattle.channel.specs.Coding.{bits_at}
use Rattle.channel.specs.Control.{from_top}
use Rattle.scatter.specs.Scatter.{put_places}

-- each entry of a list is below the next
abbrev pub Rising : List ℕ → Type 0
Rising ps = (j : ℕ) → suc j < length ps → get_or ps j 0 < get_or ps (suc j) 0

-- bytes
abbrev pub Octets : List ℕ → Type 0
Octets o = (k : ℕ) → get_or o k 0 < 256

-- the first s places follow each other
abbrev pub FirstRun : List ℕ → ℕ → Type 0
FirstRun ps s = (i : ℕ) → i < s → get_or ps i 0 ≡ get_or ps 0 0 + i

-- octet a by the factor f has the bits at the first s places on top of a byte, above which anything may stand
abbrev pub FirstBy : List ℕ → ℕ → ℕ → ℕ → Type 0
FirstBy ps s a f = (o : List ℕ) → (high : ℕ) × (get_or o a 0 * f ≡ (high * 256 + number (bits_at (bit_at o) (count s (get_or ps 0 0))) * 2 ^ (8 - s)) * 256)

-- a factor that moves an octet up by a byte at least, or nothing
abbrev pub Whole : ℕ → Type 0
Whole f = f % 256 ≡ 0

-- a byte by two neighbouring octets, the first by the number of the octet below the mask
abbrev pub quick : List ℕ → ℕ → ℕ → ℕ → ℕ
quick o m f h = (get_or o (m % 256) 0 * f + bit_and (get_or o (m % 256 + 1) 0 * h) m) / 256 % 256

-- the first run goes to the end of octet a, unless there is none
abbrev pub FirstEnds : List ℕ → ℕ → ℕ → Type 0
FirstEnds ps s a = 0 < s → get_or ps 0 0 ≡ 8 * a + (8 - s)

-- above the mask of an entry: how many places the first run has, where in its octet the second begins, and the mask of the second in that octet
abbrev pub back_of : ℕ → ℕ → ℕ → ℕ
back_of s e r = (2 ^ (8 - e) - 2 ^ (8 - e - r)) * 256 + (e * 16 + s)

abbrev pub first_count : ℕ → ℕ
first_count m = m / 65536 % 16

abbrev pub second_start : ℕ → ℕ
second_start m = m / 1048576 % 16

abbrev pub second_mask : ℕ → ℕ
second_mask m = m / 16777216

-- the two octets x and y of an entry with a byte put back
abbrev pub first_back : ℕ → ℕ → ℕ → ℕ
first_back x m b = (x / 2 ^ first_count m * 2 ^ first_count m + b * 2 ^ first_count m / 256) % 256

abbrev pub second_back : ℕ → ℕ → ℕ → ℕ
second_back y m b = (y - bit_and y (second_mask m) + bit_and (b * 2 ^ first_count m % 256 / 2 ^ second_start m) (second_mask m)) % 256

unfoldable pub back : List ℕ → ℕ → ℕ → List ℕ
back o m b = set (set o (m % 256) (first_back (get_or o (m % 256) 0) m b)) (m % 256 + 1) (second_back (get_or o (m % 256 + 1) 0) m b)

-- by an entry a byte is put back at some places
abbrev pub BackTo : List ℕ → ℕ → Type 0
BackTo ps m = (o : List ℕ) (b : ℕ) → length o ≡ 20 → Octets o → b < 256 → back o m b ≡ put_places o ps (bit_at (b ∷ [])) 0

-- the bits at some places as a byte from the top, and the byte put back
pub record EntryBy (ps : List ℕ) (m f h : ℕ) : Type 0 where
  pub made : (o : List ℕ) → quick o m f h ≡ from_top (bits_at (bit_at o) ps)
  pub put_back : BackTo ps m
