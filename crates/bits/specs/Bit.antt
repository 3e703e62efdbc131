-- Bits of lent bytes. The first bit sent is the top bit of the first byte (document 01, "What the library covers", house).
-- Assumes nothing.
use Rattle.std.specs.Prelude.{Bool, true, false, ◌&&◌, List, [], ◌∷◌, map, ℕ, zero, suc, ◌+◌, ◌*◌, ◌-◌, ◌/◌, ◌%◌, ◌^◌, eqb, ltb, get_or}

-- bit i of the bytes s, counted from 0
abbrev pub bit_at : List ℕ → ℕ → Bool
bit_at s i = eqb (get_or s (i / 8) 0 / 2 ^ (7 - i % 8) % 2) 1

-- a bit as a number
abbrev pub to_n : Bool → ℕ
to_n true = 1
to_n false = 0

-- the number a with further bits behind it, the first of them on top
abbrev pub number_from : ℕ → List Bool → ℕ
number_from a [] = a
number_from a (b ∷ bs) = number_from (2 * a + to_n b) bs

-- bits as a number, the first on top
abbrev pub number : List Bool → ℕ
number bs = number_from 0 bs

-- the k numbers from a
abbrev pub count : ℕ → ℕ → List ℕ
count zero a = []
count (suc k) a = a ∷ count k (suc a)

-- octet k of the bits g 0, g 1, ..
unfoldable pub octet_of : (ℕ → Bool) → ℕ → ℕ
octet_of g k = number (map g (count 8 (8 * k)))

-- the bits g 0 to g 159 as twenty octets (document 01, "A frame is held as twenty octets by value")
unfoldable pub twenty : (ℕ → Bool) → List ℕ
twenty g = map (octet_of g) (count 20 0)

-- the bits from p on, with zeros in the place of those from n on, which are never looked at
abbrev pub bits_from : (ℕ → Bool) → ℕ → ℕ → ℕ → Bool
bits_from f n p i = ltb (p + i) n && f (p + i)
