-- What the bit at each place of a frame is called in the drawings of TS 48.061, 5.2.1 to 5.2.3, by the places that `channel` defines.
-- Assumes nothing.
use Rattle.std.specs.Prelude.{cond, List, ℕ, ◌+◌, ◌-◌, eqb, ltb, Option, None, Some}
use Rattle.std.specs.List.{position}
use Rattle.std.specs.Option.{option_or, option_map}
use Rattle.channel.specs.declared.Kind.{Kind}
use Rattle.channel.specs.declared.Kind.TheVariants.{Speech, Data, Om, Configuration, NoSpeech, Lower, Amr670, Amr740}
use Rattle.channel.specs.Kinds.{pattern_of, body_of}
use Rattle.channel.specs.Places.{zeros_of, ones_of, c_places, xc_places, crc_places, c6_places, d_places}
use Rattle.cells.specs.declared.Cell.{Cell}
use Rattle.cells.specs.declared.Cell.TheVariants.{Zero, One, C, Xc, Crc, D, Prime, T, Tail}

-- the index of the first entry equal to p
abbrev pub index_of : ℕ → List ℕ → Option ℕ
index_of p qs = position (λ q. eqb q p) qs

-- the name that a list gives p by its index there
unfoldable pub named : List ℕ → (ℕ → Cell) → ℕ → Option Cell
named ps name p = option_map name (index_of p ps)

-- fixed zeros, fixed ones, C1..
abbrev pub sync_cell : List ℕ → List ℕ → List ℕ → ℕ → Option Cell
sync_cell zeros ones cs p = option_or (named zeros (λ i. Zero) p) (option_or (named ones (λ i. One) p) (named cs (λ i. C (i + 1)) p))

-- XC1..XC6
abbrev pub xc_cell : ℕ → Option Cell
xc_cell p = named xc_places (λ i. Xc (i + 1)) p

-- CRC2, CRC1, CRC0, and C6..C9
abbrev pub crc_cell : ℕ → Option Cell
crc_cell p = option_or (named crc_places (λ i. Crc (2 - i)) p) (named c6_places (λ i. C (i + 6)) p)

-- what a kind has besides fixed bits, C1..C5 and D bits
abbrev pub beside_cell : Kind → ℕ → Option Cell
beside_cell Speech p = option_or (xc_cell p) (crc_cell p)
beside_cell Data p = None
beside_cell Om p = xc_cell p
beside_cell Configuration p = None
beside_cell NoSpeech p = None
beside_cell Lower p = None
beside_cell Amr670 p = None
beside_cell Amr740 p = None

-- the D bit of an index, from 0: D1.., and in a data frame D1..D63 and then D'1..D'63
abbrev pub d_name : Kind → ℕ → Cell
d_name Speech i = D (i + 1)
d_name Data i = cond (ltb i 63) (D (i + 1)) (Prime (i - 62))
d_name Om i = D (i + 1)
d_name Configuration i = D (i + 1)
d_name NoSpeech i = D (i + 1)
d_name Lower i = D (i + 1)
d_name Amr670 i = D (i + 1)
d_name Amr740 i = D (i + 1)

-- the places behind the body, counted from 0: T1 and T2, T, or the one that is drawn in a data and an O&M frame
abbrev pub tail_name : Kind → ℕ → Option Cell
tail_name Speech i = Some (T (i + 1))
tail_name Data i = Some One
tail_name Om i = Some One
tail_name Configuration i = Some (T (i + 1))
tail_name NoSpeech i = Some (T (i + 1))
tail_name Lower i = Some Tail
tail_name Amr670 i = None
tail_name Amr740 i = None

-- a place behind the body
abbrev pub tail_cell : Kind → ℕ → Option Cell
tail_cell k p = cond (ltb p (body_of k)) None (tail_name k (p - body_of k))

-- fixed bits and C bits by the pattern of a kind
abbrev pub pattern_cell : Kind → ℕ → Option Cell
pattern_cell k p = sync_cell (zeros_of (pattern_of k)) (ones_of (pattern_of k)) (c_places (pattern_of k)) p

-- what the bit at place p of a frame of a kind is called, if anything names it
unfoldable pub cell_of : Kind → ℕ → Option Cell
cell_of k p = option_or (option_or (option_or (pattern_cell k p) (beside_cell k p)) (named (d_places k) (d_name k) p)) (tail_cell k p)
