-- Records: the bytes of an item (document 01, "Records and calls").
-- Assumes nothing.
use Rattle.std.specs.Prelude.{List, [], ◌∷◌, ◌++◌, map, ℕ, zero, suc, ◌+◌, ◌*◌, ◌/◌, ◌%◌, ◌^◌, take, drop, get_or}
use Rattle.reading.specs.Reading.{Item, gap, frame}
use Rattle.reading.specs.Paging.{records_by}
use Rattle.bits.specs.Bit.{count}
use Rattle.channel.specs.declared.Kind.{Kind}
use Rattle.channel.specs.Kinds.{kind_no, d_count}
use Rattle.channel.specs.Places.{d_places}
use Rattle.channel.specs.Coding.{Word, bits_at}
use Rattle.channel.specs.Control.{from_top, control, extended}
use Rattle.channel.specs.Frames.{Frame}

-- a number in k bytes, the high byte first
abbrev pub wide : ℕ → ℕ → List ℕ
wide zero v = []
wide (suc k) v = v / 256 ^ k % 256 ∷ wide k v

-- the number in four bytes from a place on, the high byte first
abbrev pub number_at : List ℕ → ℕ → ℕ
number_at s at = get_or s at 0 * 16777216 + get_or s (at + 1) 0 * 65536 + get_or s (at + 2) 0 * 256 + get_or s (at + 3) 0

-- the D bits of a word of a kind in 19 bytes, as many as the longest kind has: from the top bit down, zero padded
unfoldable pub d_bytes : Word → Kind → List ℕ
d_bytes g k = map (λ j. from_top (drop (8 * j) (bits_at g (d_places k)))) (count 19 0)

-- how many bytes the D bits of a kind take
abbrev pub d_length : Kind → ℕ
d_length k = (d_count k + 7) / 8

-- this paper's number of an item: 0 a gap, 1 to 8 a frame of that kind
abbrev pub item_no : Item Frame → ℕ
item_no (gap start length) = 0
item_no (frame f) = kind_no f.kind

-- how many bytes the record of an item has: 9 for a gap; start, tail, control, extended, verdict and D bits for a frame
abbrev pub size_of : Item Frame → ℕ
size_of (gap start length) = 9
size_of (frame f) = 12 + d_length f.kind

-- the record of an item: one byte of kind, then start and length of a gap, or start, tail, control, extended, verdict and the D bits, from the top
-- bit down, zero padded
unfoldable pub record_of : Item Frame → List ℕ
record_of (gap start length) = item_no (gap start length) ∷ wide 4 start ++ wide 4 length
record_of (frame f) =
    item_no (frame f)
    ∷ wide 4 f.start
    ++ wide 4 f.tail
    ++ (control f.body f.kind ∷ extended f.body f.kind ∷ f.verdict ∷ [])
    ++ take (d_length f.kind) (d_bytes f.body f.kind)

-- the records of some items, one behind the other
abbrev pub records : List (Item Frame) → List ℕ
records = records_by record_of
