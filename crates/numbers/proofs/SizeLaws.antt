-- How long records are, and a number that is told from its four bytes.
-- Assumes nothing.
use mathlib.Core.Path.{◌≡◌, refl, sym, ◌∙◌, ap}
use Prim.Native.Nat.{ℕ, ◌+◌, ◌*◌, ◌/◌, ◌%◌, ◌<◌, ◌≤◌}
use native.Mathlib.Nat.{div-div-eq-div-mul, div-add-mod, mod-eq_of_lt, div-one}
use native.Mathlib.Omega.{arith}
use lib.Dec.{lit<}
use lib.ListN.{length, take, drop}
use lib.Seq.{length-take-le}
use Rattle.reading.specs.Reading as reading
use Rattle.bits.proofs.CountLaws.{length-map-count}
use Rattle.channel.specs.declared.Kind.{Kind}
use Rattle.channel.specs.declared.Kind.TheVariants.{Speech, Data, Om, Configuration, NoSpeech, Lower, Amr670, Amr740}
use Rattle.channel.specs.Coding.{Word, bits_at}
use Rattle.channel.specs.Places.{d_places}
use Rattle.channel.specs.Control.{from_top}
use Rattle.channel.specs.Frames.{Frame}
use Rattle.channel.specs.Record.{d_bytes, d_length, size_of, record_of}

-- the D bits of a kind take 19 bytes at most
pub d_length_le : (k : Kind) → d_length k ≤ 19
d_length_le Speech = lit< tt
d_length_le Data = lit< tt
d_length_le Om = lit< tt
d_length_le Configuration = lit< tt
d_length_le NoSpeech = lit< tt
d_length_le Lower = lit< tt
d_length_le Amr670 = lit< tt
d_length_le Amr740 = lit< tt

-- a number of 32 bits is that of its four bytes
by_digits : (x a b c p q r : ℕ) → 256 * a + p ≡ x → 256 * b + q ≡ a → 256 * c + r ≡ b → c * 16777216 + r * 65536 + q * 256 + p ≡ x
by_digits x a b c p q r e f g = omega arith

pub four_bytes : (x : ℕ) → x < 4294967296 → x / 16777216 % 256 * 16777216 + x / 65536 % 256 * 65536 + x / 256 % 256 * 256 + x / 1 % 256 ≡ x
four_bytes x h =
    let a : x / 65536 ≡ x / 256 / 256 = sym (div-div-eq-div-mul x 256 256) in
    let b : x / 16777216 ≡ x / 256 / 256 / 256 = sym (div-div-eq-div-mul x 65536 256) ∙ ap (λ (k : ℕ). k / 256) a in
    let top : x / 256 / 256 / 256 % 256 ≡ x / 256 / 256 / 256 = mod-eq_of_lt (omega arith) in
    rw (b, a, div-one, top) (by_digits x (x / 256) (x / 256 / 256) (x / 256 / 256 / 256) (x % 256) (x / 256 % 256) (x / 256 / 256 % 256) (div-add-mod x 256) (div-add-mod (x / 256) 256) (div-add-mod (x / 256 / 256) 256))

-- the D bits of every kind fill 19 bytes, the last ones with zeros
pub length-d_bytes : (g : Word) (k : Kind) → length (d_bytes g k) ≡ 19
unfolding d_bytes
length-d_bytes g k = length-map-count (λ j. from_top (drop (8 * j) (bits_at g (d_places k)))) 19 0

-- a record is as long as its size says
pub record_length : (x : reading.Item Frame) → length (record_of x) ≡ size_of x
unfolding record_of
record_length (reading.gap start length) = refl
record_length (reading.frame f) =
    let l : length (take (d_length f.kind) (d_bytes f.body f.kind)) ≡ d_length f.kind =
    length-take-le (d_length f.kind) (d_bytes f.body f.kind) (rw (length-d_bytes f.body f.kind) (d_length_le f.kind)) in
    omega arith

-- no record is empty
pub size_pos : (x : reading.Item Frame) → 0 < size_of x
size_pos (reading.gap start length) = lit< tt
size_pos (reading.frame f) = omega arith

-- no record has more than 31 bytes
pub size_le : (x : reading.Item Frame) → size_of x ≤ 31
size_le (reading.gap start length) = lit< tt
size_le (reading.frame f) = omega (arith, d_length_le f.kind)
