-- Bits put into bytes: other bits keep their value (document 01, "Writing").
-- Assumes nothing.
use Rattle.std.specs.Prelude.{Bool, List, [], ◌∷◌, ℕ, ◌+◌, ◌*◌, ◌-◌, ◌/◌, ◌%◌, ◌^◌, get_or, set}
use Rattle.bits.specs.Bit.{to_n}

-- a byte with its bit of weight 2 ^ k made b
abbrev pub put_in : ℕ → ℕ → ℕ → ℕ
put_in x k b = (x / 2 ^ k / 2 * 2 + b) * 2 ^ k + x % 2 ^ k

-- the bytes with bit p made b
unfoldable pub put_bit : List ℕ → ℕ → Bool → List ℕ
put_bit s p b = set s (p / 8) (put_in (get_or s (p / 8) 0) (7 - p % 8) (to_n b))

-- the bytes with bits put one after the other from p on
unfoldable pub put_bits : List ℕ → ℕ → List Bool → List ℕ
put_bits s p [] = s
put_bits s p (b ∷ bs) = put_bits (put_bit s p b) (p + 1) bs
