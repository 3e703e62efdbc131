-- Octets side by side in one number.
-- Assumes nothing.
use Rattle.std.specs.Prelude.{◌≡◌, Bool, List, [], ◌∷◌, ◌++◌, map, ℕ, ◌+◌, ◌*◌, ◌/◌, ◌%◌, ◌^◌, ◌<◌, ◌≤◌, eqb, drop}
use Rattle.bits.specs.Bit.{count}

-- octets as a number, the first lowest
abbrev pub lanes : List ℕ → ℕ
lanes [] = 0
lanes (x ∷ xs) = lanes xs * 256 + x

-- a one in each of eight octets
abbrev pub ones : ℕ
ones = lanes (map (λ _. 1) (count 8 0))

-- the number w is the eight octets f a, f (a + 1), ..
pub record Eight (f : ℕ → ℕ) (a w : ℕ) : Type 0 where
  pub octets : (i : ℕ) → a ≤ i → f i < 256
  pub is : w ≡ lanes (map f (count 8 a))

-- a bit of an octet, by its weight 2 ^ d
abbrev pub bit_of : ℕ → ℕ → Bool
bit_of x d = eqb (x / 2 ^ d % 2) 1

-- the bytes xs are f 0 to f (n - 1), and behind them as d is
abbrev pub FilledTo : (ℕ → ℕ) → ℕ → List ℕ → List ℕ → Type 0
FilledTo f n d xs = xs ≡ map f (count n 0) ++ drop n d
