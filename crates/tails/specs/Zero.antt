-- The zero that ends a tail.
-- Assumes nothing.
use Rattle.std.specs.Prelude.{◌≡◌, ℕ, ◌-◌, ◌/◌, ◌%◌, ◌^◌, ◌≤◌, ◌<◌}

-- the bits of a byte from bit r on are ones, up to bit k
abbrev pub Ones : ℕ → ℕ → ℕ → Type 0
Ones x r k = (j : ℕ) → r ≤ j → j < k → x / 2 ^ (7 - j) % 2 ≡ 1

-- bit k is the first of a byte, from bit r on, that is zero
pub record FirstZero (x r k : ℕ) : Type 0 where
  pub from : r ≤ k
  pub within : k < 8
  pub ones : Ones x r k
  pub zero : x / 2 ^ (7 - k) % 2 ≡ 0
