-- How bits are put by runs inside one byte.
-- Assumes nothing.
use Rattle.std.specs.Prelude.{◌≡◌, Bool, ℕ, ◌+◌, ◌*◌, ◌-◌, ◌/◌, ◌%◌, ◌^◌, ◌<◌}
use Rattle.bits.specs.Bit.{to_n}

-- a byte with its r bits from bit a on made those of v
abbrev pub put_run : ℕ → ℕ → ℕ → ℕ → ℕ
put_run x a r v = x / 2 ^ (8 - a) * 2 ^ (8 - a) + v * 2 ^ (8 - a - r) + x % 2 ^ (8 - a - r)

-- the eight bits of a byte are g a, g (a + 1), ..
abbrev pub Shows : ℕ → (ℕ → Bool) → ℕ → Type 0
Shows x g a = (j : ℕ) → j < 8 → x / 2 ^ (7 - j) % 2 ≡ to_n (g (a + j))
