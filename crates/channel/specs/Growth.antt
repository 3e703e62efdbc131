-- Captures that still grow (document 02, Ask 2).
-- Assumes nothing.
use Rattle.std.specs.Prelude.{◌≡◌, Bool, ℕ, ◌≤◌, ◌<◌}
use Rattle.channel.specs.Frames.{Capture}

-- two captures' bits agree before n
abbrev pub Agree : ℕ → (ℕ → Bool) → (ℕ → Bool) → Type 0
Agree n f g = (i : ℕ) → i < n → f i ≡ g i

-- the capture w got more bits behind n, or none, and is v now: the bits before n are the same, and so are direction and profile
pub record Grown (w v : Capture) : Type 0 where
  pub more : w.n ≤ v.n
  pub same : Agree w.n w.bits v.bits
  pub terms : w.terms ≡ v.terms

-- how many items at the end of a reading more bits may change: the last
abbrev pub unsettled : ℕ
unsettled = 1
