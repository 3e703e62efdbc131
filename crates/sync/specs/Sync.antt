-- The eight zeros and a one that every frame which can start a run begins with (document 01, "Frames", the table of patterns).
-- Assumes nothing.
use Rattle.std.specs.Prelude.{◌≡◌, ◌⊎◌, Bool, true, false, ℕ, ◌+◌, ◌*◌, ◌-◌, ◌/◌, ◌%◌, ◌^◌, ◌≤◌, ◌<◌}

-- they stand at p
pub record Synced (f : ℕ → Bool) (p : ℕ) : Type 0 where
  pub zeros : (j : ℕ) → j < 8 → f (p + j) ≡ false
  pub one : f (p + 8) ≡ true

-- they stand in two bytes, from bit k of the first on
abbrev pub SyncedIn : ℕ → ℕ → ℕ → Type 0
SyncedIn a b k = (a % 2 ^ (8 - k) ≡ 0) × (b / 2 ^ (7 - k) ≡ 1)

-- r is the first place from q on where they stand, or the end of the byte that has bit `last` where they stand at none before it
pub record SyncFrom (f : ℕ → Bool) (q last r : ℕ) : Type 0 where
  pub from : q ≤ r
  pub within : r ≤ 8 * (last / 8 + 1)
  pub none : (p : ℕ) → q ≤ p → p < r → Synced f p → ⊥
  pub stops : (r ≡ 8 * (last / 8 + 1)) ⊎ Synced f r
