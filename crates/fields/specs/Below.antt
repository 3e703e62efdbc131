-- A list of places that lie in a word.
-- Assumes nothing.
use Rattle.std.specs.Prelude.{List, ℕ, ◌<◌, length, get_or}

-- each entry of a list is below m
abbrev pub Below : ℕ → List ℕ → Type 0
Below m ps = (j : ℕ) → j < length ps → get_or ps j 0 < m
