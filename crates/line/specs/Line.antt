-- The text of a line of the listing (document 01, "The listing program").
-- Assumes nothing.
use Rattle.std.specs.Prelude.{List, [], ◌∷◌, ◌++◌, ℕ}
use Rattle.text.specs.Text.{decimal_of}

-- numbers, each behind a space, and the line end
abbrev pub spaced : List ℕ → List ℕ
spaced [] = 10 ∷ []
spaced (n ∷ ns) = 32 ∷ decimal_of n ++ spaced ns

-- the line of a refusal: `R number`
abbrev pub refusal_line : ℕ → List ℕ
refusal_line number = 82 ∷ spaced (number ∷ [])
