-- A text put into a buffer, and the decimal digits of a number in ASCII.
-- Assumes nothing.
use Rattle.std.specs.Prelude.{◌≡◌, cond, List, [], ◌∷◌, ◌++◌, ℕ, zero, suc, ◌+◌, ◌/◌, ◌%◌, ◌≤◌, ltb, length, take, drop}
use Rattle.std.specs.Borrow.{MutBor}

-- the decimal digits of a number, at most as many as the first argument says: no zeros in front, but for 0 itself
unfoldable pub digits_of : ℕ → ℕ → List ℕ
digits_of zero n = []
digits_of (suc most) n = let front : List ℕ = digits_of most (n / 10) in cond (ltb n 10) [] front ++ ((48 + n % 10) ∷ [])

-- a number of 64 bits in decimal
abbrev pub decimal_of : ℕ → List ℕ
decimal_of n = digits_of 20 n

-- a text is put into a buffer at a place, and ends at another: the bytes before the place and those behind the text are as they were. So it stands behind
-- what stood before the place
pub record Put (before : List ℕ) (at : ℕ) (text after : List ℕ) (end : ℕ) : Type 0 where
  pub ends : end ≡ at + length text
  pub is : after ≡ take at before ++ text ++ drop (at + length text) before
  pub within : (end ≤ length after) × (end ≡ length (take end after))
  pub behind : take end after ≡ take at before ++ text

-- a buffer is still the same one, and as long as it was
pub record Same (old new : MutBor (List ℕ)) : Type 0 where
  pub reference : new.ghost_name ≡ old.ghost_name
  pub long : length new.now ≡ length old.now
