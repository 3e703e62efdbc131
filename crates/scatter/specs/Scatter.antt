-- Bits put at places.
-- Assumes nothing.
use Rattle.std.specs.Prelude.{◌≡◌, Bool, List, [], ◌∷◌, ℕ, suc, ◌+◌, ◌%◌, ◌<◌, ◌≤◌, length, get_or}
use Rattle.bits.specs.Put.{put_bit}

-- r places, from number j of a list on, that follow each other in one octet and get bits of one byte
pub record RunAt (ps : List ℕ) (j r : ℕ) : Type 0 where
  pub some : 0 < r
  pub within : j + r ≤ length ps
  pub octet : get_or ps j 0 % 8 + r ≤ 8
  pub byte : j % 8 + r ≤ 8
  pub follow : (i : ℕ) → i < r → get_or ps (j + i) 0 ≡ get_or ps j 0 + i

-- the bytes with bits h i, h (i + 1), .. put at some places, one bit at each
unfoldable pub put_places : List ℕ → List ℕ → (ℕ → Bool) → ℕ → List ℕ
put_places s [] h i = s
put_places s (p ∷ ps) h i = put_places (put_bit s p (h i)) ps h (suc i)
