-- Lists of places that lie in a word, by a test that is computed.
-- Assumes nothing.
use mathlib.Core.Bool.{Bool, true, false, ◌&&◌}
use mathlib.Core.List.{List, [], ◌∷◌}
use Prim.Native.Nat.{ℕ, zero, suc}
use native.Mathlib.Omega.{arith}
use lib.Dec.{T, ltb, ltb→lt}
use Rattle.fields.specs.Below.{Below}

-- a list whose entries a test finds below m
abbrev pub all_lt : ℕ → List ℕ → Bool
all_lt m [] = true
all_lt m (p ∷ ps) = ltb p m && all_lt m ps

both : (a b : Bool) → T (a && b) → T a × T b
both true b t = (tt, t)
both false b t = absurd t

pub listed_below : (m : ℕ) (ps : List ℕ) → T (all_lt m ps) → Below m ps
listed_below m [] t j h = absurd (omega arith)
listed_below m (p ∷ ps) t zero h = ltb→lt p m (both (ltb p m) (all_lt m ps) t).0
listed_below m (p ∷ ps) t (suc j) h = listed_below m ps (both (ltb p m) (all_lt m ps) t).1 j (omega arith)
