-- How long names and the line of an octet are, and names put one behind the other.
-- Assumes nothing.
use mathlib.Core.Path.{◌≡◌, refl}
use mathlib.Core.Bool.{Bool, true, false, cond}
use mathlib.Core.List.{List, [], ◌∷◌, ◌++◌}
use Prim.Native.Nat.{ℕ, zero, suc, ◌+◌, ◌*◌}
use native.Mathlib.Numerals.{add-one}
use native.Mathlib.Omega.{arith}
use lib.Dec.{ltb}
use lib.ListN.{length, take, drop, length-append, length-drop}
use lib.Seq.{take_all}
use Rattle.channel.specs.declared.Kind.{Kind}
use Rattle.text.specs.Text.{Put}
use Rattle.text.proofs.TextLaws.{put-put}
use Rattle.cells.specs.declared.Cell.{Cell}
use Rattle.cells.specs.declared.Cell.TheVariants.{Zero, One, C, Xc, Crc, D, Prime, T, Tail}
use Rattle.std.specs.Prelude.{Option, None, Some}
use Rattle.cells.specs.Cells.{cell_of}
use Rattle.names.specs.Names.{lettered_of, name_of, names_of, octet_of}

-- a name has five columns
either : (t : Bool) (xs ys : List ℕ) → length xs ≡ 5 → length ys ≡ 5 → length (cond t xs ys) ≡ 5
either true xs ys p q = p
either false xs ys p q = q

pub lettered-long : (first second n : ℕ) → length (lettered_of first second n) ≡ 5
unfolding lettered_of
lettered-long first second n = either (ltb n 10) _ _ refl (either (ltb n 100) _ _ refl refl)

pub name-long : (c : Option Cell) → length (name_of c) ≡ 5
unfolding name_of
name-long (Some Zero) = refl
name-long (Some One) = refl
name-long (Some (C n)) = lettered-long 32 67 n
name-long (Some (Xc n)) = lettered-long 88 67 n
name-long (Some (Crc n)) = refl
name-long (Some (D n)) = lettered-long 32 68 n
name-long (Some (Prime n)) = lettered-long 68 39 n
name-long (Some (T n)) = lettered-long 32 84 n
name-long (Some Tail) = refl
name-long None = refl

-- the names of an octet's first bits
pub names_long : (k : Kind) (octet i : ℕ) → length (names_of k octet i) ≡ 5 * i
names_long k octet zero = refl
names_long k octet (suc i) =
    omega (arith, length-append (names_of k octet i) (name_of (cell_of k (8 * octet + i))), names_long k octet i, name-long (cell_of k (8 * octet + i)))

-- a line
pub number-long : (octet : ℕ) → length (drop 3 (lettered_of 32 32 (octet + 1))) ≡ 2
number-long octet = omega (arith, length-drop 3 (lettered_of 32 32 (octet + 1)), lettered-long 32 32 (octet + 1))

pub octet-long : (k : Kind) (octet : ℕ) → length (octet_of k octet) ≡ 43
octet-long k octet =
    omega
    (arith, length-append (drop 3 (lettered_of 32 32 (octet + 1)) ++ names_of k octet 8) (10 ∷ []), length-append (drop 3 (lettered_of 32 32 (octet + 1))) (names_of k octet 8), number-long octet, names_long k octet 8)

-- the number of an octet is put, of which two columns are wanted
pub number_put : {before after number : List ℕ} {at end : ℕ} (octet : ℕ) → number ≡ lettered_of 32 32 (octet + 1) → Put before at (take 2 (drop 3 number)) after end
    → Put before at (drop 3 (lettered_of 32 32 (octet + 1))) after end
number_put octet e p = rw (e, take_all 2 (drop 3 (lettered_of 32 32 (octet + 1))) (omega (arith, number-long octet))) at p

-- one name more
pub names_next : {before out after called : List ℕ} {at m end : ℕ} (k : Kind) (octet i : ℕ) → Put before at (names_of k octet i) out m → called ≡ name_of (cell_of k (8 * octet + i))
    → Put out m called after end → Put before at (names_of k octet (i + 1)) after end
names_next k octet i p e q = rw add-one (put-put p (rw e at q))
