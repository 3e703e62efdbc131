-- The text of a bit's name, in bytes of ASCII, flush right in five columns, and the line of an octet.
-- Assumes nothing.
use Rattle.std.specs.Prelude.{cond, List, [], ◌∷◌, ◌++◌, ℕ, zero, suc, ◌+◌, ◌*◌, ◌/◌, ◌%◌, ltb, drop, Option, None, Some}
use Rattle.channel.specs.declared.Kind.{Kind}
use Rattle.cells.specs.declared.Cell.{Cell}
use Rattle.cells.specs.declared.Cell.TheVariants.{Zero, One, C, Xc, Crc, D, Prime, T, Tail}
use Rattle.cells.specs.Cells.{cell_of}

-- two letters and a number of one, two or three digits; 32 is a space, 48 the digit 0
unfoldable pub lettered_of : ℕ → ℕ → ℕ → List ℕ
lettered_of first second n =
    cond (ltb n 10) (32 ∷ 32 ∷ first ∷ second ∷ (48 + n % 10) ∷ [])
    (cond (ltb n 100) (32 ∷ first ∷ second ∷ (48 + n / 10 % 10) ∷ (48 + n % 10) ∷ [])
    (first ∷ second ∷ (48 + n / 100 % 10) ∷ (48 + n / 10 % 10) ∷ (48 + n % 10) ∷ []))

-- `0`, `1`, `C`, `XC`, `CRC`, `D`, `D'`, `T` with their numbers, `T` alone, and `-` for a bit that nothing names
unfoldable pub name_of : Option Cell → List ℕ
name_of (Some Zero) = 32 ∷ 32 ∷ 32 ∷ 32 ∷ 48 ∷ []
name_of (Some One) = 32 ∷ 32 ∷ 32 ∷ 32 ∷ 49 ∷ []
name_of (Some (C n)) = lettered_of 32 67 n
name_of (Some (Xc n)) = lettered_of 88 67 n
name_of (Some (Crc n)) = 32 ∷ 67 ∷ 82 ∷ 67 ∷ (48 + n % 10) ∷ []
name_of (Some (D n)) = lettered_of 32 68 n
name_of (Some (Prime n)) = lettered_of 68 39 n
name_of (Some (T n)) = lettered_of 32 84 n
name_of (Some Tail) = 32 ∷ 32 ∷ 32 ∷ 32 ∷ 84 ∷ []
name_of None = 32 ∷ 32 ∷ 32 ∷ 32 ∷ 45 ∷ []

-- what the first bits of an octet of a kind are called, as many as the last argument says
abbrev pub names_of : Kind → ℕ → ℕ → List ℕ
names_of k octet zero = []
names_of k octet (suc i) = names_of k octet i ++ name_of (cell_of k (8 * octet + i))

-- the line of an octet, octets being counted from 0 and numbered from 1: its number in two columns, its eight bits, the line end
abbrev pub octet_of : Kind → ℕ → List ℕ
octet_of k octet = drop 3 (lettered_of 32 32 (octet + 1)) ++ names_of k octet 8 ++ (10 ∷ [])
