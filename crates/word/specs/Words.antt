-- A frame's 160 bits as three numbers, and the fixed bits of a pattern as octets.
-- Assumes nothing.
use Rattle.std.specs.Prelude.{◌≡◌, Bool, true, not, List, ◌++◌, ℕ, ltb}
use Rattle.std.specs.Bool.{beq}
use Rattle.std.specs.Int.{w32, w64, to_be_bytes}
use Rattle.bits.specs.Bit.{bit_at, number, count}
use Rattle.channel.specs.Places.{elem}
use Rattle.channel.specs.Coding.{Word, bits_at, all}
use Rattle.word.specs.declared.Words.{Words}

-- k bits from place p on as a number, the first on top
unfoldable pub field_at : Word → ℕ → ℕ → ℕ
field_at g k p = number (bits_at g (count k p))

-- the twenty octets of three words, each with its high byte first: of the third word its low 32 bits
unfoldable pub octets_in : Words → List ℕ
octets_in w = to_be_bytes w64 w.a ++ to_be_bytes w64 w.b ++ to_be_bytes w32 w.c

-- octets 1 to 8, 9 to 16 and 17 to 20 of a word
pub record Holds (g : Word) (a b c : ℕ) : Type 0 where
  pub first : a ≡ field_at g 64 0
  pub second : b ≡ field_at g 64 64
  pub third : c ≡ field_at g 32 128

-- of the 160 bits of some octets those at some places are ones, and no other (a `let`, so that a check computes the places once)
abbrev pub ones_at : List ℕ → List ℕ → Bool
ones_at octets places = let ps = places in all (λ i. beq (bit_at octets i) (elem i ps)) (count 160 0)

-- the fixed bits of a pattern as octets: which bits are fixed, and the fixed ones
pub record FixedBy (zeros ones mask fixed : List ℕ) : Type 0 where
  pub mask_is : ones_at mask (zeros ++ ones) ≡ true
  pub fixed_is : ones_at fixed ones ≡ true
  pub inside : all (λ i. ltb i 160) (zeros ++ ones) ≡ true
  pub apart : all (λ i. not (elem i ones)) zeros ≡ true
