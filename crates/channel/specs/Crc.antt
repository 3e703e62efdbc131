-- The CRC (document 01, "CRC"; TS 48.061, 5.1.4.1.1): the division of a word by X^3 + X + 1, carried out bit by bit.
-- That what it gives is the remainder is proved in proofs/PolyLaws. Assumes nothing.
use Rattle.std.specs.Prelude.{Bool, false, ◌&&◌, List, [], ◌∷◌, ℕ}
use Rattle.channel.specs.Poly.{◌⊕◌, Rem}
use Rattle.channel.specs.Coding.{Word, bits_at}

-- what r X + b leaves: X^3 is X + 1
abbrev pub push : Rem → Bool → Rem
push r b = record { r2 = r.r1; r1 = r.r0 ⊕ r.r2; r0 = b ⊕ r.r2 }

abbrev pub rem_from : Rem → List Bool → Rem
rem_from r [] = r
rem_from r (b ∷ bs) = rem_from (push r b) bs

-- what a word leaves, the last bit the constant term
abbrev pub rem : List Bool → Rem
rem bs = rem_from (record { r2 = false; r1 = false; r0 = false }) bs

-- it leaves X^2 + X + 1
abbrev pub leaves111 : List Bool → Bool
leaves111 bs = (rem bs).r2 && (rem bs).r1 && (rem bs).r0

-- a CRC is right: the bits at the covered places in listed order, then the three CRC bits, leave X^2 + X + 1
unfoldable pub right : Word → List ℕ → Bool
right g places = leaves111 (bits_at g places)
