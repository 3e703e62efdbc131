-- Polynomials over GF(2), given by their coefficients, and division by X^3 + X + 1 (document 01, "CRC"; TS 48.061, 5.1.4.1.1).
-- Assumes nothing.
use Rattle.std.specs.Prelude.{◌≡◌, Bool, true, false, not, List, [], ◌∷◌, ℕ, zero, suc, ◌≤◌}

-- addition in GF(2)
abbrev pub ◌⊕◌ : Bool → Bool → Bool
true ⊕ b = not b
false ⊕ b = b

infixl 40 ◌⊕◌
-- the coefficient of X^j at each j
abbrev pub Poly : Type 0
Poly = ℕ → Bool

-- f + g
abbrev pub add : Poly → Poly → Poly
add f g j = f j ⊕ g j

-- X f + b
abbrev pub by_x : Poly → Bool → Poly
by_x f b zero = b
by_x f b (suc j) = f j

-- (X^3 + X + 1) f
abbrev pub by_g : Poly → Poly
by_g f = add (add (by_x (by_x (by_x f false) false) false) (by_x f false)) f

-- f X^k + a word of k bits, its last bit the constant term
abbrev pub poly_from : Poly → List Bool → Poly
poly_from f [] = f
poly_from f (b ∷ bs) = poly_from (by_x f b) bs

-- a word as a polynomial, its last bit the constant term
abbrev pub poly : List Bool → Poly
poly bs = poly_from (λ j. false) bs

-- r2 X^2 + r1 X + r0
pub record Rem : Type 0 where
  pub r2 : Bool
  pub r1 : Bool
  pub r0 : Bool

abbrev pub rem_poly : Rem → Poly
rem_poly r zero = r.r0
rem_poly r (suc zero) = r.r1
rem_poly r (suc (suc zero)) = r.r2
rem_poly r (suc (suc (suc j))) = false

-- divided by X^3 + X + 1 a word leaves r: it is a multiple, by a polynomial of finitely many terms, plus r
pub record Leaves (bs : List Bool) (r : Rem) : Type 0 where
  pub quotient : Poly
  pub bound : ℕ
  pub ends : (j : ℕ) → bound ≤ j → quotient j ≡ false
  pub splits : (j : ℕ) → poly bs j ≡ by_g quotient j ⊕ rem_poly r j
