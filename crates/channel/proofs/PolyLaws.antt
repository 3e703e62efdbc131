-- The division that Crc.rem carries out is division by X^3 + X + 1: what it gives is left, and nothing else is. Proved once, over the length.
-- Assumes nothing.
use mathlib.Core.Path.{◌≡◌, refl, sym, ◌∙◌, ap, subst, fun_ext}
use mathlib.Core.Bool.{Bool, true, false, ◌&&◌}
use mathlib.Core.List.{List, [], ◌∷◌}
use Prim.Native.Nat.{ℕ, zero, suc, ◌+◌, ◌≤◌}
use native.Mathlib.Omega.{arith}
use native.Mathlib.Decide.{ℕ_discrete}
use Rattle.channel.specs.Poly.{◌⊕◌, Poly, by_x, by_g, poly_from, poly, Rem, rem_poly, Leaves}
use Rattle.channel.specs.Crc.{push, rem_from, rem, leaves111}
use Rattle.channel.proofs.BoolLaws.{ands}

abbrev nought : Rem
nought = record { r2 = false; r1 = false; r0 = false }

-- X^2 + X + 1
abbrev pub all_ones : Rem
all_ones = record { r2 = true; r1 = true; r0 = true }

twice : (a b : Bool) → b ≡ a ⊕ (b ⊕ a)
twice true true = refl
twice true false = refl
twice false true = refl
twice false false = refl

twice₂ : (q a c : Bool) → q ⊕ c ≡ (a ⊕ q) ⊕ (c ⊕ a)
twice₂ true true true = refl
twice₂ true true false = refl
twice₂ true false true = refl
twice₂ true false false = refl
twice₂ false true true = refl
twice₂ false true false = refl
twice₂ false false true = refl
twice₂ false false false = refl

turn : (q p r : Bool) → (q ⊕ p) ⊕ r ≡ ((r ⊕ q) ⊕ p) ⊕ false
turn true true true = refl
turn true true false = refl
turn true false true = refl
turn true false false = refl
turn false true true = refl
turn false true false = refl
turn false false true = refl
turn false false false = refl

cancel_r : (a b x : Bool) → a ⊕ x ≡ b ⊕ x → a ≡ b
cancel_r true true x h = refl
cancel_r false false x h = refl
cancel_r true false true h = cc
cancel_r true false false h = cc
cancel_r false true true h = cc
cancel_r false true false h = cc

cancel_l : (x a b : Bool) → x ⊕ a ≡ x ⊕ b → a ≡ b
cancel_l false a b h = h
cancel_l true true true h = refl
cancel_l true false false h = refl
cancel_l true true false h = cc
cancel_l true false true h = cc

abbrev Split : Poly → Poly → Rem → Type 0
Split f q r = (j : ℕ) → f j ≡ by_g q j ⊕ rem_poly r j

step : (f q : Poly) (r : Rem) (b : Bool) → Split f q r → Split (by_x f b) (by_x q r.r2) (push r b)
step f q r b h zero = twice r.r2 b
step f q r b h (suc zero) = h 0 ∙ twice₂ (q 0) r.r2 r.r0
step f q r b h (suc (suc zero)) = h 1
step f q r b h (suc (suc (suc zero))) = h 2 ∙ turn (q 1) (q 2) r.r2
step f q r b h (suc (suc (suc (suc j)))) = h (suc (suc (suc j)))

abbrev Ends : Poly → ℕ → Type 0
Ends q n = (j : ℕ) → n ≤ j → q j ≡ false

next-ends : (q : Poly) (b : Bool) (n : ℕ) → Ends q n → Ends (by_x q b) (suc n)
next-ends q b n h zero a = absurd (omega arith)
next-ends q b n h (suc j) a = h j (omega arith)

divide : (bs : List Bool) (f q : Poly) (r : Rem) (n : ℕ) → Split f q r → Ends q n → (p : Poly) × (m : ℕ) × Ends p m × Split (poly_from f bs) p (rem_from r bs)
divide [] f q r n h e = (q, n, e, h)
divide (b ∷ bs) f q r n h e = divide bs (by_x f b) (by_x q r.r2) (push r b) (suc n) (step f q r b h) (next-ends q r.r2 n e)

none-split : Split (λ j. false) (λ j. false) nought
none-split zero = refl
none-split (suc zero) = refl
none-split (suc (suc zero)) = refl
none-split (suc (suc (suc j))) = refl

-- a word leaves what the division gives
pub leaves : (bs : List Bool) → Leaves bs (rem bs)
leaves bs =
    let d = divide bs (λ j. false) (λ j. false) nought 0 none-split (λ j a. refl) in
    record { quotient = d.0; bound = d.1; ends = d.2; splits = d.3 }

-- two quotients of one word are equal
same-below : (f q p : Poly) (r s : Rem) → Split f q r → Split f p s → (n : ℕ) → ((j : ℕ) → n ≤ j → q j ≡ p j) → (j : ℕ) → q j ≡ p j
same-below f q p r s h k zero e j = e j (omega arith)
same-below f q p r s h k (suc n) e i = same-below f q p r s h k n lower i
  where
    here : q n ≡ p n
    here =
        let a : q (suc (suc n)) ≡ p (suc (suc n)) = e (suc (suc n)) (omega arith) in
        let b : q (suc (suc (suc n))) ≡ p (suc (suc (suc n))) = e (suc (suc (suc n))) (omega arith) in
        let c : ((q n ⊕ q (suc (suc n))) ⊕ q (suc (suc (suc n)))) ⊕ false ≡ ((p n ⊕ p (suc (suc n))) ⊕ p (suc (suc (suc n)))) ⊕ false = sym (h (suc (suc (suc n)))) ∙ k (suc (suc (suc n))) in
        cancel_r _ _ (p (suc (suc n))) (cancel_r _ _ (p (suc (suc (suc n)))) (cancel_r _ _ false (rw (a, b) at c)))

    lower : (j : ℕ) → n ≤ j → q j ≡ p j
    lower j a = elim (ℕ_discrete n j) [ yes d ↦ rw (← d) here | no d ↦ e j (omega arith) ]

-- a word leaves one remainder only
pub remainder_one : (bs : List Bool) (r s : Rem) → Leaves bs r → Leaves bs s → r ≡ s
remainder_one bs r s D E = λ i. record { r2 = at₂ i; r1 = at₁ i; r0 = at₀ i }
  where
    same : (j : ℕ) → D.quotient j ≡ E.quotient j
    same =
        same-below (poly bs) D.quotient E.quotient r s D.splits E.splits (D.bound + E.bound)
        (λ j a. D.ends j (omega arith) ∙ sym (E.ends j (omega arith)))

    same-poly : D.quotient ≡ E.quotient
    same-poly = fun_ext same

    terms-one : (j : ℕ) → rem_poly r j ≡ rem_poly s j
    terms-one j =
        let c : by_g D.quotient j ⊕ rem_poly r j ≡ by_g D.quotient j ⊕ rem_poly s j = sym (D.splits j) ∙ E.splits j ∙ ap (λ (q : Poly). by_g q j ⊕ rem_poly s j) (sym same-poly) in
        cancel_l (by_g D.quotient j) (rem_poly r j) (rem_poly s j) c

    at₂ : r.r2 ≡ s.r2
    at₂ = terms-one 2

    at₁ : r.r1 ≡ s.r1
    at₁ = terms-one 1

    at₀ : r.r0 ≡ s.r0
    at₀ = terms-one 0

-- so what a word leaves is what the division gives
pub rem_is : (bs : List Bool) (r : Rem) → Leaves bs r → rem bs ≡ r
rem_is bs r D = remainder_one bs (rem bs) r (leaves bs) D

-- the test of a CRC is that the word leaves X^2 + X + 1
pub test_leaves : (bs : List Bool) → leaves111 bs ≡ true → Leaves bs all_ones
test_leaves bs h = subst (Leaves bs) (same (rem bs) h) (leaves bs)
  where
    same : (r : Rem) → r.r2 && r.r1 && r.r0 ≡ true → r ≡ all_ones
    same r h i = record { r2 = two i; r1 = one i; r0 = nil i }
      where
        two : r.r2 ≡ true
        two = search ands

        one : r.r1 ≡ true
        one = search ands

        nil : r.r0 ≡ true
        nil = search ands

pub leaves_test : (bs : List Bool) → Leaves bs all_ones → leaves111 bs ≡ true
leaves_test bs h = rw (rem_is bs all_ones h)
