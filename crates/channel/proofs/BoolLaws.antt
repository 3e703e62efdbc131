-- Conjunctions, and tests over lists of places.
-- Assumes nothing.
use mathlib.Core.Path.{◌≡◌, refl}
use mathlib.Core.Bool.{Bool, true, false, not, ◌&&◌, cond}
use mathlib.Core.List.{List, [], ◌∷◌}
use Prim.Native.Nat.{ℕ, zero, suc, ◌+◌, ◌≤◌, ◌<◌, zero-le}
use native.Mathlib.Omega.{arith}
use lib.Dec.{eqb}
use borrow.Author.Tests.{eqb-true, eqb-false, not-true}
use Rattle.bits.specs.Bit.{count}
use Rattle.channel.specs.declared.Pattern.{Pattern}
use Rattle.channel.specs.Places.{elem, zeros_of, ones_of}
use Rattle.channel.specs.Coding.{Word, all, fixed}

pub and_l : (a b : Bool) → a && b ≡ true → a ≡ true
and_l true b h = refl
and_l false b h = h

pub and_r : (a b : Bool) → a && b ≡ true → b ≡ true
and_r true b h = h
and_r false b h = cc

-- any part of a conjunction that holds
pub ruleset ands = (and_l, and_r)

pub and_both : (a b : Bool) → a ≡ true → b ≡ true → a && b ≡ true
and_both a b p q = rw (p, q)

pub and-false : (b : Bool) → b && false ≡ false
and-false true = refl
and-false false = refl

pub never : true ≡ false → ⊥
never e = let z : ◌≡◌ {A = ℕ} 0 1 = cc in omega arith

-- a test that holds at every place of a list holds at each
pub all-at : (t : ℕ → Bool) (is : List ℕ) (i : ℕ) → elem i is ≡ true → all t is ≡ true → t i ≡ true
all-at t [] i e h = cc
all-at t (j ∷ is) i e h = go (eqb i j) refl e (λ e'. all-at t is i e' (and_r (t j) (all t is) h))
  where
    go : (b : Bool) → eqb i j ≡ b → cond b true (elem i is) ≡ true → (elem i is ≡ true → t i ≡ true) → t i ≡ true
    go true q e rest = rw (eqb-true i j q) (and_l (t j) (all t is) h)
    go false q e rest = rest e

-- the numbers from a on that a count of k has
pub elem-count : (p k a : ℕ) → a ≤ p → p < a + k → elem p (count k a) ≡ true
elem-count p zero a l m = absurd (omega arith)
elem-count p (suc k) a l m = go (eqb p a) refl (λ n. elem-count p k (suc a) n (omega arith))
  where
    go : (t : Bool) → eqb p a ≡ t → (suc a ≤ p → elem p (count k (suc a)) ≡ true) → cond t true (elem p (count k (suc a))) ≡ true
    go true q h = refl
    go false q h = let n = eqb-false p a q in h (omega arith)

-- a fact at every number below n, by one test that is computed
pub all-below : (n : ℕ) (t : ℕ → Bool) → all t (count n 0) ≡ true → (v : ℕ) → v < n → t v ≡ true
all-below n t h v l = all-at t (count n 0) v (elem-count v n 0 zero-le (omega arith)) h

-- a fixed zero of a pattern
pub zero-at : (g : Word) (t : Pattern) (i : ℕ) → elem i (zeros_of t) ≡ true → fixed g t ≡ true → g i ≡ false
zero-at g t i e h = not-true (g i) (all-at (λ i. not (g i)) (zeros_of t) i e (and_l _ _ h))

-- a fixed one of a pattern
pub one_at : (g : Word) (t : Pattern) (i : ℕ) → elem i (ones_of t) ≡ true → fixed g t ≡ true → g i ≡ true
one_at g t i e h = all-at g (ones_of t) i e (search ands)
