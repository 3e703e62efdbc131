-- A tail that was gone through byte by byte.
-- Assumes nothing.
use mathlib.Core.Path.{◌≡◌, refl}
use mathlib.Core.Logic.{inl, inr, by_cases}
use mathlib.Core.Bool.{Bool, true, false, ◌&&◌, cond}
use mathlib.Core.List.{List}
use Prim.Native.Nat.{ℕ, min, ◌+◌, ◌*◌, ◌-◌, ◌/◌, ◌%◌, ◌^◌, ◌<◌, ◌≤◌}
use native.Mathlib.Omega.{arith}
use native.Mathlib.Decide.{dec_lt}
use borrow.Author.Tests.{ltb-true, eq-eqb, ne_eqb, lt-ltb, le-leb, eqb-true, leb-true}
use lib.Count.{count_leading_zeros}
use lib.Dec.{eqb, leb, ltb}
use lib.ListN.{get_or}
use Rattle.bits.specs.Bit.{bit_at, count}
use Rattle.channel.specs.Coding.{all}
use Rattle.channel.specs.Frames.{Capture, Tail}
use Rattle.channel.proofs.BoolLaws.{ands, all-below}
use Rattle.tails.specs.Zero.{Ones, FirstZero}

-- 256 moved down by fewer than eight bits is something
pub shifted_positive : (r : ℕ) → r < 8 → 0 < 256 / 2 ^ r
shifted_positive r l = ltb-true 0 (256 / 2 ^ r) (all-below 8 (λ r. ltb 0 (256 / 2 ^ r)) refl r l)

-- the zeros of a byte, from bit r on, as ones
abbrev pub zeros : ℕ → ℕ → ℕ
zeros x r = (255 - x) % (256 / 2 ^ r)

-- the first zero as the code counts it
abbrev pub counted : ℕ → ℕ → ℕ
counted x r = count_leading_zeros 32 (zeros x r) - 24

-- whether it is the first zero, or there is none: a test that is computed for every byte and every bit
abbrev is_first : ℕ → ℕ → ℕ → Bool
is_first x r k =
    leb r k && leb k 8 && leb 24 (count_leading_zeros 32 (zeros x r))
    && all (λ j. cond (leb r j && ltb j k) (eqb (x / 2 ^ (7 - j) % 2) 1) true) (count 8 0)
    && cond (eqb (zeros x r) 0) (eqb k 8) (ltb k 8 && eqb (x / 2 ^ (7 - k) % 2) 0)

every : all (λ x. all (λ r. is_first x r (counted x r)) (count 8 0)) (count 256 0) ≡ true
unfolding count_leading_zeros
every = refl

-- what the test says
module _ (x r k : ℕ) (t : is_first x r k ≡ true) where
  high : 24 ≤ count_leading_zeros 32 (zeros x r)
  high = leb-true 24 (count_leading_zeros 32 (zeros x r)) (search ands)

  one : k ≤ 8 → Ones x r k
  one l j a b =
      let h = all-below 8 (λ j. cond (leb r j && ltb j k) (eqb (x / 2 ^ (7 - j) % 2) 1) true) (search ands) j (omega arith) in
      eqb-true (x / 2 ^ (7 - j) % 2) 1 (rw (le-leb r j a, lt-ltb j k b) at h)

  ends : cond (eqb (zeros x r) 0) (eqb k 8) (ltb k 8 && eqb (x / 2 ^ (7 - k) % 2) 0) ≡ true
  ends = search ands

  none_lem : zeros x r ≡ 0 → Ones x r 8
  none_lem e =
      let h : eqb k 8 ≡ true = rw (eq-eqb (zeros x r) 0 e) at ends in
      let l : k ≡ 8 = eqb-true k 8 h in
      rw l at (one (omega arith))

  first_lem : ¬ (zeros x r ≡ 0) → FirstZero x r k
  first_lem e =
      let h : ltb k 8 && eqb (x / 2 ^ (7 - k) % 2) 0 ≡ true = rw (ne_eqb (zeros x r) 0 e) at ends in
      let from : r ≤ k = leb-true r k (search ands) in
      let within : k < 8 = ltb-true k 8 (search ands) in
      record { from = from; within = within; ones = one (omega arith); zero = eqb-true (x / 2 ^ (7 - k) % 2) 0 (search ands) }

module _ (x r : ℕ) (byte : x < 256) (bit : r < 8) where
  tested : is_first x r (counted x r) ≡ true
  tested = all-below 8 (λ r. is_first x r (counted x r)) (all-below 256 (λ x. all (λ r. is_first x r (counted x r)) (count 8 0)) every x byte) r bit

  pub counted_high : 24 ≤ count_leading_zeros 32 (zeros x r)
  counted_high = high x r (counted x r) tested

  pub counted_none : zeros x r ≡ 0 → Ones x r 8
  counted_none = none_lem x r (counted x r) tested

  pub counted-first : ¬ (zeros x r ≡ 0) → FirstZero x r (counted x r)
  counted-first = first_lem x r (counted x r) tested

-- a byte of the tail from bit e on
module _ (s : List ℕ) (q e : ℕ) (so_far : (i : ℕ) → q ≤ i → i < e → bit_at s i ≡ true) where
  -- its ones
  pub ones-more : (k : ℕ) → k ≤ 8 → Ones (get_or s (e / 8) 0) (e % 8) k → (i : ℕ) → q ≤ i → i < 8 * (e / 8) + k → bit_at s i ≡ true
  ones-more k within ones i a b =
      by_cases (dec_lt i e)
      (λ (l : i < e). so_far i a l)
      (λ (l : ¬ (i < e)).
      let same : i / 8 ≡ e / 8 = omega arith in
      rw same (eq-eqb (get_or s (e / 8) 0 / 2 ^ (7 - i % 8) % 2) 1 (ones (i % 8) (omega arith) (omega arith))))

-- and its first zero
pub zero_met : (s : List ℕ) (e k : ℕ) → FirstZero (get_or s (e / 8) 0) (e % 8) k → bit_at s (8 * (e / 8) + k) ≡ false
zero_met s e k first =
    let d : (8 * (e / 8) + k) / 8 ≡ e / 8 = omega (arith, first.within) in
    let m : (8 * (e / 8) + k) % 8 ≡ k = omega (arith, first.within) in
    rw (d, m, first.zero)

-- the whole tail: the ones up to n, or up to a zero before it
module _ (w : Capture) (q e : ℕ) (within : q ≤ w.n) (ones : (i : ℕ) → q ≤ i → i < e → w.bits i ≡ true) where
  pub tail_all : w.n ≤ e → Tail w q (w.n - q)
  tail_all l = record { within = omega arith; ones = λ i a b. ones i a (omega arith); stops = inl (omega arith) }

  pub tail_met : q ≤ e → w.bits e ≡ false → Tail w q (min e w.n - q)
  tail_met l zero =
      by_cases (dec_lt e w.n)
      (λ (m : e < w.n).
      let k : q + (min e w.n - q) ≡ e = omega arith in
      record {
        within = omega arith;
        ones = λ i a b. ones i a (omega arith);
        stops = inr (rw k zero);
      })
      (λ (m : ¬ (e < w.n)). let k : min e w.n ≡ w.n = omega arith in rw k (tail_all (omega arith)))
