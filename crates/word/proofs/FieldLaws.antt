-- A field of the bits that a number holds.
-- Assumes nothing.
use mathlib.Core.Path.{◌≡◌, sym, ◌∙◌, ap}
use mathlib.Core.Bool.{Bool}
use mathlib.Core.List.{List, ◌++◌, map}
use Prim.Native.Nat.{ℕ, ◌+◌, ◌*◌, ◌/◌, ◌%◌, ◌^◌, ◌<◌}
use native.Mathlib.Nat.{one-mul}
use native.Mathlib.Omega.{arith}
use lib.Dec.{lit<}
use lib.Pow.{high, low, shl_exact}
use Rattle.bits.specs.Bit.{number_from, number, count}
use Rattle.bits.proofs.BitLaws.{number_append, number_from_lem, number_lt}
use Rattle.bits.proofs.CountLaws.{length-map-count, map-count-split}
use Rattle.channel.specs.Coding.{Word}
use Rattle.word.specs.Words.{field_at}

-- a one moved up by k
pub shl_one : (k : ℕ) → k < 64 → 1 * 2 ^ k % 2 ^ 64 ≡ 2 ^ k
shl_one k h = shl_exact {a = 1} 1 k 64 (lit< tt) (omega arith) ∙ one-mul (2 ^ k)

-- c of n bits from place p on, with k behind them
module _ (g : Word) (n q p c k : ℕ) (e : p + (c + k) ≡ n) where
  abbrev first : ℕ
  first = number (map g (count p q))

  abbrev field : List Bool
  field = map g (count c (q + p))

  abbrev rest : List Bool
  rest = map g (count k (q + p + c))

  parts : number (map g (count n q)) ≡ number_from (number_from first field) rest
  parts =
      ap (λ (m : ℕ). number (map g (count m q))) (sym e)
      ∙ ap number (map-count-split g p (c + k) q ∙ ap (λ (bs : List Bool). map g (count p q) ++ bs) (map-count-split g c k (q + p)))
      ∙ number_append (map g (count p q)) (field ++ rest) 0
      ∙ number_append field rest first

  upper : number (map g (count n q)) / 2 ^ k ≡ first * 2 ^ c + number field
  upper =
      let behind : number_from (number_from first field) rest ≡ number_from first field * 2 ^ k + number rest = number_from_lem rest (number_from first field) ∙ ap (λ (m : ℕ). number_from first field * 2 ^ m + number rest) (length-map-count g k (q + p + c)) in
      ap (λ (m : ℕ). m / 2 ^ k) (parts ∙ behind) ∙ high (number_from first field) k (rw (length-map-count g k (q + p + c)) at (number_lt rest))
      ∙ number_from_lem field first ∙ ap (λ (m : ℕ). first * 2 ^ m + number field) (length-map-count g c (q + p))

  pub field_in : field_at g n q / 2 ^ k % 2 ^ c ≡ number (map g (count c (q + p)))
  unfolding field_at
  field_in = rw upper (low first c (rw (length-map-count g c (q + p)) at (number_lt field)))
