-- A CRC is right where the ones under each of three masks are odd in number.
-- Assumes nothing.
use mathlib.Core.Path.{◌≡◌, sym, ◌∙◌, ap, ap₂}
use mathlib.Core.Bool.{◌&&◌}
use mathlib.Core.List.{List}
use Prim.Native.Nat.{ℕ, zero, suc, ◌+◌, ◌*◌, ◌/◌, ◌%◌, ◌<◌}
use native.Mathlib.Omega.{arith}
use lib.Arith.{bin_ind}
use lib.Bits.{bit_xor, xor_step, differ}
use lib.Count as Count
use lib.Dec.{eqb}
use Rattle.channel.specs.Coding.{Word, bits_at, odd}
use Rattle.channel.specs.Crc.{right}
use Rattle.word.specs.declared.Words.{Words}
use Rattle.word.specs.Words.{Holds}
use Rattle.crc.specs.declared.Taps.{Taps}
use Rattle.crc.specs.Taps.{ParityOf, odd_under, MasksOf}
use Rattle.crc.proofs.TapLaws.{right-taps}
use Rattle.crc.proofs.ParityLaws.{ones_none}

-- the ones of two numbers and of their sum without carry are odd alike
xor_ones : (a b : ℕ) → Count.ones (bit_xor a b) % 2 ≡ (Count.ones a + Count.ones b) % 2
xor_ones = bin_ind (λ (n : ℕ). (b : ℕ) → Count.ones (bit_xor n b) % 2 ≡ (Count.ones n + Count.ones b) % 2) (λ b. base b) (λ n ih b. turn n b (ih (b / 2)))
  where
    base : (b : ℕ) → Count.ones (bit_xor 0 b) % 2 ≡ (Count.ones 0 + Count.ones b) % 2
    base b = let e : Count.ones 0 + Count.ones b ≡ Count.ones b = omega (arith, ones_none) in rw e

    bit : (x y m k l : ℕ) → x < 2 → y < 2 → m % 2 ≡ (k + l) % 2 → (differ x y + m) % 2 ≡ ((x + k) + (y + l)) % 2
    bit zero zero m k l hx hy e = omega arith
    bit zero (suc zero) m k l hx hy e = omega arith
    bit (suc zero) zero m k l hx hy e = omega arith
    bit (suc zero) (suc zero) m k l hx hy e = omega arith
    bit zero (suc (suc y)) m k l hx hy e = absurd (omega arith)
    bit (suc zero) (suc (suc y)) m k l hx hy e = absurd (omega arith)
    bit (suc (suc x)) y m k l hx hy e = absurd (omega arith)

    turn : (n b : ℕ) → Count.ones (bit_xor (n / 2) (b / 2)) % 2 ≡ (Count.ones (n / 2) + Count.ones (b / 2)) % 2 → Count.ones (bit_xor n b) % 2 ≡ (Count.ones n + Count.ones b) % 2
    turn n b e =
        let m = bit_xor (n / 2) (b / 2) in
        let d = differ (n % 2) (b % 2) in
        ap (λ (v : ℕ). Count.ones v % 2) (xor_step n b) ∙ sum m d (small (n % 2) (b % 2) (omega arith) (omega arith))
        ∙ bit (n % 2) (b % 2) (Count.ones m) (Count.ones (n / 2)) (Count.ones (b / 2)) (omega arith) (omega arith) e
        ∙ ap₂ (λ (x y : ℕ). (x + y) % 2) (sym (Count.ones_step n)) (sym (Count.ones_step b))
      where
        small : (x y : ℕ) → x < 2 → y < 2 → differ x y < 2
        small zero y hx hy = hy
        small (suc zero) zero hx hy = hx
        small (suc zero) (suc y) hx hy = omega arith
        small (suc (suc x)) y hx hy = absurd (omega arith)

        sum : (m d : ℕ) → d < 2 → Count.ones (m * 2 + d) % 2 ≡ (d + Count.ones m) % 2
        sum m d h =
            let a : (m * 2 + d) % 2 ≡ d = omega arith in
            let b : (m * 2 + d) / 2 ≡ m = omega arith in
            ap (λ (v : ℕ). v % 2) (Count.ones_step (m * 2 + d)) ∙ rw (a, b)

ones_pair : (x y z : ℕ) → Count.ones (bit_xor (bit_xor x y) z) % 2 ≡ (Count.ones x + Count.ones y + Count.ones z) % 2
ones_pair x y z = omega (arith, xor_ones (bit_xor x y) z, xor_ones x y)

-- the parity by a mask is that of the bits at the places it is of
odd_is : (g : Word) (p q r : ℕ) (qs : List ℕ) (m : Words) → Holds g p q r → ParityOf qs m.a m.b m.c → odd_under p q r m ≡ odd (bits_at g qs)
odd_is g p q r qs m h t = ap (λ (n : ℕ). eqb n 1) (ones_pair _ _ _ ∙ t.odd_alike g p q r h)

-- so a CRC is right where all three are odd
pub right_odd : (g : Word) (p q r : ℕ) (ps : List ℕ) (m : Taps) → Holds g p q r → MasksOf ps m → odd_under p q r m.two && odd_under p q r m.one && odd_under p q r m.nil ≡ right g ps
right_odd g p q r ps m h t = rw (odd_is g p q r _ m.two h t.two, odd_is g p q r _ m.one h t.one, odd_is g p q r _ m.nil h t.nil) (sym (right-taps g ps))

-- and alike for all octets that have these words
pub right_alike : (g h : Word) (p q r : ℕ) (ps : List ℕ) (m : Taps) → Holds g p q r → Holds h p q r → MasksOf ps m → right g ps ≡ right h ps
right_alike g h p q r ps m a b t = sym (right_odd g p q r ps m a t) ∙ right_odd h p q r ps m b t
