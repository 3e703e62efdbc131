-- A CRC by parities over a frame's three words: each coefficient of the remainder is the parity of the bits at some of the listed places, told by masks.
-- Assumes nothing.
use Rattle.std.specs.Prelude.{◌≡◌, Bool, true, false, cond, List, [], ◌∷◌, ℕ, ◌+◌, ◌%◌, eqb, length, get_or}
use Rattle.std.specs.Coded.{Coded-set, coded_ℕ}
use Rattle.std.specs.Int.Bits.{bit_and, bit_xor}
use Rattle.std.specs.Int.Count as Count
use Rattle.channel.specs.Poly.{Rem}
use Rattle.channel.specs.Coding.{Word, bits_at, ones}
use Rattle.word.specs.declared.Words.{Words}
use Rattle.word.specs.Words.{Holds}
use Rattle.crc.specs.declared.Taps.{Taps}

-- what 1, X, X^2 and so on leave, up to X^6; X^7 leaves 1 again
abbrev pub powers : List Rem
powers =
    record { r2 = false; r1 = false; r0 = true }
    ∷ record { r2 = false; r1 = true; r0 = false }
    ∷ record { r2 = true; r1 = false; r0 = false }
    ∷ record { r2 = false; r1 = true; r0 = true }
    ∷ record { r2 = true; r1 = true; r0 = false }
    ∷ record { r2 = true; r1 = true; r0 = true }
    ∷ record { r2 = true; r1 = false; r0 = true }
    ∷ []

-- what X^n leaves
abbrev pub power : ℕ → Rem
power n = get_or powers (n % 7) (record { r2 = false; r1 = false; r0 = true })

-- the places of a word whose powers have a coefficient, the last place the constant term
abbrev pub taps : (Rem → Bool) → List ℕ → List ℕ
taps f [] = []
taps f (p ∷ ps) = cond (f (power (length ps))) (p ∷ taps f ps) (taps f ps)

-- the ones of the three numbers under three masks are odd in number where the bits at some places are
pub record ParityOf (ps : List ℕ) (a b c : ℕ) : Type 0 where
  pub odd_alike : (g : Word) (p q r : ℕ) → Holds g p q r → (Count.ones (bit_and p a) + Count.ones (bit_and q b) + Count.ones (bit_and r c)) % 2 ≡ ones (bits_at g ps) % 2

-- whether the ones of the three numbers under a mask are odd in number
abbrev pub odd_under : ℕ → ℕ → ℕ → Words → Bool
odd_under p q r m = eqb (Count.ones (bit_xor (bit_xor (bit_and p m.a) (bit_and q m.b)) (bit_and r m.c)) % 2) 1

-- the masks of a list: for each coefficient of the remainder one, of the places that it is the parity of
pub record MasksOf (ps : List ℕ) (m : Taps) : Type 0 where
  pub two : ParityOf (taps (λ r. r.r2) ps) m.two.a m.two.b m.two.c
  pub one : ParityOf (taps (λ r. r.r1) ps) m.one.a m.one.b m.one.c
  pub nil : ParityOf (taps (λ r. r.r0) ps) m.nil.a m.nil.b m.nil.c

-- of either fact there is one proof at most
ParityOf-prop : (ps : List ℕ) (a b c : ℕ) → IsProp (ParityOf ps a b c)
ParityOf-prop ps a b c x y = λ i. record { odd_alike = λ g p q r h. Coded-set coded_ℕ _ _ (x.odd_alike g p q r h) (y.odd_alike g p q r h) i }

pub MasksOf-prop : (ps : List ℕ) (m : Taps) → IsProp (MasksOf ps m)
MasksOf-prop ps m x y = λ i. record { two = ParityOf-prop _ _ _ _ x.two y.two i; one = ParityOf-prop _ _ _ _ x.one y.one i; nil = ParityOf-prop _ _ _ _ x.nil y.nil i }
