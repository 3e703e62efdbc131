-- How the code's modes and verdicts come to the definitions.
-- Assumes nothing.
use mathlib.Core.Path.{◌≡◌, ◌∙◌, ap}
use mathlib.Core.Bool.{true, false}
use mathlib.Core.Logic.{◌⊎◌, inl, inr}
use mathlib.Core.List.{[], ◌∷◌}
use Prim.Native.Nat.{ℕ, zero, suc, ◌+◌, ◌*◌, ◌/◌, ◌%◌, ◌^◌, ◌≤◌}
use native.Mathlib.Omega.{arith}
use borrow.Author.Tests.{eq-eqb, ne_eqb}
use lib.Dec.{eqb}
use lib.ListN.{get_or}
use Rattle.bits.specs.Bit.{to_n, number, count}
use Rattle.channel.specs.declared.Pattern.TheVariants.{Low}
use Rattle.channel.specs.declared.Terms.{Terms}
use Rattle.channel.specs.declared.Kind.{Kind}
use Rattle.channel.specs.declared.Kind.TheVariants.{Speech, Data, Om, Configuration, NoSpeech, Lower, Amr670, Amr740}
use Rattle.channel.specs.Places.{d_places}
use Rattle.channel.specs.Coding.{Word, bits_at, c1to3}
use Rattle.channel.specs.Checks.{checks_lower, checks_silence, checks}
use Rattle.channel.specs.Verdict.{Context, own_mode, context_mode, mode_of, class_of, carries, unchecked, wrongs, verdict_of, after_of}

-- a mode is 3 at most
named_le : (i : ℕ) → get_or (1 ∷ 2 ∷ 3 ∷ []) i 0 ≤ 3
named_le zero = omega arith
named_le (suc zero) = omega arith
named_le (suc (suc zero)) = omega arith
named_le (suc (suc (suc i))) = omega arith

pub own_le : (g : Word) → own_mode g ≤ 3
own_le g = named_le (c1to3 g Low)

-- a frame leaves a context of 5 at most
pub after_le : (x : Context) (g : Word) (k : Kind) → after_of x g k ≤ 5
after_le x g Speech = omega arith
after_le x g Data = omega arith
after_le x g Om = omega arith
after_le x g Configuration = omega arith
after_le x g NoSpeech = omega arith
after_le x g Lower = omega (arith, own_le g)
after_le x g Amr670 = omega arith
after_le x g Amr740 = omega arith

pub context_le : (x : Context) → context_mode x ≤ 3
context_le zero = omega arith
context_le (suc zero) = omega arith
context_le (suc (suc zero)) = omega arith
context_le (suc (suc (suc x))) = named_le x

-- the verdict of a kind with CRCs of its own
pub own_verdict : (t : Terms) (x : Context) (g : Word) (k : Kind) (r : ℕ) → unchecked t x g k ≡ false → carries t g k ≡ false → mode_of x g k ≡ 0
    → r ≡ wrongs g (checks 0 k) → r ≡ verdict_of t x g k
unfolding verdict_of
own_verdict t x g k r u c m e = rw (u, c, m) (omega arith)

-- of a kind without CRCs
pub none_covered : (t : Terms) (x : Context) (g : Word) (k : Kind) → (k ≡ Data) ⊎ ((k ≡ Om) ⊎ (k ≡ Configuration)) → 0 ≡ verdict_of t x g k
unfolding verdict_of checks
none_covered t x g k (inl e) = rw e
none_covered t x g k (inr (inl e)) = rw e
none_covered t x g k (inr (inr e)) = rw e

-- of a kind 5, by its class
module _ (t : Terms) (x : Context) (g : Word) (class : ℕ) (is : class ≡ class_of g) where
  pub silence-unchecked : t.profile / 2 ^ class % 2 ≡ 0 → 128 ≡ verdict_of t x g NoSpeech
  unfolding verdict_of checks
  silence-unchecked z = let n : eqb (t.profile / 2 ^ class_of g % 2) 1 ≡ false = rw (← is) (ne_eqb (t.profile / 2 ^ class % 2) 1 (omega arith)) in rw n

  pub silence_checked : (r : ℕ) → (t.profile / 2 ^ class % 2 ≡ 0 → ⊥) → r ≡ wrongs g checks_silence → r ≡ verdict_of t x g NoSpeech
  unfolding verdict_of
  silence_checked r z e = let n : eqb (t.profile / 2 ^ class_of g % 2) 1 ≡ true = rw (← is) (eq-eqb (t.profile / 2 ^ class % 2) 1 (omega arith)) in rw n (omega arith)

-- the class by its two fields
pub class_is : (g : Word) (x y : ℕ) → x ≡ number (bits_at g (count 2 22)) → y ≡ number (bits_at g (count 1 26)) → 2 * x + y ≡ class_of g
unfolding d_places
class_is g x y p q = omega arith

-- and of a kind 6
pub lower_verdict_lem : (t : Terms) (x : Context) (g : Word) (mode r : ℕ) → mode ≡ mode_of x g Lower → r ≡ 128 * to_n (eqb mode 0) + 16 * mode + wrongs g (checks_lower mode) → r ≡ verdict_of t x g Lower
unfolding verdict_of checks
lower_verdict_lem t x g mode r m e = e ∙ ap (λ (n : ℕ). 128 * to_n (eqb n 0) + 16 * n + wrongs g (checks_lower n)) m
